use Rattle.std.proofs.Common.{◌≤◌, ◌∙◌, length, rules, sym}
use Rattle.qc_route.specs.inner.Putting.{full}
use Rattle.qc_route.proofs.path.put_word.Goals as goal

pub returns-clause-none : goal.returns-clause-none
returns-clause-none c =
    λ e. (let room : 16 ≤ length c.args.words.now.items = search rules in
    full c.in_ok-word.word (sym c.of.ensures ∙ c.in_ok-word.was) room)
