use Rattle.std.proofs.Common.{arith, sym, ◌∙◌}
use Rattle.qc_types.proofs.Places.{before_gone, before_none, before_there}
use Rattle.qc_types.proofs.index.ClassIndex.before.Goals as goal

pub returns-then-place-at : goal.returns-then-place-at
returns-then-place-at c =
    c.at.ensures ∙ sym (before_there c.args.self.now c.args.at c.in-Some.place c.args.name.now
    (sym c.in-Some.ensures.value) c.if-place-at.true)

pub returns-else-place-at : goal.returns-else-place-at
returns-else-place-at c =
    sym (before_gone c.args.self.now c.in-Some.ensures.names c.args.at c.in-Some.place c.args.name.now
    (sym c.in-Some.ensures.value) (omega (arith, c.if-place-at.false)))

pub returns-in-None : goal.returns-in-None
returns-in-None c = sym (before_none c.args.self.now c.args.at c.args.name.now (sym c.in-None.ensures.value))
