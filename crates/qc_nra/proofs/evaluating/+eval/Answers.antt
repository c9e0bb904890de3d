use Rattle.std.proofs.Common.{◌≡◌, [], ap, ◌∙◌, arith, drop, rules}
use Rattle.std.proofs.lemmas.List.{drop_all}
use Rattle.qc_data.specs.Kinds.{as_coll}
use Rattle.qc_data.specs.Outcome.{Value, alone, bits64, each}
use Rattle.qc_data.proofs.Outcomes.{gather_from}
use Rattle.qc_nra.specs.Meaning.{nra}
use Rattle.qc_nra.proofs.Mapped.{map_made}
use Rattle.qc_nra.proofs.evaluating.+eval.Goals as goal

pub map_of-returns : goal.map_of-returns
map_of-returns t c =
    let is : as_coll c.args.source.now ≡ Value c.as_slice-item-items.result.now = search rules in
    let none : drop c.loop-item.item-index c.as_slice-item-items.result.now ≡ [] =
    drop_all c.loop-item.item-index c.as_slice-item-items.result.now (omega arith) in
    let made : each (λ x. nra bits64 c.args.world.now c.args.body.now x c.args.env.now)
    c.as_slice-item-items.result.now ≡ Value c.loop-item.all =
    c.loop-item.invariant ∙ ap (gather_from (λ x. alone (nra bits64 c.args.world.now c.args.body.now x c.args.env.now))
    c.loop-item.all) none in
    map_made (nra bits64 c.args.world.now c.args.body.now) c.args.env.now c.args.source.now
    c.as_slice-item-items.result.now c.loop-item.all is made
