use Rattle.std.proofs.Common.{◌≡◌, drop, map}
use Rattle.qc_data.specs.Outcome.{bits64}
use Rattle.qc_js.specs.Meaning.{all_of, for_each, stmt, with_constant}
use Rattle.qc_js_run.specs.inner.Stores.{store_of}
use Rattle.qc_js_run.proofs.evaluating.+run.Given as goal

-- what is left leads where all does
abbrev pub invariant-all_of-loop-statement : goal.invariant-all_of-loop-statement
invariant-all_of-loop-statement l =
    all_of (map (stmt bits64 l.world) l.statements) (store_of l.initial.store)
    ≡ all_of (map (stmt bits64 l.world) (drop l.statement-index l.statements)) (store_of l.store)

abbrev pub invariant-for_each-loop-member : goal.invariant-for_each-loop-member
invariant-for_each-loop-member l =
    for_each (with_constant l.x (map (stmt bits64 l.world) l.statements)) l.members (store_of l.initial.store)
    ≡ for_each (with_constant l.x (map (stmt bits64 l.world) l.statements)) (drop l.member-index l.members)
    (store_of l.store)
