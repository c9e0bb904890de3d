use Rattle.std.proofs.Common.{◌≡◌, drop, map}
use Rattle.qc_data.specs.Outcome.{alone, each}
use Rattle.qc_data.proofs.Outcomes.{gather_from}
use Rattle.qc_ops.specs.Operands.{as_bool}
use Rattle.qc_rt.specs.Seen.{seen}
use Rattle.qc_seen.proofs.arguments.directions_in.Given as goal

abbrev pub invariant-loop-item : goal.invariant-loop-item
invariant-loop-item l =
    each as_bool (map seen l.items)
    ≡ gather_from (λ x. alone (as_bool x)) l.directions (map seen (drop l.item-index l.items))
