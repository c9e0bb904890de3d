use Rattle.std.proofs.Common.{◌≡◌, drop, map}
use Rattle.qc_data.specs.Outcome.{alone, each}
use Rattle.qc_data.proofs.Outcomes.{gather_from}
use Rattle.qc_rt.specs.Parameters.{as_name}
use Rattle.qc_rt.specs.Seen.{seen}
use Rattle.qc_seen.proofs.arguments.names_in.Given as goal

abbrev pub invariant-loop-item : goal.invariant-loop-item
invariant-loop-item l =
    each as_name (map seen l.items) ≡ gather_from (λ x. alone (as_name x)) l.names
    (map seen (drop l.item-index l.items))
