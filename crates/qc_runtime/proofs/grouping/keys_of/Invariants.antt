use Rattle.std.proofs.Common.{◌≡◌, drop, map}
use Rattle.qc_data.specs.Outcome.{alone, each}
use Rattle.qc_data.proofs.Outcomes.{gather_from}
use Rattle.qc_ops.specs.Records.{projection}
use Rattle.qc_rt.specs.Seen.{seen}
use Rattle.qc_runtime.proofs.grouping.keys_of.Given as goal

abbrev pub invariant-loop-row : goal.invariant-loop-row
invariant-loop-row l =
    each (projection l.names) (map seen l.rows)
    ≡ gather_from (λ x. alone (projection l.names x)) (map seen l.keys) (map seen (drop l.row-index l.rows))
