use Rattle.std.proofs.Common.{◌≡◌, drop}
use Rattle.qc_data.specs.Outcome.{alone, each}
use Rattle.qc_data.proofs.Outcomes.{gather_from}
use Rattle.qc_ops.specs.inner.Columns.{behind}
use Rattle.qc_ops.specs.Operands.{as_rec}
use Rattle.qc_ops.proofs.columns.records_of.Given as goal

abbrev pub invariant-loop-row : goal.invariant-loop-row
invariant-loop-row l =
    each as_rec l.rows ≡ gather_from (λ x. alone (as_rec x)) (behind l.records.items) (drop l.row-index l.rows)
