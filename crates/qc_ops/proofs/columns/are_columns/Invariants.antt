use Rattle.std.proofs.Common.{◌≡◌, drop}
use Rattle.qc_ops.specs.inner.Columns.{are_columns, keyed_rows}
use Rattle.qc_ops.proofs.columns.are_columns.Given as goal

abbrev pub invariant-loop-at : goal.invariant-loop-at
invariant-loop-at l =
    are_columns 0 l.keys (keyed_rows l.rows) ≡ are_columns l.at (drop l.at l.keys) (keyed_rows l.rows)
