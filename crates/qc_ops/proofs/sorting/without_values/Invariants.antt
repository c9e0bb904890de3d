use Rattle.std.proofs.Common.{◌≡◌, take, map}
use Rattle.qc_data.specs.declared.data.Datum.TheVariants.{Rec}
use Rattle.qc_ops.specs.inner.Columns.{keyed_rows}
use Rattle.qc_ops.proofs.sorting.without_values.Given as goal

abbrev pub invariant-loop-row : goal.invariant-loop-row
invariant-loop-row l = l.all ≡ map (λ row. Rec row.1) (keyed_rows (take l.row-index l.rows))
