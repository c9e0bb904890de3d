use Rattle.std.proofs.Common.{◌≡◌, map, take}
use Rattle.qc_ops.specs.inner.Columns.{behind}
use Rattle.qc_oql_eval.specs.inner.SelectRows.{keyed_rows}
use Rattle.qc_oql_eval.proofs.ordering.without_keys.Given as goal

abbrev pub invariant-loop-row : goal.invariant-loop-row
invariant-loop-row l = behind l.all.items ≡ map (λ row. row.1) (keyed_rows (take l.row-index l.rows))
