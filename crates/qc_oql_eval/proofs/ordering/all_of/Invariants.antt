use Rattle.std.proofs.Common.{◌≡◌, drop, map}
use Rattle.std.specs.List.{list_all}
use Rattle.qc_oql_eval.specs.inner.SortKinds.{is_of}
use Rattle.qc_oql_eval.specs.inner.SelectRows.{keyed_rows}
use Rattle.qc_oql_eval.specs.inner.Columns.{value_at}
use Rattle.qc_oql_eval.proofs.ordering.all_of.Given as goal

abbrev pub invariant-loop-row : goal.invariant-loop-row
invariant-loop-row l =
    list_all (is_of l.kind) (map (λ row. value_at l.at row.0) (keyed_rows l.rows))
    ≡ list_all (is_of l.kind) (map (λ row. value_at l.at row.0) (keyed_rows (drop l.row-index l.rows)))
