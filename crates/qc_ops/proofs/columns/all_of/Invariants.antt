use Rattle.std.proofs.Common.{◌≡◌, drop, map}
use Rattle.std.specs.List.{list_all}
use Rattle.qc_ops.specs.inner.Columns.{is_of, keyed_rows, nth}
use Rattle.qc_ops.proofs.columns.all_of.Given as goal

abbrev pub invariant-loop-row : goal.invariant-loop-row
invariant-loop-row l =
    list_all (is_of l.kind) (map (λ row. nth l.at row.0) (keyed_rows l.rows))
    ≡ list_all (is_of l.kind) (map (λ row. nth l.at row.0) (keyed_rows (drop l.row-index l.rows)))
