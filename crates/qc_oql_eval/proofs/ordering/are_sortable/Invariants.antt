use Rattle.std.proofs.Common.{◌≡◌, drop, map}
use Rattle.qc_oql_eval.specs.inner.SelectRows.{keyed_rows, directions}
use Rattle.qc_oql_tree.specs.SelectMeaning.{are_sortable}
use Rattle.qc_oql_eval.specs.inner.Columns.{are_sortable_from}
use Rattle.qc_oql_eval.proofs.ordering.are_sortable.Given as goal

abbrev pub invariant-loop-at : goal.invariant-loop-at
invariant-loop-at l =
    are_sortable (directions l.keys) (map (λ row. row.0) (keyed_rows l.rows))
    ≡ are_sortable_from l.at (directions (drop l.at l.keys)) (keyed_rows l.rows)
