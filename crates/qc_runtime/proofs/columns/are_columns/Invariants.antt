use Rattle.std.proofs.Common.{◌≡◌, drop, map}
use Rattle.qc_runtime.specs.inner.Columns.{columns_hold}
use Rattle.qc_runtime.specs.declared.columns.Keyed.{Keyed}
use Rattle.qc_runtime.proofs.columns.are_columns.Given as goal

abbrev pub invariant-loop-at : goal.invariant-loop-at
invariant-loop-at l =
    columns_hold 0 l.keys (map (λ (row : Keyed). row.values) l.rows)
    ≡ columns_hold l.at (drop l.at l.keys) (map (λ (row : Keyed). row.values) l.rows)
