use Rattle.std.proofs.Common.{◌≡◌, drop, map}
use Rattle.std.specs.List.{list_all}
use Rattle.qc_ops.specs.inner.Columns.{nth}
use Rattle.qc_runtime.specs.inner.Columns.{is_of}
use Rattle.qc_runtime.specs.declared.columns.Keyed.{Keyed}
use Rattle.qc_runtime.proofs.columns.all_of.Given as goal

abbrev pub invariant-loop-row : goal.invariant-loop-row
invariant-loop-row l =
    list_all (is_of l.kind) (map (nth l.at) (map (λ (row : Keyed). row.values) l.rows))
    ≡ list_all (is_of l.kind) (map (nth l.at) (map (λ (row : Keyed). row.values) (drop l.row-index l.rows)))
