use Rattle.std.proofs.Common.{◌≡◌, drop}
use Rattle.qc_ops.specs.inner.Columns.{values_cmp}
use Rattle.qc_runtime.proofs.sorting.values_cmp.Given as goal

abbrev pub invariant-loop-at : goal.invariant-loop-at
invariant-loop-at l =
    values_cmp 0 l.keys l.first l.second ≡ values_cmp l.at (drop l.at l.keys) l.first l.second
