use Rattle.std.proofs.Common.{◌≡◌, take, map}
use Rattle.qc_runtime.specs.declared.columns.Keyed.{Keyed}
use Rattle.qc_runtime.proofs.sorting.trees.Given as goal

abbrev pub invariant-loop-row : goal.invariant-loop-row
invariant-loop-row l = l.all ≡ map (λ (row : Keyed). row.tree.now) (take l.row-index l.rows)
