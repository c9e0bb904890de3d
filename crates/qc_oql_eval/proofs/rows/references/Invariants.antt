use Rattle.std.proofs.Common.{◌≡◌, take}
use Rattle.qc_ops.specs.inner.Columns.{behind}
use Rattle.qc_oql_eval.proofs.rows.references.Given as goal

abbrev pub invariant-loop-item : goal.invariant-loop-item
invariant-loop-item g l = behind l.all.items ≡ take l.item-index l.items
