use Rattle.std.proofs.Common.{◌≡◌, take}
use Rattle.qc_ops.specs.inner.Columns.{values_at}
use Rattle.qc_ops.proofs.columns.values_at.Given as goal

abbrev pub invariant-loop-key : goal.invariant-loop-key
invariant-loop-key l = l.values ≡ values_at (take l.key-index l.key-items) l.fields
