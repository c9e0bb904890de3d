use Rattle.std.proofs.Common.{◌≡◌, map, take}
use Rattle.qc_ops.specs.inner.Columns.{behind, keyed_rows, with_values}
use Rattle.qc_ops.proofs.columns.with_values.Given as goal

abbrev pub invariant-loop-record : goal.invariant-loop-record
invariant-loop-record l = keyed_rows l.all.items ≡ map (with_values l.keys) (behind (take l.record-index l.records))
