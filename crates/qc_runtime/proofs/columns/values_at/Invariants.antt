use Rattle.std.proofs.Common.{◌≡◌, take}
use Rattle.qc_runtime.specs.inner.Columns.{key_values}
use Rattle.qc_rt.specs.Seen.{fields_seen}
use Rattle.qc_runtime.proofs.columns.values_at.Given as goal

abbrev pub invariant-loop-key : goal.invariant-loop-key
invariant-loop-key l = l.values ≡ key_values (take l.key-index l.keys) (fields_seen l.fields)
