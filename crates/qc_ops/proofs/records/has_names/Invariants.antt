use Rattle.std.proofs.Common.{◌≡◌, drop}
use Rattle.qc_ops.specs.Records.{has_names}
use Rattle.qc_ops.proofs.records.has_names.Given as goal

abbrev pub invariant-loop-name : goal.invariant-loop-name
invariant-loop-name l = has_names l.names l.fields ≡ has_names (drop l.name-index l.name-items) l.fields
