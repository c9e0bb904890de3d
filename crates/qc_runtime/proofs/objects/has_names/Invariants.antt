use Rattle.std.proofs.Common.{◌≡◌, drop}
use Rattle.qc_ops.specs.Records.{has_names}
use Rattle.qc_rt.specs.Seen.{fields_seen}
use Rattle.qc_runtime.proofs.objects.has_names.Given as goal

abbrev pub invariant-loop-name : goal.invariant-loop-name
invariant-loop-name l =
    has_names l.names (fields_seen l.fields) ≡ has_names (drop l.name-index l.names) (fields_seen l.fields)
