use Rattle.std.proofs.Common.{◌≡◌, drop}
use Rattle.qc_ops.specs.Records.{compatible}
use Rattle.qc_rt.specs.Seen.{fields_seen}
use Rattle.qc_runtime.proofs.objects.compatible.Given as goal

abbrev pub invariant-loop-pair : goal.invariant-loop-pair
invariant-loop-pair l =
    compatible (fields_seen l.first) (fields_seen l.second)
    ≡ compatible (fields_seen (drop l.pair-index l.pair-items)) (fields_seen l.second)
