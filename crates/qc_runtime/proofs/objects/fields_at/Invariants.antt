use Rattle.std.proofs.Common.{◌≡◌, take}
use Rattle.std.specs.Prelude.{filter}
use Rattle.qc_ops.specs.Records.{is_among}
use Rattle.qc_runtime.proofs.objects.fields_at.Given as goal

abbrev pub invariant-loop-pair : goal.invariant-loop-pair
invariant-loop-pair l =
    l.part ≡ filter (λ pair. is_among pair.0 l.names) (take l.pair-index l.pair-items)
