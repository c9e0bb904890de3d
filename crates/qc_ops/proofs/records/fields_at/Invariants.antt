use Rattle.std.proofs.Common.{◌≡◌, take}
use Rattle.qc_ops.specs.Records.{fields_at}
use Rattle.qc_ops.proofs.records.fields_at.Given as goal

abbrev pub invariant-loop-pair : goal.invariant-loop-pair
invariant-loop-pair l = l.part ≡ fields_at l.names (take l.pair-index l.pair-items)
