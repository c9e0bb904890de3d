use Rattle.std.proofs.Common.{◌≡◌, drop}
use Rattle.qc_ops.specs.Records.{is_among}
use Rattle.qc_typing.proofs.fields.is_among.Given as goal

-- what is left decides
abbrev pub invariant-loop-other : goal.invariant-loop-other
invariant-loop-other l = record {
  whole : l.other-items ≡ l.names;
  left : is_among l.name l.names ≡ is_among l.name (drop l.other-index l.other-items);
}
