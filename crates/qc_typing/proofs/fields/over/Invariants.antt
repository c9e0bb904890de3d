use Rattle.std.proofs.Common.{◌≡◌, drop}
use Rattle.qc_typing.specs.FieldTypes.{over}
use Rattle.qc_typing.proofs.fields.over.Given as goal

-- what is left goes over what is there
abbrev pub invariant-loop-field : goal.invariant-loop-field
invariant-loop-field l = record {
  whole : l.field-items ≡ l.first;
  left : over l.first l.second ≡ over (drop l.field-index l.field-items) l.fields;
}
