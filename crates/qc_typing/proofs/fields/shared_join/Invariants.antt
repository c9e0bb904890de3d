use Rattle.std.proofs.Common.{◌≡◌, drop}
use Rattle.qc_typing.specs.FieldTypes.{shared_join}
use Rattle.qc_typing.proofs.fields.shared_join.Given as goal

-- what is left decides
abbrev pub invariant-loop-field : goal.invariant-loop-field
invariant-loop-field l = record {
  whole : l.field-items ≡ l.first;
  left : shared_join l.classes l.first l.second ≡ shared_join l.classes (drop l.field-index l.field-items) l.second;
}
