use Rattle.std.proofs.Common.{◌≡◌, drop}
use Rattle.qc_typing.specs.FieldTypes.{has_names}
use Rattle.qc_typing.proofs.fields.has_names.Given as goal

-- what is left decides
abbrev pub invariant-loop-name : goal.invariant-loop-name
invariant-loop-name l = record {
  whole : l.name-items ≡ l.names;
  left : has_names l.names l.row ≡ has_names (drop l.name-index l.name-items) l.row;
}
