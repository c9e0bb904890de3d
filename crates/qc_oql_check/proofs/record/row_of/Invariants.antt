use Rattle.std.proofs.Common.{◌≡◌, [], drop}
use Rattle.qc_oql_tree.specs.PartTypes.{row_of}
use Rattle.qc_oql_check.specs.inner.Scopes.{field_types}
use Rattle.qc_oql_check.proofs.record.row_of.Given as goal

abbrev pub invariant-loop-field : goal.invariant-loop-field
invariant-loop-field l = row_of (field_types l.fields) [] ≡ row_of (field_types (drop l.field-index l.fields)) l.row
