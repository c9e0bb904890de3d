use Rattle.std.proofs.Common.{◌≡◌, map, drop}
use Rattle.qc_typing.specs.Checking.{each_checked}
use Rattle.qc_oql_tree.specs.FormTypings.{keys_checked, sources_bound, typed_field}
use Rattle.qc_oql_check.specs.inner.Scopes.{field_types, onto, types_of}
use Rattle.qc_oql_tree.specs.Typing.{key_type, named_type, oql_type}
use Rattle.qc_oql_check.proofs.Traversals.{checked_from}
use Rattle.qc_oql_check.proofs.expression.+typing.Given as goal

abbrev pub invariant-member_types-loop-member : goal.invariant-member_types-loop-member
invariant-member_types-loop-member l =
    each_checked (λ member. member (types_of l.scope)) (map (oql_type l.schema) l.members)
    ≡ checked_from (λ member. member (types_of l.scope)) l.types
    (map (oql_type l.schema) (drop l.member-index l.members))

abbrev pub invariant-typed_fields-loop-field : goal.invariant-typed_fields-loop-field
invariant-typed_fields-loop-field l =
    each_checked (typed_field (types_of l.scope)) (map (named_type l.schema) l.fields)
    ≡ checked_from (typed_field (types_of l.scope)) (field_types l.typed.items)
    (map (named_type l.schema) (drop l.field-index l.fields))

abbrev pub invariant-bound_row-loop-source : goal.invariant-bound_row-loop-source
invariant-bound_row-loop-source l =
    sources_bound (map (named_type l.schema) l.sources) (types_of l.scope)
    ≡ sources_bound (map (named_type l.schema) (drop l.source-index l.sources)) (onto l.row (types_of l.scope))

abbrev pub invariant-keys_checked-loop-key : goal.invariant-keys_checked-loop-key
invariant-keys_checked-loop-key l =
    keys_checked l.schema.classes l.at (map (key_type l.schema) l.keys) (types_of l.scope)
    ≡ keys_checked l.schema.classes l.at (map (key_type l.schema) (drop l.key-index l.keys)) (types_of l.scope)
