use Rattle.std.proofs.Common.{◌≡◌, drop, map}
use Rattle.qc_data.specs.Facts.{all_true}
use Rattle.qc_containers.specs.Rising.{on_value}
use Rattle.qc_types.specs.Schemas.{user_fields, user_named}
use Rattle.qc_types.proofs.naming.+naming.Given as goal

-- what is left decides
abbrev pub invariant-are_user_named-loop-item : goal.invariant-are_user_named-loop-item
invariant-are_user_named-loop-item l = record {
  whole : l.item-items ≡ l.items;
  left : all_true (map user_named l.items) ≡ all_true (map user_named (drop l.item-index l.item-items));
}

abbrev pub invariant-fields_user_named-loop-pair : goal.invariant-fields_user_named-loop-pair
invariant-fields_user_named-loop-pair l = record {
  whole : l.pair-items ≡ l.fields;
  left : user_fields (map (on_value user_named) l.fields)
      ≡ user_fields (map (on_value user_named) (drop l.pair-index l.pair-items));
}
