use Rattle.std.proofs.Common.{◌≡◌, drop, map, take}
use Rattle.qc_containers.specs.Rising.{on_value}
use Rattle.qc_types.specs.declared.ty.Ty.TheVariants as ty
use Rattle.qc_trees.specs.ConstantTypes.{all_typed, datum_type, join_all, or_bottom}
use Rattle.qc_trees.proofs.constants.+constants.Given as goal

abbrev pub invariant-members_join-loop-item : goal.invariant-members_join-loop-item
invariant-members_join-loop-item l =
    join_all l.classes ty.Bottom (map (datum_type l.classes) l.items)
    ≡ join_all l.classes l.joined (map (datum_type l.classes) (drop l.item-index l.items))

-- the fields so far, and the test of those that are left
abbrev pub invariant-record_type-loop-field : goal.invariant-record_type-loop-field
invariant-record_type-loop-field l = record {
  upto : l.row ≡ map (on_value (λ d. or_bottom (datum_type l.classes d))) (take l.field-index l.field-items);
  left : all_typed (map (on_value (datum_type l.classes)) l.fields)
      ≡ all_typed (map (on_value (datum_type l.classes)) (drop l.field-index l.field-items));
}
