use Rattle.std.proofs.Common.{◌≡◌, None, Some, ap, arith, ◌∙◌, map, refl, rules, sym, true}
use Rattle.std.proofs.lemmas.List.{drop_all, take_all}
use Rattle.std.specs.Prelude.{option_map}
use Rattle.qc_containers.proofs.Putting.{Rising-next-map}
use Rattle.qc_containers.specs.Rising.{on_value}
use Rattle.qc_data.specs.declared.data.Datum.{the_lemmas}
use Rattle.qc_data.specs.declared.data.Datum.TheVariants as datum
use Rattle.qc_types.specs.declared.ty.Ty.TheVariants as ty
use Rattle.qc_types.specs.Joins.{join}
use Rattle.qc_types.specs.Types.{fits}
use Rattle.qc_typing.specs.Kinds.{when}
use Rattle.qc_trees.specs.ConstantTypes.{all_typed, datum_type, join_all, or_bottom}
use Rattle.qc_trees.proofs.DatumTypes.{arm, join_more, row_made, row_more, type-Unit, type-Bool, type-Int, type-Text}
use Rattle.qc_trees.proofs.DatumTypes.{type-Coll, type-Rec, type-Left, type-Right, type-Brand, typed_more, typed_or}
use Rattle.qc_trees.proofs.constants.+constants.Goals as goal

pub datum_type-returns-in-Unit : goal.datum_type-returns-in-Unit
datum_type-returns-in-Unit t c =
    let is : c.args.d.now ≡ datum.Unit = search (rules, the_lemmas) in
    sym (ap (datum_type c.args.classes.now) is ∙ type-Unit c.args.classes.now)

pub datum_type-returns-in-Bool : goal.datum_type-returns-in-Bool
datum_type-returns-in-Bool t c =
    let is : c.args.d.now ≡ datum.Bool c.in-Bool.field-0 = search (rules, the_lemmas) in
    sym (ap (datum_type c.args.classes.now) is ∙ type-Bool c.args.classes.now c.in-Bool.field-0)

pub datum_type-returns-in-Int : goal.datum_type-returns-in-Int
datum_type-returns-in-Int t c =
    let is : c.args.d.now ≡ datum.Int c.in-Int.field-0 = search (rules, the_lemmas) in
    sym (ap (datum_type c.args.classes.now) is ∙ type-Int c.args.classes.now c.in-Int.field-0)

pub datum_type-returns-in-Text : goal.datum_type-returns-in-Text
datum_type-returns-in-Text t c =
    let is : c.args.d.now ≡ datum.Text c.in-Text.field-0 = search (rules, the_lemmas) in
    sym (ap (datum_type c.args.classes.now) is ∙ type-Text c.args.classes.now c.in-Text.field-0)

pub datum_type-returns-in_ok-member-in-Coll : goal.datum_type-returns-in_ok-member-in-Coll
datum_type-returns-in_ok-member-in-Coll t c =
    let is : c.args.d.now ≡ datum.Coll c.as_slice.result.now = search (rules, the_lemmas) in
    let member : join_all c.args.classes.now ty.Bottom (map (datum_type c.args.classes.now) c.as_slice.result.now)
    ≡ c.in_ok-member-in-Coll.member = search rules in
    arm c.args.classes.now c.args.d.now (datum.Coll c.as_slice.result.now) _
    (option_map (λ u. ty.Coll u) c.in_ok-member-in-Coll.member) c.collections.result is
    (type-Coll c.args.classes.now c.as_slice.result.now) (ap (option_map (λ u. ty.Coll u)) member)
    c.collections.ensures

pub datum_type-returns-in-Rec : goal.datum_type-returns-in-Rec
datum_type-returns-in-Rec t c =
    let is : c.args.d.now ≡ datum.Rec c.in-Rec.fields = search (rules, the_lemmas) in
    arm c.args.classes.now c.args.d.now (datum.Rec c.in-Rec.fields) _ _ c.record_type.result is
    (type-Rec c.args.classes.now c.in-Rec.fields) refl c.record_type.ensures

pub datum_type-returns-in_ok-left-in-Left : goal.datum_type-returns-in_ok-left-in-Left
datum_type-returns-in_ok-left-in-Left t c =
    let is : c.args.d.now ≡ datum.Left c.get.result.now = search (rules, the_lemmas) in
    let left : datum_type c.args.classes.now c.get.result.now ≡ c.in_ok-left-in-Left.left = search rules in
    arm c.args.classes.now c.args.d.now (datum.Left c.get.result.now) _
    (option_map (λ u. ty.Either u ty.Bottom) c.in_ok-left-in-Left.left) c.left_values.result is
    (type-Left c.args.classes.now c.get.result.now) (ap (option_map (λ u. ty.Either u ty.Bottom)) left)
    c.left_values.ensures

pub datum_type-returns-in_ok-right-in-Right : goal.datum_type-returns-in_ok-right-in-Right
datum_type-returns-in_ok-right-in-Right t c =
    let is : c.args.d.now ≡ datum.Right c.get-in-Right.result.now = search (rules, the_lemmas) in
    let right : datum_type c.args.classes.now c.get-in-Right.result.now ≡ c.in_ok-right-in-Right.right =
    search rules in
    arm c.args.classes.now c.args.d.now (datum.Right c.get-in-Right.result.now) _
    (option_map (λ u. ty.Either ty.Bottom u) c.in_ok-right-in-Right.right) c.right_values.result is
    (type-Right c.args.classes.now c.get-in-Right.result.now) (ap (option_map (λ u. ty.Either ty.Bottom u)) right)
    c.right_values.ensures

pub datum_type-returns-in-Brand : goal.datum_type-returns-in-Brand
datum_type-returns-in-Brand t c =
    let is : c.args.d.now ≡ datum.Brand c.in-Brand.name c.in-Brand.field-1 = search (rules, the_lemmas) in
    arm c.args.classes.now c.args.d.now (datum.Brand c.in-Brand.name c.in-Brand.field-1) _ _ c.class_type.result is
    (type-Brand c.args.classes.now c.in-Brand.name c.in-Brand.field-1)
    (ap (λ d. when (fits c.args.classes.now d (ty.Brand c.in-Brand.name)) (ty.Brand c.in-Brand.name)) (sym is))
    c.class_type.ensures

pub members_join-returns-in-None : goal.members_join-returns-in-None
members_join-returns-in-None t c =
    let is : datum_type c.args.classes.now c.item-item.result ≡ Some c.in-Some.t = search rules in
    let up : join c.args.classes.now c.loop-item.joined c.in-Some.t ≡ None = search rules in
    sym (join_more c.args.classes.now _ c.args.items.now c.loop-item.item-index c.item-item.result c.loop-item.joined
    c.in-Some.t None c.loop-item.invariant (omega arith) c.item-item.is is up)

pub members_join-loop-item-preserved : goal.members_join-loop-item-preserved
members_join-loop-item-preserved t c =
    let is : datum_type c.args.classes.now c.item-item.result ≡ Some c.in-Some.t = search rules in
    let up : join c.args.classes.now c.loop-item.joined c.in-Some.t ≡ Some c.in-Some-2.above = search rules in
    join_more c.args.classes.now _ c.args.items.now c.loop-item.item-index c.item-item.result c.loop-item.joined
    c.in-Some.t (Some c.in-Some-2.above) c.loop-item.invariant (omega arith) c.item-item.is is up

pub record_type-add-requires : goal.record_type-add-requires
record_type-add-requires t c =
    let is : datum_type c.args.classes.now c.field-item.result.1 ≡ Some c.in-Some.t = search rules in
    record {
      rising = Rising-next-map (λ d. or_bottom (datum_type c.args.classes.now d)) c.as_slice-field-items.result.now _
          c.loop-field.field-index c.field-item.result _ _
          (rw c.as_slice-field-items.ensures.pairs c.as_slice-field-items.ensures.rising) c.loop-field-test.true
          c.loop-field.invariant.upto c.field-item.is c.in_ok-copy.ensures
          (typed_or (datum_type c.args.classes.now c.field-item.result.1) c.in-Some.t is);
    }

pub record_type-loop-field-preserved : goal.record_type-loop-field-preserved
record_type-loop-field-preserved t c =
    let is : datum_type c.args.classes.now c.field-item.result.1 ≡ Some c.in-Some.t = search rules in
    record {
      upto = c.in_ok-add.ensures.ok ∙ row_more c.args.classes.now c.loop-field.row c.as_slice-field-items.result.now
          c.loop-field.field-index c.field-item.result c.in_ok-copy.field-0 c.in-Some.t c.loop-field.invariant.upto
          (omega arith) c.field-item.is c.in_ok-copy.ensures is;
      left = typed_more c.args.classes.now _ c.as_slice-field-items.result.now c.loop-field.field-index
          c.field-item.result c.in-Some.t c.loop-field.invariant.left (omega arith) c.field-item.is is;
    }

pub record_type-returns : goal.record_type-returns
record_type-returns t c =
    let items : c.as_slice-field-items.result.now ≡ c.args.fields.now = search rules in
    let made : c.loop-field.row
    ≡ map (on_value (λ d. or_bottom (datum_type c.args.classes.now d))) c.args.fields.now =
    c.loop-field.invariant.upto ∙ ap (map (on_value (λ d. or_bottom (datum_type c.args.classes.now d))))
    (take_all c.loop-field.field-index c.as_slice-field-items.result.now (omega arith) ∙ items) in
    let all : all_typed (map (on_value (datum_type c.args.classes.now)) c.args.fields.now) ≡ true =
    c.loop-field.invariant.left ∙ ap (λ l. all_typed (map (on_value (datum_type c.args.classes.now)) l))
    (drop_all c.loop-field.field-index c.as_slice-field-items.result.now (omega arith)) in
    sym (row_made c.args.classes.now c.args.fields.now c.loop-field.row made all)
