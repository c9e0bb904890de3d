use Rattle.std.proofs.Common.{◌∙◌, sym, None, Some}
use Rattle.qc_containers.proofs.Appending.{slice_push, slice_starts}
use Rattle.qc_data.proofs.Decoded.{none_decoded, many_plain, one_plain, two_plain, two_brand, brand_is, some_if}
use Rattle.qc_data.specs.Decoding.{dec}
use Rattle.std.proofs.Common.{refl, get_or}
use Rattle.qc_data.specs.declared.data.Datum.TheVariants.{Brand}
use Rattle.qc_data.proofs.decoding.+decode.Goals as goal

pub decode_fields-loop-pair-init : goal.decode_fields-loop-pair-init
decode_fields-loop-pair-init t c =
    record {
      rising = slice_starts _ c.as_slice-pair-items.result.now c.new-all.ensures
          (rw c.as_slice-pair-items.ensures.pairs c.as_slice-pair-items.ensures.rising);
      done = none_decoded _ c.as_slice-pair-items.result.now c.new-all.ensures;
    }

pub decode_fields-add-requires : goal.decode_fields-add-requires
decode_fields-add-requires t c =
    record {
      rising = slice_push c.loop-pair.all c.as_slice-pair-items.result.now c.loop-pair.pair-index
          c.pair-item.result _ _ c.loop-pair-test.true c.pair-item.is
          (some_if _ _ _ c.in-Some.ensures ∙ c.in_ok-copy.ensures) c.loop-pair.invariant.rising;
    }

pub decode_object-returns : goal.decode_object-returns
decode_object-returns t c =
    rw (many_plain c.args.members.now (λ e. c.if-count-eq1.false (c.len-count.ensures ∙ e))
    (λ e. c.if-count-eq2.false (c.len-count.ensures ∙ e))) c.decode_plain.ensures

pub decode_one-returns : goal.decode_one-returns
decode_one-returns t c =
    rw (one_plain c.as_slice-pairs.result.now c.args.members.now c.index-pairs-0.result c.index-pairs-0-2.result
    c.as_str.result.now c.as_str-2.result.now
    c.as_slice-pairs.ensures.pairs c.requires c.as_str.ensures c.as_str-2.ensures
    (sym c.is_text.ensures ∙ c.if-is_text.false) (sym c.is_text-2.ensures ∙ c.if-is_text-2.false))
    c.decode_plain.ensures

pub decode_two-returns-then-not-tags_class : goal.decode_two-returns-then-not-tags_class
decode_two-returns-then-not-tags_class t c =
    rw (two_plain c.as_slice-pairs.result.now c.args.members.now c.index-pairs-0.result c.index-pairs-1.result
    c.as_str.result.now c.as_str-2.result.now
    c.as_slice-pairs.ensures.pairs c.requires c.as_str.ensures c.as_str-2.ensures
    (sym c.tags_class.ensures ∙ c.if-not-tags_class.true)) c.decode_plain.ensures

pub decode_two-returns-in-None : goal.decode_two-returns-in-None
decode_two-returns-in-None t c =
    brand_is None c.in_ok-name.field-0 (dec (get_or c.as_slice-pairs.result.now 1 c.index-pairs-1.result).1) _ _ _
    (rw c.in-None.is refl) c.in_ok-name.ensures refl
    (two_brand c.as_slice-pairs.result.now c.args.members.now c.index-pairs-0.result c.index-pairs-1.result
    c.index-pairs-0-2.result c.index-pairs-1.result c.as_str.result.now c.as_str-2.result.now
    c.as_slice-pairs.ensures.pairs c.requires c.as_str.ensures c.as_str-2.ensures
    (sym c.tags_class.ensures ∙ c.if-not-tags_class.false))

pub decode_two-returns-in-None-2 : goal.decode_two-returns-in-None-2
decode_two-returns-in-None-2 t c =
    brand_is None c.in_ok-name.field-0 c.in_ok-d-in-Some.field-0 _ _ _
    (rw (c.in-Some.is, c.in-None-2.is) refl) c.in_ok-name.ensures c.in_ok-d-in-Some.ensures
    (two_brand c.as_slice-pairs.result.now c.args.members.now c.index-pairs-0.result c.index-pairs-1.result
    c.index-pairs-0-2.result c.index-pairs-1-in-Some.result c.as_str.result.now c.as_str-2.result.now
    c.as_slice-pairs.ensures.pairs c.requires c.as_str.ensures c.as_str-2.ensures
    (sym c.tags_class.ensures ∙ c.if-not-tags_class.false))

pub decode_two-returns-in_ok-of-in-Some-2 : goal.decode_two-returns-in_ok-of-in-Some-2
decode_two-returns-in_ok-of-in-Some-2 t c =
    brand_is (Some (Brand c.name.inside.text c.in_ok-of-in-Some-2.field-0)) c.in_ok-name.field-0
    c.in_ok-d-in-Some.field-0 _ _ _
    (rw (c.in-Some.is, c.in-Some-2.is) (λ i. Some (Brand (c.name.view_is i) (c.in_ok-of-in-Some-2.ensures i))))
    c.in_ok-name.ensures c.in_ok-d-in-Some.ensures
    (two_brand c.as_slice-pairs.result.now c.args.members.now c.index-pairs-0.result c.index-pairs-1.result
    c.index-pairs-0-2.result c.index-pairs-1-in-Some.result c.as_str.result.now c.as_str-2.result.now
    c.as_slice-pairs.ensures.pairs c.requires c.as_str.ensures c.as_str-2.ensures
    (sym c.tags_class.ensures ∙ c.if-not-tags_class.false))
