use Rattle.std.proofs.Common.{rules, ◌≡◌, sym, ◌∙◌}
use Rattle.std.specs.Vec.Iter.{into_iter_items}
use Rattle.qc_containers.proofs.Appending.{left_starts, left_push, left_goes}
use Rattle.qc_data.proofs.Decoded.{none_taken, field_more, some_if}
use Rattle.qc_data.proofs.Depths.{none_out, one_out, value_below}
use Rattle.qc_data.proofs.data.Json.TheLaws.{the_size}
use Rattle.qc_data.proofs.taking.+take.Goals as goal

pub take_fields-loop-text-init : goal.take_fields-loop-text-init
take_fields-loop-text-init t c =
    let start : into_iter_items c.into_iter-text-iterator.result ≡ c.args.members = search rules in
    record {
      rising = left_starts _ _ c.args.members c.new-all.ensures start c.take_apart.ensures.rising;
      done = none_taken _ _ c.args.members c.new-all.ensures start;
      depth = none_out (into_iter_items c.into_iter-text-iterator.result) c.args.members start;
    }

pub take_fields-add-requires : goal.take_fields-add-requires
take_fields-add-requires t c =
    record {
      rising = left_push c.loop-text.all (into_iter_items c.loop-text.text-iterator) (into_iter_items c.next.new.self)
          (c.in-Some.text, c.in-Some.inner) _ _ c.in-Some.ensures.steps.0
          (some_if _ _ _ c.in-Some-spelled.ensures) c.loop-text.invariant.rising;
    }

pub take_fields-loop-text-preserved : goal.take_fields-loop-text-preserved
take_fields-loop-text-preserved t c =
    record {
      rising = left_goes c.loop-text.all _ (into_iter_items c.loop-text.text-iterator)
          (into_iter_items c.next.new.self) (c.in-Some.text, c.in-Some.inner) _ _ c.in-Some.ensures.steps.0
          (some_if _ _ _ c.in-Some-spelled.ensures) c.in_ok-add-in-Some-2.ensures.ok c.loop-text.invariant.rising;
      done = field_more c.loop-text.all _ (into_iter_items c.loop-text.text-iterator)
          (into_iter_items c.next.new.self) (c.in-Some.text, c.in-Some.inner) _ _ _ c.in-Some.ensures.steps.0
          c.in-Some-spelled.ensures (sym c.in-Some-2.is ∙ c.in_ok-d.ensures) c.in_ok-add-in-Some-2.ensures.ok
          c.loop-text.invariant.done;
      depth = one_out c.args.members (into_iter_items c.loop-text.text-iterator) (into_iter_items c.next.new.self)
          (c.in-Some.text, c.in-Some.inner) c.in-Some.ensures.steps.0 c.loop-text.invariant.depth;
    }

pub take_fields-into_datum-requires : goal.take_fields-into_datum-requires
take_fields-into_datum-requires t c = (
  value_below the_size c.args.members (into_iter_items c.loop-text.text-iterator)
      (into_iter_items c.next.new.self) (c.in-Some.text, c.in-Some.inner) t c.in-Some.ensures.steps.0
      c.loop-text.invariant.depth c.decreases,
  tt,
)
