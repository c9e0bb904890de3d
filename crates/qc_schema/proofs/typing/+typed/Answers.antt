use Rattle.std.proofs.Common.{◌∙◌, sym}
use Rattle.qc_containers.proofs.Appending.{slice_push, slice_starts, none_before}
use Rattle.qc_schema.proofs.Named.{some_if}
use Rattle.qc_schema.proofs.typing.+typed.Goals as goal

pub read_fields-loop-pair-init : goal.read_fields-loop-pair-init
read_fields-loop-pair-init t c =
    record {
      rising = slice_starts _ c.as_slice-pair-items.result.now c.new-all.ensures
          (rw c.as_slice-pair-items.ensures.pairs c.as_slice-pair-items.ensures.rising);
      done = none_before _ _ c.new-all.ensures;
    }

pub read_fields-add-requires : goal.read_fields-add-requires
read_fields-add-requires t c =
    record {
      rising = slice_push c.loop-pair.all c.as_slice-pair-items.result.now c.loop-pair.pair-index c.pair-item.result _ _
          c.loop-pair-test.true c.pair-item.is
          (some_if _ _ _ (sym c.in-Some.is ∙ c.in_ok-name.ensures) ∙ c.as_str.ensures) c.loop-pair.invariant.rising;
    }
