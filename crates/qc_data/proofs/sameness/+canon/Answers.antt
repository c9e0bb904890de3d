use Rattle.qc_data.specs.Order.{canon}
use Rattle.qc_containers.proofs.Putting.{Rising-next-map}
use Rattle.qc_data.proofs.sameness.+canon.Goals as goal

pub canon_fields-add-requires : goal.canon_fields-add-requires
canon_fields-add-requires t c = record {
  rising = Rising-next-map canon c.as_slice-pair-items.result.now _ c.loop-pair.pair-index c.pair-item.result _ _
      (rw c.as_slice-pair-items.ensures.pairs c.as_slice-pair-items.ensures.rising) c.loop-pair-test.true
      c.loop-pair.invariant c.pair-item.is
      c.in_ok-name.ensures c.in_ok-canon.ensures;
}
