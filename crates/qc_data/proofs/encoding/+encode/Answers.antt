use Rattle.std.proofs.Common.{◌∙◌}
use Rattle.qc_data.specs.Encoding.{enc}
use Rattle.qc_containers.proofs.Putting.{Rising-next-map}
use Rattle.qc_data.proofs.encoding.+encode.Goals as goal

pub enc_fields-add-requires : goal.enc_fields-add-requires
enc_fields-add-requires t c = record {
  rising = Rising-next-map enc c.as_slice-pair-items.result.now _ c.loop-pair.pair-index c.pair-item.result _ _
      (rw c.as_slice-pair-items.ensures.pairs c.as_slice-pair-items.ensures.rising) c.loop-pair-test.true
      c.loop-pair.invariant c.pair-item.is
      (c.in_ok-text.ensures ∙ c.as_str.ensures.text) c.in_ok-enc.ensures;
}
