use Rattle.std.proofs.Common.{◌∙◌, sym}
use Rattle.qc_ops.specs.Records.{is_among}
use Rattle.qc_ops.proofs.Overlays.{Rising-filter_more}
use Rattle.qc_ops.proofs.records.fields_at.Goals as goal

pub put_last-requires : goal.put_last-requires
put_last-requires c =
    Rising-filter_more (λ pair. is_among pair.0 c.args.names.now) c.as_slice-pair-items.result.now c.loop-pair.part
    c.loop-pair.pair-index c.pair-item.result
    (rw c.as_slice-pair-items.ensures.pairs c.as_slice-pair-items.ensures.rising) c.loop-pair-test.true
    c.pair-item.is
    (sym c.is_among.ensures ∙ c.if-is_among.true) c.loop-pair.invariant
