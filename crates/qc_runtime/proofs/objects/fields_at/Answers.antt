use Rattle.std.proofs.Common.{ℕ, List, ◌∙◌, sym, ap}
use Rattle.qc_data.specs.declared.data.Json.{Json}
use Rattle.qc_ops.specs.Records.{is_among}
use Rattle.qc_runtime.proofs.ObjectLaws.{Rising-filter_more}
use Rattle.qc_runtime.proofs.objects.fields_at.Goals as goal

pub put_last-requires : goal.put_last-requires
put_last-requires c =
    Rising-filter_more (λ (pair : List ℕ × Json). is_among pair.0 c.args.names.now)
    c.as_slice-pair-items.result.now c.loop-pair.part c.loop-pair.pair-index c.pair-item.result
    (rw c.as_slice-pair-items.ensures.pairs c.as_slice-pair-items.ensures.rising) c.loop-pair-test.true
    c.pair-item.is
    (ap (λ n. is_among n c.args.names.now) (sym c.as_str.ensures) ∙ sym c.is_among.ensures ∙ c.if-is_among.true)
    c.loop-pair.invariant
