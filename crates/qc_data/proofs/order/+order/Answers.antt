use Rattle.std.proofs.Common.{sym, ◌∙◌}
use Rattle.qc_data.specs.Order.{cmp, pair_cmp}
use Rattle.qc_data.proofs.OrderLaws.{cmp-Coll, cmp-Rec}
use Rattle.qc_data.proofs.Shorter.{shorter}
use Rattle.qc_data.proofs.order.+order.Goals as goal

pub compare-returns-in-Coll-Coll : goal.compare-returns-in-Coll-Coll
compare-returns-in-Coll-Coll t c =
    rw (c.in-Coll-Coll.is-0, c.in-Coll-Coll.is-1) (c.cmp_items.ensures ∙ sym (cmp-Coll _ _))

pub compare-returns-in-Rec-Rec : goal.compare-returns-in-Rec-Rec
compare-returns-in-Rec-Rec t c = rw (c.in-Rec-Rec.is-0, c.in-Rec-Rec.is-1) (c.cmp_fields.ensures ∙ sym (cmp-Rec _ _))

pub cmp_fields-returns-then-len-others : goal.cmp_fields-returns-then-len-others
cmp_fields-returns-then-len-others t c =
    shorter pair_cmp c.as_slice-pair-items.result.now c.as_slice-others.result.now _ _ c.loop-at.at c.len.result
    c.loop-at-test.false c.loop-at.auto.at-end c.len.ensures c.if-len-others.true c.loop-at.invariant.left
    c.as_slice-pair-items.ensures.pairs c.as_slice-others.ensures.pairs

pub cmp_items-returns-then-len-others : goal.cmp_items-returns-then-len-others
cmp_items-returns-then-len-others t c =
    shorter cmp c.as_slice-item-items.result.now c.as_slice-others.result.now _ _ c.loop-at.at c.len.result
    c.loop-at-test.false c.loop-at.auto.at-end c.len.ensures c.if-len-others.true c.loop-at.invariant.left
    c.as_slice-item-items.ensures c.as_slice-others.ensures
