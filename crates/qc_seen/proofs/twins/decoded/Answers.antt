use Rattle.std.proofs.Common.{◌∙◌, sym}
use Rattle.qc_rt.proofs.Returned.{dec_seen}
use Rattle.qc_seen.proofs.TwinObjects.{seen_more}
use Rattle.qc_seen.proofs.twins.decoded.Goals as goal

pub loop-item-preserved : goal.loop-item-preserved
loop-item-preserved c =
    seen_more c.args.items.now c.loop-item.all c.add.new.self c.loop-item.item-index c.item-item.result c.in-Some.d
    c.loop-item.invariant c.loop-item-test.true c.item-item.is
    (dec_seen c.item-item.result c.in-Some.d (sym c.in-Some.is ∙ c.in_ok-d.ensures.value))
    c.in_ok-add-in-Some.ensures.ok
