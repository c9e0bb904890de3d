use Rattle.qc_ops.proofs.Overlays.{Rising-more}
use Rattle.qc_ops.proofs.joining.put_all_last.Goals as goal

pub put_last-requires : goal.put_last-requires
put_last-requires c =
    Rising-more c.args.all.now c.args.more.now c.loop-pair.all c.loop-pair.pair-index c.pair-item.result c.requires
    c.loop-pair-test.true c.pair-item.is c.loop-pair.invariant
