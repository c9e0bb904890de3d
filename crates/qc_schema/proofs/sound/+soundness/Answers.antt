use Rattle.std.proofs.Common.{arith}
use Rattle.qc_schema.proofs.Returning.{none_left}
use Rattle.qc_schema.proofs.sound.+soundness.Goals as goal

pub check_members-returns : goal.check_members-returns
check_members-returns t c =
    none_left c.args.members.now c.as_slice-pair-items.result.now c.loop-pair.pair-index
    c.as_slice-pair-items.ensures.pairs c.as_slice-pair-items.ensures.rising (omega arith) c.loop-pair.invariant
