use Rattle.qc_typing.proofs.Answered.{answered_binary}
use Rattle.qc_typing.proofs.binary.type2.Goals as goal

pub returns-clause-sound : goal.returns-clause-sound
returns-clause-sound c =
    answered_binary c.args.classes.now c.hand_good.ensures c.args.op.now c.args.a.now c.args.b.now
    c.binary_type.result c.binary_type.ensures
