use Rattle.qc_typing.proofs.Answered.{answered_unary}
use Rattle.qc_typing.proofs.unary.type1.Goals as goal

pub returns-clause-sound : goal.returns-clause-sound
returns-clause-sound c =
    answered_unary c.args.classes.now c.hand_good.ensures c.args.op.now c.args.a.now c.unary_type.result
    c.unary_type.ensures
