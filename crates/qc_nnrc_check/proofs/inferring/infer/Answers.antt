use Rattle.qc_nnrc_check.proofs.Sound.{answered}
use Rattle.qc_nnrc_check.proofs.inferring.infer.Goals as goal

pub returns-clause-sound : goal.returns-clause-sound
returns-clause-sound c =
    answered c.args.schema.now c.classes.ensures.good c.args.e.now c.args.cx.now c.type_in.result c.type_in.ensures
