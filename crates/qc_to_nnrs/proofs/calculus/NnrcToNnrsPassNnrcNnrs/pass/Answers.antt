use Rattle.qc_to_nnrs.proofs.Answered.{keeps_in}
use Rattle.qc_to_nnrs.proofs.calculus.NnrcToNnrsPassNnrcNnrs.pass.Goals as goal

pub returns-clause-keeps : goal.returns-clause-keeps
returns-clause-keeps c = keeps_in c.args._schema.now c.args.from c.whole_tree.result c.whole_tree.ensures.keeps
