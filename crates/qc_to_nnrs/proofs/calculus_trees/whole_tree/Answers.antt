use Rattle.qc_to_nnrs.proofs.Answered.{good, kept, small}
use Rattle.qc_to_nnrs.proofs.calculus_trees.whole_tree.Goals as goal

pub returns-clause-keeps : goal.returns-clause-keeps
returns-clause-keeps c = kept c.args.e.now c.whole.result c.whole.ensures

pub returns-clause-good : goal.returns-clause-good
returns-clause-good c = good c.args.e.now c.whole.result c.whole.ensures c.requires.closed

pub returns-clause-size : goal.returns-clause-size
returns-clause-size c = small c.args.e.now c.whole.result c.whole.ensures
