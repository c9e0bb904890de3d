use Rattle.qc_lower.proofs.AlgebraAnswered.{closed, kept, small}
use Rattle.qc_lower.proofs.algebra_trees.whole_tree.Goals as goal

pub returns-clause-keeps : goal.returns-clause-keeps
returns-clause-keeps c = kept c.args.q.now c.whole.result c.whole.ensures

pub returns-clause-good : goal.returns-clause-good
returns-clause-good c = closed c.args.q.now c.whole.result c.whole.ensures

pub returns-clause-size : goal.returns-clause-size
returns-clause-size c = small c.args.q.now c.whole.result c.whole.ensures
