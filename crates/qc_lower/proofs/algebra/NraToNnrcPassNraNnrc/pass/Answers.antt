use Rattle.qc_lower.proofs.AlgebraAnswered.{keeps_in}
use Rattle.qc_lower.proofs.algebra.NraToNnrcPassNraNnrc.pass.Goals as goal

pub returns-clause-keeps : goal.returns-clause-keeps
returns-clause-keeps c = keeps_in c.args._schema.now c.args.from c.whole_tree.result c.whole_tree.ensures.keeps
