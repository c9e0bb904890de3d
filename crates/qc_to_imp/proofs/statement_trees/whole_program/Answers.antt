use Rattle.qc_to_imp.proofs.ProgramAnswered.{fitting, kept, small}
use Rattle.qc_to_imp.proofs.statement_trees.whole_program.Goals as goal

pub returns-clause-keeps : goal.returns-clause-keeps
returns-clause-keeps c = kept c.args.p.now c.whole.result c.whole.ensures

pub returns-clause-good : goal.returns-clause-good
returns-clause-good c = fitting c.args.p.now c.whole.result c.whole.ensures c.requires.well_formed

pub returns-clause-size : goal.returns-clause-size
returns-clause-size c = small c.args.p.now c.whole.result c.whole.ensures
