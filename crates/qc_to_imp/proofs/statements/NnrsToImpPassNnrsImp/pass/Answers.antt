use Rattle.qc_to_imp.proofs.ProgramAnswered.{keeps_in}
use Rattle.qc_to_imp.proofs.statements.NnrsToImpPassNnrsImp.pass.Goals as goal

pub returns-clause-keeps : goal.returns-clause-keeps
returns-clause-keeps c =
    keeps_in c.args._schema.now c.args.from c.whole_program.result c.whole_program.ensures.keeps
