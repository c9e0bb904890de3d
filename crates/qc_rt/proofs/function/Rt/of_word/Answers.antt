use Rattle.qc_rt.proofs.Words.{none_is, some_is}
use Rattle.qc_rt.proofs.function.Rt.of_word.Goals as goal

pub returns-clause-some : goal.returns-clause-some
returns-clause-some c = some_is c.first_of.result c.args.word.now c.first_of.ensures

pub returns-clause-none : goal.returns-clause-none
returns-clause-none c = none_is c.first_of.result c.args.word.now c.first_of.ensures
