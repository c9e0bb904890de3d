use Rattle.qc_oql_tree.proofs.MeaningLaws.{agrees_query}
use Rattle.qc_oql_eval.proofs.query.eval.Goals as goal

pub returns-clause-agrees : goal.returns-clause-agrees
returns-clause-agrees c = λ low high. agrees_query low high c.args.world.now c.args.query.now
