use Rattle.qc_oql_text.proofs.Sizes.{small}
use Rattle.qc_oql_text.proofs.reader.parse.Goals as goal

pub returns-clause-small : goal.returns-clause-small
returns-clause-small c = small c.args.words.now c.tree.result c.tree.ensures
