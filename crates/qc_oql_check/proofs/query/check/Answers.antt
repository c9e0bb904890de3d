use Rattle.std.proofs.Common.{rules}
use Rattle.qc_typing.specs.Checking.{Checks}
use Rattle.qc_oql_tree.specs.Typing.{query_type}
use Rattle.qc_oql_check.proofs.Answered.{answered}
use Rattle.qc_oql_check.proofs.query.check.Goals as goal

pub returns-clause-sound : goal.returns-clause-sound
returns-clause-sound c =
    let value : Checks (query_type c.args.schema.now c.args.query.now) c.defined.result = search rules in
    answered c.args.schema.now c.classes.ensures.good c.args.query.now c.defined.result value
