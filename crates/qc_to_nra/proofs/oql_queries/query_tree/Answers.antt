use Rattle.std.proofs.Common.{◌≡◌, rules}
use Rattle.std.specs.Prelude.{IfOk}
use Rattle.qc_oql_nra.specs.OqlTrees.{query_tree}
use Rattle.qc_oql_nra.proofs.OqlAnswered.{answered, sized}
use Rattle.qc_to_nra.proofs.oql_queries.query_tree.Goals as goal

pub returns-clause-keeps : goal.returns-clause-keeps
returns-clause-keeps c =
    let same : IfOk c.defined.result (λ made. made ≡ query_tree c.args.query.now) = search rules in
    answered c.args.query.now c.defined.result same

pub returns-clause-size : goal.returns-clause-size
returns-clause-size c =
    let same : IfOk c.defined.result (λ made. made ≡ query_tree c.args.query.now) = search rules in
    sized c.args.query.now c.defined.result same
