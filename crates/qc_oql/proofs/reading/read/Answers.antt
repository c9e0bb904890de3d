use Rattle.std.proofs.lemmas.Result.{err_from_is_err_and}
use Rattle.qc_oql_tree.specs.Grammar as grammar
use Rattle.qc_oql_tree.specs.Typing.{query_type}
use Rattle.qc_source.proofs.QueryLaws.{syntax_fault, type_fault}
use Rattle.qc_oql.proofs.reading.read.Goals as goal

pub returns-in_err-query-clause-reads : goal.returns-in_err-query-clause-reads
returns-in_err-query-clause-reads c =
    let exit = err_from_is_err_and c.from_residual.result c.from_residual.ensures.1 in
    rw (exit.1, exit.2)
    (syntax_fault grammar.Query query_type c.args.schema.now c.args.words.now _ c.in_err-query.ensures.parses)

pub returns-in_err-ty-clause-reads : goal.returns-in_err-ty-clause-reads
returns-in_err-ty-clause-reads c =
    let exit = err_from_is_err_and c.from_residual-in_err-ty.result c.from_residual-in_err-ty.ensures.1 in
    rw (exit.1, exit.2)
    (type_fault grammar.Query query_type c.args.schema.now c.args.words.now c.in_ok-query.query _
    c.in_ok-query.ensures.parses c.in_err-ty.ensures.value)
