use Rattle.std.proofs.Common.{sym}
use Rattle.std.proofs.lemmas.Result.{err_from_is_err_and}
use Rattle.qc_source.specs.Queries.{IsScanFault}
use Rattle.qc_work.proofs.Refusing.{query_refused}
use Rattle.qc_work.proofs.reading.tokens_in.Goals as goal

pub returns-in_err-tokens_of-clause-reads : goal.returns-in_err-tokens_of-clause-reads
returns-in_err-tokens_of-clause-reads c =
    let exit = err_from_is_err_and c.from_residual.result c.from_residual.ensures.1 in
    rw (exit.1, exit.2, sym c.table_of.ensures)
    (query_refused (IsScanFault c.table_of.result c.args.bytes.now) _ c.in_err-tokens_of.ensures)
