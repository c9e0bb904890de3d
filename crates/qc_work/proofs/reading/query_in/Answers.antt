use Rattle.std.proofs.lemmas.Result.{err_from_is_err_and}
use Rattle.qc_work.specs.Sources.{IsFault}
use Rattle.qc_work.proofs.Refusing.{query_refused}
use Rattle.qc_work.proofs.reading.query_in.Goals as goal

pub returns-in_err-read_query-clause-reads : goal.returns-in_err-read_query-clause-reads
returns-in_err-read_query-clause-reads c =
    let exit = err_from_is_err_and c.from_residual.result c.from_residual.ensures.1 in
    rw (exit.1, exit.2) (query_refused (IsFault c.args.source c.args.schema.now c.args.words.now) _
    c.in_err-read_query.ensures.reads)
