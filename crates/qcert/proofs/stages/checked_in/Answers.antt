use Rattle.std.proofs.lemmas.Result.{err_from_is_err_and}
use Rattle.qcert.proofs.StageLemmas.{stops, goes, made}
use Rattle.qcert.proofs.stages.checked_in.Goals as goal

pub returns-in_err-schema-clause-ended : goal.returns-in_err-schema-clause-ended
returns-in_err-schema-clause-ended g c =
    let exit = err_from_is_err_and c.from_residual.result c.from_residual.ensures.1 in
    rw (exit.1, exit.2) (stops _ _ _ _ _ _ _ _ c.in_err-schema.ensures.ended)

pub returns-in_err-query-clause-ended : goal.returns-in_err-query-clause-ended
returns-in_err-query-clause-ended g c =
    let exit = err_from_is_err_and c.from_residual-in_err-query.result c.from_residual-in_err-query.ensures.1 in
    rw (exit.1, exit.2) (goes _ _ _ _ _ _ _ _ _ _ c.in_ok-schema.schema _ c.in_ok-schema.ensures.same
    c.in_ok-schema.ensures.count c.in_err-query.ensures.count
    c.in_ok-schema.ensures.ended (stops _ _ _ _ _ _ _ _ c.in_err-query.ensures.ended))

pub returns-clause-ended : goal.returns-clause-ended
returns-clause-ended g c =
    goes _ _ _ _ _ _ _ _ _ _ c.in_ok-schema.schema _ c.in_ok-schema.ensures.same c.in_ok-schema.ensures.count
    c.in_ok-query.ensures.count
    c.in_ok-schema.ensures.ended (made _ _ c.in_ok-query.query _ _ _ _ _ c.in_ok-query.ensures.count
    c.in_ok-query.ensures.ended)
