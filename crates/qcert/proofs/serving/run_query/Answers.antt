use Rattle.qc_work.specs.Texts.{bytes_of}
use Rattle.std.proofs.lemmas.Result.{err_from_is_err_and}
use Rattle.qcert.proofs.StageLemmas.{stops, goes, made, acted, up, itself}
use Rattle.qcert.proofs.JobLaws.{input_of_schema}
use Rattle.qcert.proofs.serving.run_query.Goals as goal

pub returns-in_err-checked-clause-ended : goal.returns-in_err-checked-clause-ended
returns-in_err-checked-clause-ended g c =
    let exit = err_from_is_err_and c.from_residual.result c.from_residual.ensures.1 in
    rw (exit.1, exit.2) (stops _ _ _ _ _ _ _ _ (stops _ _ _ _ _ _ _ _ c.in_err-checked.ensures.ended))

pub returns-in_err-world-clause-ended : goal.returns-in_err-world-clause-ended
returns-in_err-world-clause-ended g c =
    let exit = err_from_is_err_and c.from_residual-in_err-world.result c.from_residual-in_err-world.ensures.1 in
    rw (exit.1, exit.2) (stops _ _ _ _ _ _ _ _
    (goes _ _ _ _ _ _ _ _ _ _ c.in_ok-checked.checked _ c.in_ok-checked.ensures.same c.in_ok-checked.ensures.count
    c.in_err-world.ensures.count
    c.in_ok-checked.ensures.ended (stops _ _ _ _ _ _ _ _ c.in_err-world.ensures.ended)))

pub returns-clause-ended : goal.returns-clause-ended
returns-clause-ended g c =
    acted _ _ bytes_of c.answer_line.result _ _ _ _ _
    (up _ _ _ c.in_ok-checked.ensures.count c.in_ok-world.ensures.count)
    (goes _ _ _ _ _ _ _ _ _ _ c.in_ok-checked.checked _ c.in_ok-checked.ensures.same c.in_ok-checked.ensures.count
    c.in_ok-world.ensures.count
    c.in_ok-checked.ensures.ended (made _ _ c.in_ok-world.world _ _ _ _ _ c.in_ok-world.ensures.count
    c.in_ok-world.ensures.ended)) c.answer_line.ensures

pub answer_line-requires-clause-world : goal.answer_line-requires-clause-world
answer_line-requires-clause-world g c =
    input_of_schema _ _ _ _ (c.in_ok-world.ensures.ended _ _ (itself _) (itself _)).ends.0
