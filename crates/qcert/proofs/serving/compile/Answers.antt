use Rattle.qc_work.specs.Texts.{bytes_of}
use Rattle.std.proofs.lemmas.Result.{err_from_is_err_and}
use Rattle.qcert.proofs.StageLemmas.{stops, made, acted}
use Rattle.qcert.proofs.serving.compile.Goals as goal

pub returns-in_err-checked-clause-ended : goal.returns-in_err-checked-clause-ended
returns-in_err-checked-clause-ended g c =
    let exit = err_from_is_err_and c.from_residual.result c.from_residual.ensures.1 in
    rw (exit.1, exit.2) (stops _ _ _ _ _ _ _ _ (stops _ _ _ _ _ _ _ _ c.in_err-checked.ensures.ended))

pub returns-clause-ended : goal.returns-clause-ended
returns-clause-ended g c =
    acted _ _ bytes_of c.program_text.result _ _ _ _ _ c.in_ok-checked.ensures.count
    (made _ _ c.in_ok-checked.checked _ _ _ _ _ c.in_ok-checked.ensures.count c.in_ok-checked.ensures.ended)
    c.program_text.ensures
