use Rattle.std.proofs.Common.{sym}
use Rattle.std.proofs.lemmas.Result.{err_from_is_err_and}
use Rattle.qcert.proofs.StageLemmas.{unread, read}
use Rattle.qcert.proofs.stages.tree_file.Goals as goal

pub returns-in_err-bytes-clause-ended : goal.returns-in_err-bytes-clause-ended
returns-in_err-bytes-clause-ended g c =
    let exit = err_from_is_err_and c.from_residual.result c.from_residual.ensures.1 in
    rw (exit.1, exit.2) (unread _ _ _ _ _ _ _ _ _ _ c.in_err-bytes.ensures.ended)

pub returns-clause-ended : goal.returns-clause-ended
returns-clause-ended g c =
    read _ _ _ _ _ _ _ _ _ c.in_ok-bytes.bytes.items _ c.in_ok-bytes.ensures.count c.in_ok-bytes.ensures.ended
    (rw (sym c.deref.ensures.value) c.tree_in.ensures)
