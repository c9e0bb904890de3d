use Rattle.qc_work.specs.Texts.{bytes_of}
use Rattle.std.proofs.lemmas.Result.{err_from_is_err_and}
use Rattle.qcert.proofs.StageLemmas.{stops, goes, made, acted, up}
use Rattle.qcert.proofs.serving.execute.Goals as goal

pub returns-in_err-js-clause-ended : goal.returns-in_err-js-clause-ended
returns-in_err-js-clause-ended g c =
    let exit = err_from_is_err_and c.from_residual.result c.from_residual.ensures.1 in
    rw (exit.1, exit.2) (stops _ _ _ _ _ _ _ _ (stops _ _ _ _ _ _ _ _ c.in_err-js.ensures.ended))

pub returns-in_err-tree-clause-ended : goal.returns-in_err-tree-clause-ended
returns-in_err-tree-clause-ended g c =
    let exit = err_from_is_err_and c.from_residual-in_err-tree.result c.from_residual-in_err-tree.ensures.1 in
    rw (exit.1, exit.2) (stops _ _ _ _ _ _ _ _
    (goes _ _ _ _ _ _ _ _ _ _ c.in_ok-js.js _ c.in_ok-js.ensures.same c.in_ok-js.ensures.count
    c.in_err-tree.ensures.count
    c.in_ok-js.ensures.ended (stops _ _ _ _ _ _ _ _ c.in_err-tree.ensures.ended)))

pub returns-clause-ended : goal.returns-clause-ended
returns-clause-ended g c =
    acted _ _ bytes_of c.result_line.result _ _ _ _ _
    (up _ _ _ c.in_ok-js.ensures.count c.in_ok-tree.ensures.count)
    (goes _ _ _ _ _ _ _ _ _ _ c.in_ok-js.js _ c.in_ok-js.ensures.same c.in_ok-js.ensures.count
    c.in_ok-tree.ensures.count
    c.in_ok-js.ensures.ended (made _ _ c.in_ok-tree.tree _ _ _ _ _ c.in_ok-tree.ensures.count
    c.in_ok-tree.ensures.ended)) c.result_line.ensures
