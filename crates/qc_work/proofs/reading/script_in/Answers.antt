use Rattle.std.proofs.lemmas.Result.{err_from_is_err_and}
use Rattle.qc_work.proofs.Refusing.{script_refused}
use Rattle.qc_work.proofs.reading.script_in.Goals as goal

pub returns-in_err-read_js : goal.returns-in_err-read_js
returns-in_err-read_js c =
    let exit = err_from_is_err_and c.from_residual.result c.from_residual.ensures.1 in
    rw (exit.1, exit.2) (script_refused c.args.bytes.now _ c.in_err-read_js.ensures)
