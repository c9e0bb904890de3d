use Rattle.std.proofs.Common.{ap, Err}
use Rattle.std.proofs.lemmas.Result.{err_from_is_err_and}
use Rattle.qc_schema.specs.declared.faults.InputFault.{InputFault}
use Rattle.qc_work.proofs.Refusing.{tree_refused}
use Rattle.qc_work.proofs.reading.tree_in.Goals as goal

pub returns-in_err-read_json : goal.returns-in_err-read_json
returns-in_err-read_json c =
    let exit = err_from_is_err_and c.from_residual.result c.from_residual.ensures.1 in
    rw (exit.1, exit.2) (tree_refused c.args.bytes.now _
    (λ e. c.in_err-read_json.ensures.bad (ap (λ (f : InputFault). Err f) e)))
