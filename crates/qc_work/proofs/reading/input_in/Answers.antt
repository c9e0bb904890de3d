use Rattle.std.proofs.Common.{ap, Err}
use Rattle.std.proofs.lemmas.Result.{err_from_is_err_and}
use Rattle.qc_schema.specs.declared.faults.InputFault.{InputFault}
use Rattle.qc_work.proofs.Refusing.{input_refused, is_input}
use Rattle.qc_work.proofs.reading.input_in.Goals as goal

pub returns-in_err-read_input : goal.returns-in_err-read_input
returns-in_err-read_input c =
    let exit = err_from_is_err_and c.from_residual.result c.from_residual.ensures.1 in
    rw (exit.1, exit.2) (input_refused c.args.bytes.now c.args.schema.now _
    (λ e. c.in_err-read_input.ensures.bad (ap (λ (f : InputFault). Err f) e)))

pub returns : goal.returns
returns c =
    is_input c.args.schema.now c.args.bytes.now _ c.in_ok-read_input.ensures.ok c.in_ok-read_input.ensures.schema.0
    c.in_ok-read_input.ensures.schema.1
