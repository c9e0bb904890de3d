use Rattle.std.proofs.Common.{ap, Err}
use Rattle.std.proofs.lemmas.Result.{err_from_is_err_and}
use Rattle.qc_schema.specs.declared.faults.SchemaFault.{SchemaFault}
use Rattle.qc_work.proofs.Refusing.{schema_refused}
use Rattle.qc_work.proofs.reading.schema_in.Goals as goal

pub returns-in_err-read_schema : goal.returns-in_err-read_schema
returns-in_err-read_schema c =
    let exit = err_from_is_err_and c.from_residual.result c.from_residual.ensures.1 in
    rw (exit.1, exit.2) (schema_refused c.args.bytes.now _
    (λ e. c.in_err-read_schema.ensures.bad (ap (λ (f : SchemaFault). Err f) e)))
