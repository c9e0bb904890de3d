-- Logs of writes.
use Rattle.std.specs.Prelude.{◌≡◌, ◌≢◌, ◌++◌, Result, Ok, Err}
use Rattle.qc_data.specs.Outcome.{Outcome, Value, Halts, and_then, why_of}
use Rattle.qc_data.specs.declared.halt.Halt.{Halt}
use Rattle.qc_data.specs.declared.halt.Halt.TheVariants as halt
use Rattle.qc_nnrs_store.specs.Variables.{Writes}

-- the writes of an outcome behind others
unfoldable pub added : Writes → Outcome Writes → Outcome Writes
added log o = and_then o (λ ws. Value (log ++ ws))

-- the code led to the log, unless memory was wanting
abbrev pub Leads : Outcome Writes → Writes → Result (Unit {0}) Halt → Type 0
Leads o new (Ok _) = o ≡ Value new
Leads o new (Err e) = e ≢ halt.Memory → o ≡ Halts (why_of e)
