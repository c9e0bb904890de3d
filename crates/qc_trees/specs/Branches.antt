-- What a condition decides.
use Rattle.std.specs.Prelude.{Bool}
use Rattle.qc_data.specs.Outcome.{Outcome, and_then}
use Rattle.qc_data.specs.declared.data.Datum.{Datum}
use Rattle.qc_ops.specs.Operands.{as_bool}

-- the truth value that a condition has
unfoldable pub truth : Outcome Datum → Outcome Bool
truth o = and_then o as_bool
