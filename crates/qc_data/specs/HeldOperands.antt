-- Operands that are not copied, as functions answer them.
use Rattle.std.specs.Prelude.{◌≡◌, ◌≢◌, Result, Ok, Err}
use Rattle.qc_data.specs.Outcome.{Outcome, Value, Halts, why_of}
use Rattle.qc_data.specs.declared.data.Datum.{Datum}
use Rattle.qc_data.specs.declared.halt.Halt.{Halt}
use Rattle.qc_data.specs.declared.halt.Halt.TheVariants as halt
use Rattle.qc_data.specs.declared.operand.Held.{Held}
use Rattle.qc_data.specs.declared.operand.Held.TheVariants.{Made, Lent}

-- the value of an operand
abbrev pub datum_of : Held → Datum
datum_of (Made d) = d
datum_of (Lent r) = r.now

-- the code's answer is the outcome, unless memory was wanting
abbrev pub GivesHeld : Outcome Datum → Result Held Halt → Type 0
GivesHeld o (Ok held) = o ≡ Value (datum_of held)
GivesHeld o (Err e) = e ≢ halt.Memory → o ≡ Halts (why_of e)
