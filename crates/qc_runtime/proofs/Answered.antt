-- Answers in which values are seen.
use Rattle.std.proofs.Common.{ap, refl}
use Rattle.std.specs.Prelude.{Result, Ok, Err}
use Rattle.qc_data.specs.Outcome.{Outcome, Value, Gives, and_then}
use Rattle.qc_data.specs.declared.data.Datum.{Datum}
use Rattle.qc_data.specs.declared.data.Json.{Json}
use Rattle.qc_data.specs.declared.halt.Halt.{Halt}
use Rattle.qc_rt.specs.Seen.{shown}
use Rattle.qc_rt.proofs.Shown.{shown-seen}
use Rattle.qc_seen.specs.Giving.{GivesSeen}

-- an answer in which the value is seen is what shows the value
pub answered : (o : Outcome Datum) (r : Result Json Halt) → GivesSeen o r
    → Gives (and_then o (λ d. Value (shown d))) r
answered o (Ok j) h = rw h (ap Value (shown-seen j))
answered o (Err e) h = λ n. rw (h n) refl
