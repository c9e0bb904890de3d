-- What functions answer: trees by what is seen in them.
use Rattle.std.specs.Prelude.{◌≡◌, ◌≢◌, ℕ, false, List, map, Result, Ok, Err}
use Rattle.std.specs.Borrow.{Bor}
use Rattle.qc_data.specs.Outcome.{Outcome, Value, Halts, why_of}
use Rattle.qc_data.specs.declared.data.Datum.{Datum}
use Rattle.qc_data.specs.declared.data.Json.{Json}
use Rattle.qc_data.specs.declared.halt.Halt.{Halt}
use Rattle.qc_data.specs.declared.halt.Halt.TheVariants as halt
use Rattle.qc_rt.specs.Seen.{fields_seen, has_marker, seen}

-- the outcome is seen in the code's answer, unless memory was wanting
abbrev pub GivesSeen : Outcome Datum → Result Json Halt → Type 0
GivesSeen o (Ok j) = o ≡ Value (seen j)
GivesSeen o (Err e) = e ≢ halt.Memory → o ≡ Halts (why_of e)

-- the same of a reference
abbrev pub GivesSeenRef : Outcome Datum → Result (Bor Json) Halt → Type 0
GivesSeenRef o (Ok j) = o ≡ Value (seen j.now)
GivesSeenRef o (Err e) = e ≢ halt.Memory → o ≡ Halts (why_of e)

-- the same of two and of three references
abbrev pub GivesTwo : Outcome (Datum × Datum) → Result (Bor Json × Bor Json) Halt → Type 0
GivesTwo o (Ok p) = o ≡ Value (seen p.0.now, seen p.1.now)
GivesTwo o (Err e) = e ≢ halt.Memory → o ≡ Halts (why_of e)

abbrev pub GivesThree : Outcome (Datum × Datum × Datum) → Result (Bor Json × Bor Json × Bor Json) Halt → Type 0
GivesThree o (Ok p) = o ≡ Value (seen p.0.now, seen p.1.now, seen p.2.now)
GivesThree o (Err e) = e ≢ halt.Memory → o ≡ Halts (why_of e)

-- the same of the members of an array
abbrev pub GivesItemsRef : Outcome (List Datum) → Result (Bor (List Json)) Halt → Type 0
GivesItemsRef o (Ok js) = o ≡ Value (map seen js.now)
GivesItemsRef o (Err e) = e ≢ halt.Memory → o ≡ Halts (why_of e)

-- the same of the members of a plain object
abbrev pub GivesFieldsRef : Outcome (List (List ℕ × Datum)) → Result (Bor (List (List ℕ × Json))) Halt → Type 0
GivesFieldsRef o (Ok ms) = (o ≡ Value (fields_seen ms.now)) × (has_marker ms.now ≡ false)
GivesFieldsRef o (Err e) = e ≢ halt.Memory → o ≡ Halts (why_of e)
