-- What private functions answer: trees by what is seen in them.
use Rattle.std.specs.Prelude.{◌≡◌, ◌≢◌, ℕ, Bool, false, List, map, Result, Ok, Err}
use Rattle.qc_data.specs.Outcome.{Outcome, Value, Halts, why_of}
use Rattle.qc_data.specs.declared.data.Datum.{Datum}
use Rattle.qc_data.specs.declared.data.Datum.TheVariants.{Coll}
use Rattle.qc_data.specs.declared.data.Json.{Json}
use Rattle.qc_data.specs.declared.halt.Halt.{Halt}
use Rattle.qc_data.specs.declared.halt.Halt.TheVariants as halt
use Rattle.qc_rt.specs.Seen.{fields_seen, has_marker, seen}
use Rattle.qc_runtime.specs.declared.sides.Class.{Class}
use Rattle.qc_runtime.specs.declared.sides.Side.{Side}

-- members of an array
abbrev pub GivesItems : Outcome (List Datum) → Result (List Json) Halt → Type 0
GivesItems o (Ok js) = o ≡ Value (map seen js)
GivesItems o (Err e) = e ≢ halt.Memory → o ≡ Halts (why_of e)

-- the members of a plain object
abbrev pub GivesFields : Outcome (List (List ℕ × Datum)) → Result (List (List ℕ × Json)) Halt → Type 0
GivesFields o (Ok ms) = (o ≡ Value (fields_seen ms)) × (has_marker ms ≡ false)
GivesFields o (Err e) = e ≢ halt.Memory → o ≡ Halts (why_of e)

-- the class and the content of a class's value
abbrev pub GivesClass : Outcome (List ℕ × Datum) → Result Class Halt → Type 0
GivesClass o (Ok c) = o ≡ Value (c.name.now, seen c.content.now)
GivesClass o (Err e) = e ≢ halt.Memory → o ≡ Halts (why_of e)

abbrev pub GivesClassIn : Outcome (List ℕ × Json) → Result Class Halt → Type 0
GivesClassIn o (Ok c) = o ≡ Value (c.name.now, c.content.now)
GivesClassIn o (Err e) = e ≢ halt.Memory → o ≡ Halts (why_of e)

-- whether what is on a side is on the left one, and what it is
abbrev pub GivesSide : Outcome (Bool × Datum) → Result Side Halt → Type 0
GivesSide o (Ok s) = o ≡ Value (s.is_left, seen s.content.now)
GivesSide o (Err e) = e ≢ halt.Memory → o ≡ Halts (why_of e)

abbrev pub GivesSideIn : Outcome (Bool × Json) → Result Side Halt → Type 0
GivesSideIn o (Ok s) = o ≡ Value (s.is_left, s.content.now)
GivesSideIn o (Err e) = e ≢ halt.Memory → o ≡ Halts (why_of e)

-- members of an array that the outcome is
abbrev pub GivesBag : Outcome Datum → Result (List Json) Halt → Type 0
GivesBag o (Ok js) = o ≡ Value (Coll (map seen js))
GivesBag o (Err e) = e ≢ halt.Memory → o ≡ Halts (why_of e)
