-- Members that private functions put behind others.
use Rattle.std.specs.Prelude.{◌≡◌, ◌≢◌, ◌++◌, List, [], ◌∷◌, Result, Ok, Err}
use Rattle.qc_data.specs.Outcome.{Outcome, Value, Halts, and_then, why_of}
use Rattle.qc_data.specs.declared.data.Datum.{Datum}
use Rattle.qc_data.specs.declared.halt.Halt.{Halt}
use Rattle.qc_data.specs.declared.halt.Halt.TheVariants as halt

-- the members of an outcome behind others
unfoldable pub added : List Datum → Outcome (List Datum) → Outcome (List Datum)
added done o = and_then o (λ ys. Value (done ++ ys))

-- what each member gives, behind what is there
abbrev pub all_added : (Datum → Outcome (List Datum)) → List Datum → List Datum → Outcome (List Datum)
all_added f done [] = Value done
all_added f done (x ∷ xs) = and_then (added done (f x)) (λ all. all_added f all xs)

-- the code put the members of the outcome behind the old ones, unless memory was wanting
abbrev pub Adds : Outcome (List Datum) → List Datum → List Datum → Result (Unit {0}) Halt → Type 0
Adds o old new (Ok _) = added old o ≡ Value new
Adds o old new (Err e) = e ≢ halt.Memory → added old o ≡ Halts (why_of e)
