-- The members of a source that a condition keeps, as private functions answer them.
use Rattle.std.specs.Prelude.{◌≡◌, ◌≢◌, ℕ, cond, List, [], ◌∷◌, Option, Some, None, Result, Ok, Err}
use Rattle.std.specs.Borrow.{Bor}
use Rattle.qc_data.specs.Outcome.{Outcome, Value, Halts, and_then, gather, why_of}
use Rattle.qc_data.specs.declared.data.Datum.{Datum}
use Rattle.qc_data.specs.declared.halt.Halt.{Halt}
use Rattle.qc_data.specs.declared.halt.Halt.TheVariants as halt
use Rattle.qc_oql_tree.specs.Bindings.{Bindings, Meaning}
use Rattle.qc_oql_tree.specs.FormMeanings.{truth}

-- the member alone where the condition is true with the name bound to it
abbrev pub kept_member : Meaning → List ℕ → Bindings → Datum → Outcome (List Datum)
kept_member test name s x = and_then (truth test ((name, x) ∷ s)) (λ holds. Value (cond holds (x ∷ []) []))

-- the members that the condition keeps, if there is one
abbrev pub kept_members : Option Meaning → List ℕ → Bindings → List Datum → Outcome (List Datum)
kept_members None name s xs = Value xs
kept_members (Some test) name s xs = gather (kept_member test name s) xs

-- the code's answer of the member alone, or none, is the outcome, unless memory was wanting
abbrev pub GivesKept : Outcome (List Datum) → Result (Option (Bor Datum)) Halt → Type 0
GivesKept o (Ok None) = o ≡ Value []
GivesKept o (Ok (Some member)) = o ≡ Value (member.now ∷ [])
GivesKept o (Err e) = e ≢ halt.Memory → o ≡ Halts (why_of e)
