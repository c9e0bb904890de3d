-- The variables that code holds, as clauses see them, and statements as functions answer them.
use Rattle.std.specs.Prelude.{◌≡◌, ◌≢◌, ℕ, List, [], ◌∷◌, Result, Ok, Err}
use Rattle.qc_data.specs.Outcome.{Outcome, Value, Halts, why_of}
use Rattle.qc_data.specs.declared.halt.Halt.{Halt}
use Rattle.qc_data.specs.declared.halt.Halt.TheVariants as halt
use Rattle.qc_js_run.specs.declared.slots.Slot.{Slot}
use Rattle.qc_js_run.specs.declared.slots.Slot.TheVariants as slot
use Rattle.qc_js_run.specs.declared.store.Store as code
use Rattle.qc_js.specs.Meaning.{Cell, Settable, Constant, Collecting, Store}

-- what a slot holds
abbrev pub seen : Slot → Cell
seen (slot.Settable o) = Settable o
seen (slot.Constant d) = Constant d
seen (slot.Collecting ds) = Collecting ds

-- slots, of which the newest stands last, behind the variables of a store
abbrev pub behind : List (ℕ × Slot) → Store → Store
behind [] st = st
behind (c ∷ cs) st = behind cs ((c.0, seen c.1) ∷ st)

-- the variables that code holds, the newest first
unfoldable pub store_of : code.Store → Store
store_of s = behind s.slots.items []

-- no slot is of the variable
abbrev pub NoneOf : ℕ → List (ℕ × Slot) → Type 0
NoneOf x [] = Unit {0}
NoneOf x (c ∷ cs) = (c.0 ≢ x) × NoneOf x cs

-- the first slot is of the variable, and no other one
abbrev pub FirstAlone : ℕ → List (ℕ × Slot) → Type 0
FirstAlone x [] = ⊥
FirstAlone x (c ∷ cs) = (c.0 ≡ x) × NoneOf x cs

-- the code changed a cell so, unless memory was wanting
abbrev pub Becomes : Outcome Cell → Slot → Result (Unit {0}) Halt → Type 0
Becomes o new (Ok _) = o ≡ Value (seen new)
Becomes o new (Err e) = e ≢ halt.Memory → o ≡ Halts (why_of e)

-- the code led to the store, unless memory was wanting
abbrev pub Leads : Outcome Store → Store → Result (Unit {0}) Halt → Type 0
Leads o new (Ok _) = o ≡ Value new
Leads o new (Err e) = e ≢ halt.Memory → o ≡ Halts (why_of e)
