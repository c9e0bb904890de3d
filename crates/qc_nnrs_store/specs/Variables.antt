-- The variables of programs of statements: what may be done with each, and what is written to it.
use Rattle.std.specs.Prelude.{ℕ, ◌==◌, cond, Bool, true, false, List, [], ◌∷◌, Option, Some, None}
use Rattle.qc_data.specs.Outcome.{Outcome, Value, Halts, Stuck}
use Rattle.qc_data.specs.declared.data.Datum.{Datum}

-- what may be done with a variable: it is read, where it may have no value; it is set; or it is pushed to
pub data Class : Type 0 where
  Reads : (value : Option Datum) → Class
  Sets : Class
  Pushes : Class

-- the variables that are bound, the newest first: of those of one number the newest counts
abbrev pub Frame : Type 0
Frame = List (ℕ × Class)

-- the values that were written to variables, in order
abbrev pub Writes : Type 0
Writes = List (ℕ × Datum)

-- the class of a variable
abbrev pub class_of : ℕ → Frame → Option Class
class_of x [] = None
class_of x (b ∷ f) = cond (b.0 == x) (Some b.1) (class_of x f)

-- the value of a variable that is read
abbrev pub value_in : Option Class → Option Datum
value_in (Some (Reads o)) = o
value_in _ = None

-- the write of a value to a variable that may be set, or pushed to
abbrev pub set_at : ℕ → Datum → Option Class → Outcome Writes
set_at x d (Some Sets) = Value ((x, d) ∷ [])
set_at x d _ = Halts Stuck

abbrev pub push_at : ℕ → Datum → Option Class → Outcome Writes
push_at x d (Some Pushes) = Value ((x, d) ∷ [])
push_at x d _ = Halts Stuck

-- all that was written to a variable, in order
abbrev pub written : ℕ → Writes → List Datum
written x [] = []
written x (w ∷ ws) = cond (w.0 == x) (w.1 ∷ written x ws) (written x ws)

-- what was written to other variables
abbrev pub without : ℕ → Writes → Writes
without x [] = []
without x (w ∷ ws) = cond (w.0 == x) (without x ws) (w ∷ without x ws)

-- the last member
abbrev pub last_of : List Datum → Option Datum
last_of [] = None
last_of (d ∷ []) = Some d
last_of (d ∷ e ∷ ds) = last_of (e ∷ ds)

-- ---- classes

-- a variable that is read
abbrev pub read_only : Class
read_only = Reads None

-- how a variable may be used
abbrev pub is_read : Option Class → Bool
is_read (Some (Reads o)) = true
is_read _ = false

abbrev pub is_set : Option Class → Bool
is_set (Some Sets) = true
is_set _ = false

abbrev pub is_pushed : Option Class → Bool
is_pushed (Some Pushes) = true
is_pushed _ = false
