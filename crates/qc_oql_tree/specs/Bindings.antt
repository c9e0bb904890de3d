-- Names with their values, and what a name stands for.
use Rattle.std.specs.Prelude.{ℕ, List, Option, Some, None}
use Rattle.qc_data.specs.Outcome.{Outcome}
use Rattle.qc_containers.specs.Pairs.{lookup}
use Rattle.qc_data.specs.declared.data.Datum.{Datum}
use Rattle.qc_ops.specs.Operands.{found}
use Rattle.qc_types.specs.Schemas.{WorldOf, global}

-- variables and definitions, the newest first
abbrev pub Bindings : Type 0
Bindings = List (List ℕ × Datum)

-- the outcome of an expression, by its bindings
abbrev pub Meaning : Type 0
Meaning = Bindings → Outcome Datum

-- the first value, or else the second
abbrev pub or_else_some : {A : Type 0} → Option A → Option A → Option A
or_else_some None o = o
or_else_some (Some a) o = Some a

-- a name is the newest binding of it, or else the global of the world
abbrev pub value_of : WorldOf → List ℕ → Meaning
value_of w name s = found (or_else_some (lookup name s) (global name w.datum))
