-- What functions take: so many arguments, and parameters by what is seen in them.
use Rattle.std.specs.Prelude.{ℕ, ℤ, pos, negsuc, Bool, true, false, not, ◌==◌, List, [], ◌∷◌, length, zip, cond}
use Rattle.qc_containers.specs.Name.{is_marker}
use Rattle.qc_data.specs.Kinds.{as_int, as_coll}
use Rattle.qc_data.specs.Outcome.{Outcome, Value, Halts, Stuck, and_then, each}
use Rattle.qc_data.specs.declared.data.Datum.{Datum}
use Rattle.qc_data.specs.declared.data.Datum.TheOpen.{Datum-F}
use Rattle.qc_data.specs.declared.data.Datum.TheViews.{out-Datum}
use Rattle.qc_ops.specs.Operands.{as_bool, as_text, only_if}
use Rattle.qc_rt.specs.Seen.{is_odd}

-- the arguments, where there are so many
abbrev pub the_only : {A : Type 0} → List A → Outcome A
the_only [] = Halts Stuck
the_only (a ∷ []) = Value a
the_only (a ∷ b ∷ xs) = Halts Stuck

abbrev pub the_two : {A : Type 0} → List A → Outcome (A × A)
the_two [] = Halts Stuck
the_two (a ∷ []) = Halts Stuck
the_two (a ∷ b ∷ []) = Value (a, b)
the_two (a ∷ b ∷ c ∷ xs) = Halts Stuck

abbrev pub the_three : {A : Type 0} → List A → Outcome (A × A × A)
the_three [] = Halts Stuck
the_three (a ∷ []) = Halts Stuck
the_three (a ∷ b ∷ []) = Halts Stuck
the_three (a ∷ b ∷ c ∷ []) = Value (a, b, c)
the_three (a ∷ b ∷ c ∷ d ∷ xs) = Halts Stuck

-- what no argument gives
abbrev pub none : Outcome Datum → List Datum → Outcome Datum
none o [] = o
none o (a ∷ xs) = Halts Stuck

-- what one, two and three arguments give
abbrev pub one : (Datum → Outcome Datum) → List Datum → Outcome Datum
one f args = and_then (the_only args) f

abbrev pub two : (Datum → Datum → Outcome Datum) → List Datum → Outcome Datum
two f args = and_then (the_two args) (λ p. f p.0 p.1)

abbrev pub three : (Datum → Datum → Datum → Outcome Datum) → List Datum → Outcome Datum
three f args = and_then (the_three args) (λ p. f p.0 p.1 p.2)

-- a parameter that is a name: a text that is no marker
abbrev pub as_name : Datum → Outcome (List ℕ)
as_name d = and_then (as_text d) (λ name. only_if (not (is_marker name)) (Value name))

-- a parameter that is a list of names
abbrev pub as_names : Datum → Outcome (List (List ℕ))
as_names d = and_then (as_coll d) (λ ds. each as_name ds)

-- the integer is 0
abbrev pub is_zero : ℤ → Bool
is_zero (pos n) = n == 0
is_zero (negsuc n) = false

-- a parameter that divides: an integer other than 0
abbrev pub as_divisor : Datum → Outcome ℤ
as_divisor d = and_then (as_int d) (λ k. only_if (not (is_zero k)) (Value k))

-- a parameter that says of each key whether it is ascending
abbrev pub as_directions : Datum → Outcome (List Bool)
as_directions d = and_then (as_coll d) (λ ds. each as_bool ds)

-- two parameters that are keys: as many names as directions
abbrev pub as_keys : Datum → Datum → Outcome (List (List ℕ × Bool))
as_keys d e =
    and_then (as_names d)
    (λ names. and_then (as_directions e)
    (λ directions. only_if (length names == length directions) (Value (zip names directions))))

-- by the outermost layer of a datum
abbrev pub side_at : Datum-F Datum → Outcome (Bool × Datum)
side_at (Datum-F.Left d) = cond (is_odd d) (Halts Stuck) (Value (true, d))
side_at (Datum-F.Right d) = Value (false, d)
side_at _ = Halts Stuck

-- whether what is on a side is on the left one, and what it is
abbrev pub as_side : Datum → Outcome (Bool × Datum)
as_side d = side_at (out-Datum d)
