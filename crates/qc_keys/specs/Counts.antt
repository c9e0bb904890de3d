-- Equality of keys, and how many there are of each.
use Rattle.std.specs.Prelude.{◌≡◌, ℕ, Bool, cond, count_by, List, [], ◌∷◌}
use Rattle.std.specs.Ordering.{is_eq}
use Rattle.qc_data.specs.Order.{cmp}
use Rattle.qc_data.specs.declared.data.Datum.{Datum}

-- keys, which are canons, are equal
abbrev pub equal : Datum → Datum → Bool
equal c d = is_eq (cmp c d)

-- how many there are of the key in a tally
abbrev pub count : Datum → List (Datum × ℕ) → ℕ
count c [] = 0
count c (e ∷ es) = cond (equal c e.0) e.1 (count c es)

-- the tally has as many of each key as the list
abbrev pub Tallies : List (Datum × ℕ) → List Datum → Type 0
Tallies tally keys = (c : Datum) → count c tally ≡ count_by (equal c) keys

-- what is gathered at the key
abbrev pub gathered : Datum → List (Datum × List Datum) → List Datum
gathered c [] = []
gathered c (e ∷ es) = cond (equal c e.0) e.1 (gathered c es)
