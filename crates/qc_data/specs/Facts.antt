-- What holds of every datum that code holds, though not of every datum that clauses can speak of.
use Rattle.std.specs.Prelude.{ℕ, ℤ, pos, negsuc, ◌^◌, ◌-◌, Bool, true, ◌&&◌, List, [], ◌∷◌, IsTrue, int_le}
use Rattle.std.specs.Ordering.{is_lt}
use Rattle.qc_containers.specs.Name.{is_name}
use Rattle.qc_containers.specs.Rising.{text_cmp}
use Rattle.qc_data.specs.declared.data.Datum.{Datum}
use Rattle.qc_data.specs.declared.data.Datum.TheOpen.{Datum-F}
use Rattle.qc_data.specs.declared.data.Datum.TheFolds.{fold-Datum}

-- each is true
abbrev pub all_true : List Bool → Bool
all_true [] = true
all_true (b ∷ bs) = b && all_true bs

-- each value is true
abbrev pub all_values : List (List ℕ × Bool) → Bool
all_values [] = true
all_values (p ∷ ps) = p.1 && all_values ps

-- each name is one, and each value is true
abbrev pub all_named : List (List ℕ × Bool) → Bool
all_named [] = true
all_named (p ∷ ps) = is_name p.0 && (p.1 && all_named ps)

-- each name of the list comes after the name
abbrev pub all_above : {T : Type 0} → List ℕ → List (List ℕ × T) → Bool
all_above name [] = true
all_above name (p ∷ ps) = is_lt (text_cmp name p.0) && all_above name ps

-- the names rise
abbrev pub rise : {T : Type 0} → List (List ℕ × T) → Bool
rise [] = true
rise (p ∷ ps) = all_above p.0 ps && rise ps

-- one layer, given the same of its parts
abbrev pub named_step : Datum-F Bool → Bool
named_step (Datum-F.Coll bs) = all_true bs
named_step (Datum-F.Rec ps) = all_named ps
named_step (Datum-F.Left b) = b
named_step (Datum-F.Right b) = b
named_step (Datum-F.Brand name b) = is_name name && b
named_step x = true

-- every field's and class's name in the datum is a name
abbrev pub named : Datum → Bool
named = fold-Datum Bool named_step

-- one layer, given the same of its parts
abbrev pub rising_step : Datum-F Bool → Bool
rising_step (Datum-F.Coll bs) = all_true bs
rising_step (Datum-F.Rec ps) = rise ps && all_values ps
rising_step (Datum-F.Left b) = b
rising_step (Datum-F.Right b) = b
rising_step (Datum-F.Brand name b) = b
rising_step x = true

-- the names of every record in the datum rise
abbrev pub rising : Datum → Bool
rising = fold-Datum Bool rising_step

-- one layer, given the same of its parts
abbrev pub within_step : ℤ → ℤ → Datum-F Bool → Bool
within_step low high (Datum-F.Int n) = int_le low n && int_le n high
within_step low high (Datum-F.Coll bs) = all_true bs
within_step low high (Datum-F.Rec ps) = all_values ps
within_step low high (Datum-F.Left b) = b
within_step low high (Datum-F.Right b) = b
within_step low high (Datum-F.Brand name b) = b
within_step low high x = true

-- every integer in the datum lies from low to high
abbrev pub within : ℤ → ℤ → Datum → Bool
within low high = fold-Datum Bool (within_step low high)

-- the least and the greatest integer of 64 bits
abbrev pub lowest : ℤ
lowest = negsuc (2 ^ 63 - 1)

abbrev pub highest : ℤ
highest = pos (2 ^ 63 - 1)

-- every integer in the datum has 64 bits
abbrev pub within64 : Datum → Bool
within64 = within lowest highest

-- A datum that code can hold: its names are names (the invariant of `Name`), its records rise (that of `NameMap`), and
-- its integers are `i64`. The function `held` gives this for each datum.
pub record Held (d : Datum) : Type 0 where
  pub names : IsTrue (named d)
  pub records : IsTrue (rising d)
  pub integers : IsTrue (within64 d)
