-- Data with no collection inside.
use Rattle.std.specs.Prelude.{ℕ, Bool, true, false, ◌&&◌, List, [], ◌∷◌}
use Rattle.qc_data.specs.declared.data.Datum.{Datum}
use Rattle.qc_data.specs.declared.data.Datum.TheOpen.{Datum-F}
use Rattle.qc_data.specs.declared.data.Datum.TheFolds.{fold-Datum}

-- no value has one
abbrev pub all_plain : List (List ℕ × Bool) → Bool
all_plain [] = true
all_plain (p ∷ ps) = p.1 && all_plain ps

-- one layer, by whether its parts have none
abbrev pub plain_step : Datum-F Bool → Bool
plain_step Datum-F.Unit = true
plain_step (Datum-F.Bool b) = true
plain_step (Datum-F.Int n) = true
plain_step (Datum-F.Text s) = true
plain_step (Datum-F.Coll bs) = false
plain_step (Datum-F.Rec ps) = all_plain ps
plain_step (Datum-F.Left b) = b
plain_step (Datum-F.Right b) = b
plain_step (Datum-F.Brand n b) = b

-- the datum neither is a collection nor has one inside
abbrev pub plain : Datum → Bool
plain = fold-Datum Bool plain_step
