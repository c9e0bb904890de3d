-- What a run of puts does to a sink.
use Rattle.std.specs.Prelude.{◌≡◌, ℕ, ◌≤◌, List, Option, Bool, true, false}
use Rattle.std.specs.Io.KnownBytes.{append_known}
use Rattle.qc_io.specs.Device.{Rose, AppendsFront}

abbrev pub HasAdded : Bool → Bool → Option (List ℕ) → Option (List ℕ) → ℕ → ℕ → List ℕ → Type 0
HasAdded true true old new before now text = (new ≡ append_known old text) × (before ≤ now)
HasAdded true false old new before now text = AppendsFront old new text × Rose before now × (before ≤ now)
HasAdded false true old new before now text = ⊥
HasAdded false false old new before now text = (new ≡ old) × (now ≡ before)

-- `ok` and then `done` say that no put has failed so far: the text was put whole, or a front of it and a failure was
-- counted, or an earlier put failed and nothing is put
pub record Adds (ok done : Bool) (old new : Option (List ℕ)) (before now : ℕ) (text : List ℕ) : Type 0 where
  pub added : HasAdded ok done old new before now text
