-- What a private function answers of the members of an object.
use Rattle.std.specs.Prelude.{◌≡◌, ◌≢◌, ℕ, true, false, List, Result, Ok, Err}
use Rattle.std.specs.Borrow.{Bor}
use Rattle.qc_data.specs.Outcome.{Stuck, why_of}
use Rattle.qc_data.specs.declared.data.Json.{Json}
use Rattle.qc_data.specs.declared.halt.Halt.{Halt}
use Rattle.qc_data.specs.declared.halt.Halt.TheVariants as halt
use Rattle.qc_rt.specs.Seen.{has_marker}

-- the members themselves, where they are those of a plain object
abbrev pub GivesPlain : List (List ℕ × Json) → Result (Bor (List (List ℕ × Json))) Halt → Type 0
GivesPlain ms (Ok r) = (r.now ≡ ms) × (has_marker ms ≡ false)
GivesPlain ms (Err e) = e ≢ halt.Memory → (has_marker ms ≡ true) × (why_of e ≡ Stuck)
