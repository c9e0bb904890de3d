-- Fronts of a list that was cut in two.
use Rattle.std.proofs.Common.{◌≡◌, ℕ, List, ◌++◌, ◌-◌, length, take, drop, refl, append_assoc, length-drop}
use Rattle.std.proofs.Math.Seq.{take-length}
use Rattle.std.proofs.lemmas.List.{take-append-drop}

-- the first n of what is left may go over to the front: then all after them is left
pub further_front : (whole front rest : List ℕ) (n : ℕ) → whole ≡ front ++ rest
    → whole ≡ front ++ take n rest ++ take (length rest - n) (drop n rest)
further_front whole front rest n is =
    rw (is, ← length-drop n rest, take-length (drop n rest), append_assoc, take-append-drop n rest) refl
