-- The value that digits spell grows with each digit.
use Rattle.std.proofs.Common.{ℕ, suc, ◌+◌, ◌-◌, ◌*◌, ◌<◌, ◌≤◌, List, [], ◌∷◌, length, drop, get_or, drop-cons, arith}
use Rattle.qc_lex.specs.Pieces.{value_after}

grows : (n : ℕ) (digits : List ℕ) → n ≤ value_after n digits
grows n [] = omega arith
grows n (d ∷ ds) = omega (arith, grows (10 * n + (d - 48)) ds)

-- what passes a limit with one digit is beyond it with all
pub over : (limit n i : ℕ) (digits : List ℕ) → i < length digits → limit ≤ 10 * n + (get_or digits i 0 - 48)
    → limit ≤ value_after n (drop i digits)
over limit n i digits h k =
    rw (drop-cons digits i 0) (omega (arith, grows (10 * n + (get_or digits i 0 - 48)) (drop (suc i) digits)))
