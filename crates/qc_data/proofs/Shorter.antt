-- Two lists that are alike until one of them ends.
use Rattle.std.proofs.Common.{◌≡◌, ℕ, zero, suc, ◌<◌, ◌≤◌, List, [], ◌∷◌, length, drop, arith, Ordering, Less, refl}
use Rattle.std.proofs.Common.{sym, ap}
use Rattle.std.specs.Cmp.Lexicographic.{slice_cmp}

past : {X : Type 0} (xs : List X) (i : ℕ) → length xs ≤ i → drop i xs ≡ []
past [] zero h = refl
past [] (suc i) h = refl
past (x ∷ xs) zero h = absurd (omega arith)
past (x ∷ xs) (suc i) h = past xs i (omega arith)

more_left : {X : Type 0} (c : X → X → Ordering) (ys : List X) (i : ℕ) → i < length ys
    → slice_cmp c [] (drop i ys) ≡ Less
more_left c [] i h = absurd (omega arith)
more_left c (y ∷ ys) zero h = refl
more_left c (y ∷ ys) (suc i) h = more_left c ys i (omega arith)

-- the first list ends here, and the second goes on
pub shorter : {X : Type 0} (c : X → X → Ordering) (xs ys as' bs : List X) (i n : ℕ) → length xs ≤ i → i ≤ length xs
    → n ≡ length as' → n < length ys → slice_cmp c xs ys ≡ slice_cmp c (drop i xs) (drop i ys) → xs ≡ as' → ys ≡ bs
    → Less ≡ slice_cmp c as' bs
shorter c xs ys as' bs i n h h' m k e p q =
    rw (← p, ← q, e, past xs i h) (sym (more_left c ys i (omega (arith, ap length p))))
