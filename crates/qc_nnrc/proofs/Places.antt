-- What is put, by where a variable stands.
use Rattle.std.proofs.Common.{◌≡◌, ◌==◌, ◌<◌, ◌≤◌, ℕ, suc, Bool, true, false, cond, List, [], ◌∷◌, ◌++◌, length, set}
use Rattle.std.proofs.Common.{refl, ap, arith}
use Rattle.qc_nnrc.specs.Variables.{put}
use Rattle.qc_nnrc.specs.inner.Places.{place_of}

module _ {T : Type 0} where
  set_more : (t : Bool) (p q : ℕ × T) (ps put : List (ℕ × T)) (i : ℕ) → cond t 0 (suc i) < suc (length ps)
      → (i < length ps → put ≡ set ps i q) → cond t (q ∷ ps) (p ∷ put) ≡ set (p ∷ ps) (cond t 0 (suc i)) q
  set_more true p q ps put i lt h = refl
  set_more false p q ps put i lt h = ap (λ (l : List (ℕ × T)). p ∷ l) (h (omega (arith, lt)))

  -- a pair that is there is replaced
  pub put_there : (x : ℕ) (value : T) (ps : List (ℕ × T)) → place_of x ps < length ps
      → put x value ps ≡ set ps (place_of x ps) (x, value)
  put_there x value [] lt = absurd (omega (arith, lt))
  put_there x value (p ∷ ps) lt =
      set_more (p.0 == x) p (x, value) ps (put x value ps) (place_of x ps) lt (put_there x value ps)

  last_more : (t : Bool) (p q : ℕ × T) (ps put : List (ℕ × T)) (i : ℕ) → suc (length ps) ≤ cond t 0 (suc i)
      → (length ps ≤ i → put ≡ ps ++ q ∷ []) → cond t (q ∷ ps) (p ∷ put) ≡ (p ∷ ps) ++ q ∷ []
  last_more true p q ps put i le h = absurd (omega (arith, le))
  last_more false p q ps put i le h = ap (λ (l : List (ℕ × T)). p ∷ l) (h (omega (arith, le)))

  -- one that is not there stands last
  pub put_last : (x : ℕ) (value : T) (ps : List (ℕ × T)) → length ps ≤ place_of x ps
      → put x value ps ≡ ps ++ (x, value) ∷ []
  put_last x value [] le = refl
  put_last x value (p ∷ ps) le =
      last_more (p.0 == x) p (x, value) ps (put x value ps) (place_of x ps) le (put_last x value ps)
