-- A list of tokens has one place of its fault.
use Rattle.std.proofs.Common.{◌≡◌, ◌⊎◌, inl, inr, ◌≤◌, ◌<◌, ◌+◌, ℕ, zero, suc, List, [], ◌∷◌, ◌++◌, length, take, refl}
use Rattle.std.proofs.Common.{ap, subst, ◌∙◌, append_assoc, arith}
use Rattle.qc_grammar.specs.Parsing.{Begins, FaultAt}

-- two numbers are the same, or one is less
compared : (a b : ℕ) → (a ≡ b) ⊎ ((a < b) ⊎ (b < a))
compared zero zero = inl refl
compared zero (suc b) = inr (inl (omega arith))
compared (suc a) zero = inr (inr (omega arith))
compared (suc a) (suc b) = elim (compared a b) [
  | inl e ↦ inl (ap suc e)
  | inr o ↦ elim o [
    | inl l ↦ inr (inl (let less : a < b = l in omega arith))
    | inr l ↦ inr (inr (let less : b < a = l in omega arith))
  ]
]

-- a front goes on with the rest of a longer one
front_of : {T : Type 0} (n b : ℕ) (ts : List T) → n ≤ b → (rest : List T) × (take b ts ≡ take n ts ++ rest)
front_of zero b ts le = (take b ts, refl)
front_of (suc n) zero ts le = absurd (omega arith)
front_of (suc n) (suc b) [] le = ([], refl)
front_of (suc n) (suc b) (t ∷ ts) le = let r = front_of n b ts (omega arith) in (r.0, ap (λ xs. t ∷ xs) r.1)

module _ {T A : Type 0} (L : List T → A → Type 0) where
  -- a front of what begins a word of the language begins one
  begins_less : (ts : List T) (n b : ℕ) → n ≤ b → Begins L (take b ts) → Begins L (take n ts)
  begins_less ts n b le w =
      let r = front_of n b ts le in
      (r.0 ++ w.0, w.1, subst (λ z. L z w.1) (ap (λ z. z ++ w.0) r.1 ∙ append_assoc (take n ts) r.0 w.0) w.2)

  -- no fault is before another
  not_before : (ts : List T) (a b : ℕ) → FaultAt L ts a → FaultAt L ts b → a < b → ⊥
  not_before ts a b f g l =
      let within : b ≤ length ts = g.within in
      f.beyond (omega arith) (begins_less ts (a + 1) b (omega arith) g.before)

  pub one_place : (ts : List T) (a b : ℕ) → FaultAt L ts a → FaultAt L ts b → a ≡ b
  one_place ts a b f g = elim (compared a b) [
    | inl e ↦ e
    | inr o ↦ elim o [ inl l ↦ absurd (not_before ts a b f g l) | inr l ↦ absurd (not_before ts b a g f l) ]
  ]
