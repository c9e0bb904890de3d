-- Sets of what may come next.
use Rattle.std.proofs.Common.{◌≡◌, ℕ, zero, suc, ◌+◌, Bool, true, false, ◌&&◌, ◌||◌, eqb, List, [], ◌∷◌, refl, sym, ap}
use Rattle.std.proofs.Common.{subst, ◌⊎◌, inl, inr, arith, Some}
use Rattle.std.specs.Prelude.{map, slice_get}
use Rattle.std.proofs.lemmas.Bool.{eqb-true, eq-eqb}
use Rattle.qc_grammar.specs.inner.Certificate.{chosen_from, within, leads, names}
use Rattle.qc_grammar.specs.inner.Machine.{member, turn}

-- both of a conjunction
pub both : (a b : Bool) → (a && b) ≡ true → (a ≡ true) × (b ≡ true)
both true b h = (refl, h)
both false b h = cc

-- one of a disjunction
either : (a b : Bool) → (a || b) ≡ true → (a ≡ true) ⊎ (b ≡ true)
either true b h = inl refl
either false b h = inr h

-- a member of the first set is in the second
pub in_within : (s t : List ℕ) (k : ℕ) → within s t ≡ true → member k s ≡ true → member k t ≡ true
in_within [] t k w h = cc
in_within (x ∷ s) t k w h =
    let b = both (member x t) (within s t) w in
    elim (either (eqb k x) (member k s) h) [ inl e ↦ rw (eqb-true k x e) b.0 | inr e ↦ in_within s t k b.1 e ]

-- on a member of the set this alternative is chosen
pub in_leads : (s : List ℕ) (p : ℕ) (ts : List ℕ) (k : ℕ) → leads s p ts ≡ true → member k s ≡ true
    → turn ts k ≡ suc p
in_leads [] p ts k w h = cc
in_leads (x ∷ s) p ts k w h =
    let b = both (eqb (turn ts x) (suc p)) (leads s p ts) w in
    elim (either (eqb k x) (member k s) h) [
      | inl e ↦ rw (eqb-true k x e) (eqb-true (turn ts x) (suc p) b.0)
      | inr e ↦ in_leads s p ts k b.1 e
    ]

pub in_one : (k : ℕ) → member k (k ∷ []) ≡ true
in_one k = rw (eq-eqb k k refl) refl

-- on what an alternative is chosen, the rule begins
pub in_chosen : (ts : List ℕ) (i k p : ℕ) → turn ts k ≡ suc p → member (i + k) (chosen_from i ts) ≡ true
in_chosen [] i k p h = cc
in_chosen (zero ∷ ts) i zero p h = cc
in_chosen (suc t ∷ ts) i zero p h =
    let at : i + 0 ≡ i = omega arith in
    rw at (rw (eq-eqb i i refl) refl)
in_chosen (zero ∷ ts) i (suc k) p h =
    let at : suc i + k ≡ i + suc k = omega arith in
    subst (λ z. member z (chosen_from (suc i) ts) ≡ true) at (in_chosen ts (suc i) k p h)
in_chosen (suc t ∷ ts) i (suc k) p h =
    let at : suc i + k ≡ i + suc k = omega arith in
    let m = subst (λ z. member z (chosen_from (suc i) ts) ≡ true) at (in_chosen ts (suc i) k p h) in
    elim (eqb (i + suc k) i) as (λ b. (b || member (i + suc k) (chosen_from (suc i) ts)) ≡ true) [
      | true ↦ refl
      | false ↦ m
    ]

-- what a row names is one of the places
pub in_names : (ts ps : List ℕ) (k p : ℕ) → names ts ps ≡ true → turn ts k ≡ suc p → member p ps ≡ true
in_names [] ps k p w h = cc
in_names (zero ∷ ts) ps zero p w h = cc
in_names (suc t ∷ ts) ps zero p w h =
    let same : t ≡ p = omega arith in
    rw (← same) (both (member t ps) (names ts ps) w).0
in_names (zero ∷ ts) ps (suc k) p w h = in_names ts ps k p w h
in_names (suc t ∷ ts) ps (suc k) p w h = in_names ts ps k p (both (member t ps) (names ts ps) w).1 h

-- a member of a list has a number in it, also once each is mapped
pub numbered : {B : Type 0} (f : ℕ → B) (ps : List ℕ) (p : ℕ) → member p ps ≡ true
    → (i : ℕ) × (slice_get (map f ps) i ≡ Some (f p))
numbered f [] p h = cc
numbered f (x ∷ ps) p h =
    elim (either (eqb p x) (member p ps) h) [
      | inl e ↦ (0, ap (λ z. Some (f z)) (sym (eqb-true p x e)))
      | inr e ↦ (let r = numbered f ps p e in (suc r.0, r.1))
    ]

-- what a mapped list has is mapped from a member
pub mapped : {B : Type 0} (f : ℕ → B) (ps : List ℕ) (i : ℕ) (b : B) → slice_get (map f ps) i ≡ Some b
    → (p : ℕ) × (slice_get ps i ≡ Some p) × (f p ≡ b)
mapped f [] i b h = cc
mapped f (x ∷ ps) zero b h = (x, refl, cc)
mapped f (x ∷ ps) (suc i) b h = mapped f ps i b h

pub one_is : (k j : ℕ) → member k (j ∷ []) ≡ true → k ≡ j
one_is k j h = elim (either (eqb k j) false h) [ inl e ↦ eqb-true k j e | inr e ↦ absurd (cc) ]
