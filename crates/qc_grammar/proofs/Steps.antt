-- The steps of the code.
use Rattle.std.proofs.Common.{◌≡◌, ◌≢◌, ◌<◌, ℕ, suc, ◌+◌, List, [], ◌∷◌, ◌++◌, length, Some, None, Ok, refl, sym, ap}
use Rattle.std.proofs.Common.{◌∙◌, subst, arith}
use Rattle.std.specs.Prelude.{Result}
use Rattle.qc_containers.specs.declared.memory.Memory.{Memory}
use Rattle.qc_grammar.specs.declared.machine.Top.{Top}
use Rattle.qc_grammar.specs.declared.machine.Top.TheVariants.{Wants, Ends}
use Rattle.qc_grammar.specs.inner.Turns.{After}
use Rattle.qc_grammar.specs.declared.symbol.Symbol.{Symbol}
use Rattle.qc_grammar.specs.declared.symbol.Symbol.TheVariants.{Token, Rule, Action}
use Rattle.qc_grammar.specs.declared.symbol.Event.{Event}
use Rattle.qc_grammar.specs.inner.Derivations.{Rules, Whole}
use Rattle.qc_grammar.specs.inner.Certificate.{Notes, steps}
use Rattle.qc_grammar.specs.inner.Machine.{Table, body_at, left, next, choose, Reached, begun, took, acted, went}
use Rattle.qc_grammar.specs.Parsing.{Spells, Refused}
use Rattle.qc_grammar.proofs.Facts.{Exact}
use Rattle.qc_grammar.proofs.Ending.{lighter}
use Rattle.qc_grammar.proofs.Exactness.{finished, left_over, wrong_token, no_choice}

module _ (g : Rules) (o : Table) (kinds : List ℕ) where
  topped : (i : ℕ) (old σ : List Symbol) (top top' : Symbol) (rest : List ℕ) (es : List Event) → old ≡ top ∷ σ
      → top ≡ top' → Reached o kinds old i rest es → Reached o kinds (top' ∷ σ) i rest es
  topped i old σ top top' rest es s t r =
      subst (λ z. Reached o kinds (z ∷ σ) i rest es) t (subst (λ z. Reached o kinds z i rest es) s r)

  pub act : (i a : ℕ) (old σ : List Symbol) (top : Symbol) (rest : List ℕ) (es fs : List Event) → old ≡ top ∷ σ
      → top ≡ Action a → fs ≡ es ++ record { action = a; at = i } ∷ []
      → Reached o kinds old i rest es → Reached o kinds σ i rest fs
  act i a old σ top rest es fs s t e r =
      subst (λ z. Reached o kinds σ i rest z) (sym e) (acted (topped i old σ top (Action a) rest es s t r))

  pub go : (i n k : ℕ) (old σ new body : List Symbol) (top : Symbol) (rest : List ℕ) (es : List Event) → old ≡ top ∷ σ
      → top ≡ Rule n → Some body ≡ choose o n k → k ≡ next rest → new ≡ body ++ σ
      → Reached o kinds old i rest es → Reached o kinds new i rest es
  go i n k old σ new body top rest es s t b m e r =
      subst (λ z. Reached o kinds z i rest es) (sym e)
      (went (sym (b ∙ ap (choose o n) m)) (topped i old σ top (Rule n) rest es s t r))

  pub fail : (c : Notes) (i n k : ℕ) (old σ : List Symbol) (top : Symbol) (rest : List ℕ) (es : List Event)
      → Exact g o c → old ≡ top ∷ σ → top ≡ Rule n → None ≡ choose o n k → k ≡ next rest
      → Reached o kinds old i rest es → Refused (Whole g) kinds i
  fail c i n k old σ top rest es ex s t b m r =
      no_choice g o c ex kinds n σ i rest es (topped i old σ top (Rule n) rest es s t r) (sym (b ∙ ap (choose o n) m))

pub shrink : (g : Rules) (o : Table) (c : Notes) (n k : ℕ) (old σ new body : List Symbol) (top : Symbol)
    → Exact g o c → old ≡ top ∷ σ → top ≡ Rule n → Some body ≡ choose o n k → new ≡ body ++ σ
    → steps c new < steps c old
shrink g o c n k old σ new body top ex s t b e =
    let h = lighter g o c ex n k σ body (sym b) in
    subst (λ z. steps c new < steps c z) (sym (s ∙ ap (λ z. z ∷ σ) t))
    (subst (λ z. steps c z < steps c (Rule n ∷ σ)) (sym e) h)

module _ (g : Rules) (o : Table) (kinds : List ℕ) where
  -- the start's alternative is chosen
  pub start : (p k : ℕ) (ps : List ℕ) (es : List Event) → Some (body_at o p) ≡ choose o 0 k → k ≡ next kinds
      → ps ≡ [] → es ≡ [] → Reached o kinds (left o (p ∷ ps)) 0 kinds es
  start p k ps es b n e f =
      subst (λ z. Reached o kinds (left o (p ∷ ps)) 0 kinds z) (sym f)
      (subst (λ z. Reached o kinds (left o (p ∷ z)) 0 kinds []) (sym e)
      (went (sym (b ∙ ap (choose o 0) n)) begun))

  -- or none is
  pub no_start : (c : Notes) (k : ℕ) → Exact g o c → None ≡ choose o 0 k → k ≡ next kinds → Refused (Whole g) kinds 0
  no_start c k ex b n = no_choice g o c ex kinds 0 [] 0 kinds [] begun (sym (b ∙ ap (choose o 0) n))

  -- after the rules and the actions that come first are done
  pub wants : (i k p : ℕ) (rest ps : List ℕ) (es : List Event) (r : Result Top Memory) (t : Top)
      → After g o kinds i rest ps es r → r ≡ Ok t → t ≡ Wants k p
      → Reached o kinds (Token k ∷ left o (p ∷ ps)) i rest es
  wants i k p rest ps es r t h a b =
      let at : r ≡ Ok (Wants k p) = cc in subst (λ z. After g o kinds i rest ps es z) at h

  pub ends : (i : ℕ) (rest ps : List ℕ) (es : List Event) (r : Result Top Memory) (t : Top)
      → After g o kinds i rest ps es r → r ≡ Ok t → t ≡ Ends → Reached o kinds [] i rest es
  ends i rest ps es r t h a b = let at : r ≡ Ok Ends = cc in subst (λ z. After g o kinds i rest ps es z) at h

  pub take_on : (i k : ℕ) (rest others : List ℕ) (σ : List Symbol) (es : List Event) (first : ℕ) → rest ≡ first ∷ others
      → first ≡ k → Reached o kinds (Token k ∷ σ) i rest es → Reached o kinds σ (i + 1) others es
  take_on i k rest others σ es first e f r =
      let at : suc i ≡ i + 1 = omega arith in
      subst (λ z. Reached o kinds σ z others es) at
      (took (subst (λ z. Reached o kinds (Token k ∷ σ) i z es) (e ∙ ap (λ z. z ∷ others) f) r))

  pub other_kind : (c : Notes) (i k : ℕ) (rest others : List ℕ) (σ : List Symbol) (es : List Event) (first : ℕ)
      → Exact g o c → rest ≡ first ∷ others → first ≢ k → Reached o kinds (Token k ∷ σ) i rest es
      → Refused (Whole g) kinds i
  other_kind c i k rest others σ es first ex e f r =
      wrong_token g o c ex kinds k σ i rest es r
      (λ h. f (let a : suc first ≡ suc k = sym (ap next e) ∙ h in omega arith))

  pub no_token : (c : Notes) (i k : ℕ) (rest : List ℕ) (σ : List Symbol) (es : List Event) → Exact g o c
      → length rest ≡ 0 → Reached o kinds (Token k ∷ σ) i rest es → Refused (Whole g) kinds i
  no_token c i k [] σ es ex e r = wrong_token g o c ex kinds k σ i [] es r (λ h. absurd (omega arith))
  no_token c i k (x ∷ rest) σ es ex e r = absurd (omega arith)

  pub done : (c : Notes) (i : ℕ) (rest : List ℕ) (es : List Event) → Exact g o c → length rest ≡ 0
      → Reached o kinds [] i rest es → Spells (Whole g) kinds es
  done c i [] es ex e r = finished g o c ex kinds i es r
  done c i (x ∷ rest) es ex e r = absurd (omega arith)

  pub too_many : (c : Notes) (i : ℕ) (rest : List ℕ) (es : List Event) → Exact g o c → length rest ≢ 0
      → Reached o kinds [] i rest es → Refused (Whole g) kinds i
  too_many c i [] es ex e r = absurd (e refl)
  too_many c i (x ∷ rest) es ex e r = left_over g o c ex kinds i (x ∷ rest) es r (λ h. absurd (omega arith))
