-- A derivation in spans: from which token and stack of values to which ones.
use Rattle.std.proofs.Common.{◌≡◌, ◌≤◌, ℕ, zero, suc, List, [], ◌∷◌, ◌++◌, ◌+◌, length, drop, slice_get, refl, sym, ap}
use Rattle.std.proofs.Common.{◌∙◌, subst, arith, Some}
use Rattle.std.proofs.lemmas.Option.{slice_get_within}
use Rattle.qc_grammar.specs.declared.symbol.Symbol.{Symbol}
use Rattle.qc_grammar.specs.declared.symbol.Symbol.TheVariants.{Token, Rule, Action}
use Rattle.qc_grammar.specs.declared.symbol.Event.{Event}
use Rattle.qc_grammar.specs.inner.Derivations.{Rules, alternatives, Produces, Derives, nothing, token, action, rule}

drop_here : (K : List ℕ) (i k : ℕ) → slice_get K i ≡ Some k → drop i K ≡ k ∷ drop (suc i) K
drop_here [] i k h = cc
drop_here (x ∷ K) zero k h = cc
drop_here (x ∷ K) (suc i) k h = drop_here K i k h

here_of : (K : List ℕ) (i k : ℕ) (ks : List ℕ) → drop i K ≡ k ∷ ks → (slice_get K i ≡ Some k) × (drop (suc i) K ≡ ks)
here_of [] zero k ks h = cc
here_of [] (suc i) k ks h = cc
here_of (x ∷ K) zero k ks h = (let e : x ≡ k = cc in ap (λ z. Some z) e, let e : K ≡ ks = cc in e)
here_of (x ∷ K) (suc i) k ks h = here_of K i k ks h

pub drop_end : (K : List ℕ) → drop (length K) K ≡ []
drop_end [] = refl
drop_end (x ∷ K) = drop_end K

at_end : (K : List ℕ) (i : ℕ) → i ≤ length K → drop i K ≡ [] → i ≡ length K
at_end [] zero l h = refl
at_end [] (suc i) l h = absurd (omega arith)
at_end (x ∷ K) zero l h = cc
at_end (x ∷ K) (suc i) l h = ap (λ n. suc n) (at_end K i (omega arith) h)

module _ {V : Type 0} (act : ℕ → ℕ → V → V) where
  abbrev pub run : List Event → V → V
  run [] s = s
  run (e ∷ es) s = run es (act e.action e.at s)

-- the symbols lead from the one token and stack to the other
pub data Walks {V : Type 0} (g : Rules) (K : List ℕ) (act : ℕ → ℕ → V → V) : ℕ → List Symbol → V → ℕ → V → Type 0 where
  done : {i : ℕ} {s : V} → Walks g K act i [] s i s
  here : {i j k : ℕ} {σ : List Symbol} {s t : V} → slice_get K i ≡ Some k → Walks g K act (suc i) σ s j t
      → Walks g K act i (Token k ∷ σ) s j t
  acts : {i j a : ℕ} {σ : List Symbol} {s t : V} → Walks g K act i σ (act a i s) j t
      → Walks g K act i (Action a ∷ σ) s j t
  goes : {i m j n : ℕ} {σ body : List Symbol} {s r t : V} → Produces g n body → Walks g K act i body s m r
      → Walks g K act m σ r j t → Walks g K act i (Rule n ∷ σ) s j t

module _ {V : Type 0} (g : Rules) (K : List ℕ) (act : ℕ → ℕ → V → V) where
  -- one behind another
  pub both : (i m j : ℕ) (σ τ : List Symbol) (s r t : V) → Walks g K act i σ s m r → Walks g K act m τ r j t
      → Walks g K act i (σ ++ τ) s j t
  both i m j σ τ s r t done v = v
  both i m j σ τ s r t (here {k = k} {σ = ρ} h w) v = here h (both (suc i) m j ρ τ s r t w v)
  both i m j σ τ s r t (acts {a = a} {σ = ρ} w) v = acts (both i m j ρ τ (act a i s) r t w v)
  both i m j σ τ s r t (goes {m = l} {σ = ρ} {r = q} P u w) v = goes P u (both l m j ρ τ q r t w v)

  -- a walk is a derivation whose actions make its stack
  pub flat : (i j : ℕ) (σ τ : List Symbol) (s t : V) (es : List Event) → Walks g K act i σ s j t
      → Derives g j τ (drop j K) es
      → (fs : List Event) × Derives g i (σ ++ τ) (drop i K) fs × (run act fs s ≡ run act es t)
  flat i j σ τ s t es done d = (es, d, refl)
  flat i j σ τ s t es (here {k = k} {σ = ρ} h w) d =
      let r = flat (suc i) j ρ τ s t es w d in
      (r.0, subst (λ z. Derives g i (Token k ∷ (ρ ++ τ)) z r.0) (sym (drop_here K i k h)) (token r.1), r.2)
  flat i j σ τ s t es (acts {a = a} {σ = ρ} w) d =
      let r = flat i j ρ τ (act a i s) t es w d in
      (record { action = a; at = i } ∷ r.0, action r.1, r.2)
  flat i j σ τ s t es (goes {m = m} {n = n} {σ = ρ} {body = body} {r = q} P u w) d =
      let r = flat m j ρ τ q t es w d in
      let p = flat i m body (ρ ++ τ) s q r.0 u r.1 in
      (p.0, rule P p.1, p.2 ∙ r.2)

-- what the words of a rule are from a token and a stack, up to where, and what they make of the stack
pub record Kept (V : Type 0) : Type 1 where
  pub Word : ℕ → V → Type 0
  pub end : (i : ℕ) (s : V) → Word i s → ℕ
  pub stack : (i : ℕ) (s : V) → Word i s → V

-- of all rules in order
pub data AllKept (V : Type 0) : Type 1 where
  none : AllKept V
  also : Kept V → AllKept V → AllKept V

abbrev pub nothing_kept : {V : Type 0} → Kept V
nothing_kept {V = V} = record { Word = λ i s. Unit {0}; end = λ i s w. i; stack = λ i s w. s }

-- of the rule of this number
abbrev pub of : {V : Type 0} → AllKept V → ℕ → Kept V
of none n = nothing_kept
of (also R Rs) zero = R
of (also R Rs) (suc n) = of Rs n

module _ {V : Type 0} (K : List ℕ) (act : ℕ → ℕ → V → V) (R : AllKept V) where
  -- what holds behind the symbols, if the rules in them have such words
  abbrev pub After : ℕ → List Symbol → V → (ℕ → V → Type 0) → Type 0
  After i [] s C = C i s
  After i (Token k ∷ σ) s C = slice_get K i ≡ Some k → After (suc i) σ s C
  After i (Rule n ∷ σ) s C = (w : (of R n).Word i s) → After ((of R n).end i s w) σ ((of R n).stack i s w) C
  After i (Action a ∷ σ) s C = After i σ (act a i s) C

  -- a word of the rule leads here
  abbrev pub Left : ℕ → ℕ → V → ℕ → V → Type 0
  Left n i s j t = (w : (of R n).Word i s) × ((of R n).end i s w ≡ j) × ((of R n).stack i s w ≡ t)

  abbrev pub Closes : ℕ → List (List Symbol) → Type 0
  Closes n [] = Unit {0}
  Closes n (b ∷ bs) = ((i : ℕ) (s : V) → After i b s (Left n i s)) × Closes n bs

  closes_at : (n p : ℕ) (bs : List (List Symbol)) (body : List Symbol) → Closes n bs → slice_get bs p ≡ Some body
      → (i : ℕ) (s : V) → After i body s (Left n i s)
  closes_at n p [] body c h = cc
  closes_at n zero (b ∷ bs) body c h =
      subst (λ z. (i : ℕ) (s : V) → After i z s (Left n i s)) (let e : b ≡ body = cc in e) c.0
  closes_at n (suc p) (b ∷ bs) body c h = closes_at n p bs body c.1 h

  -- each alternative of each rule is a word of it
  abbrev pub AllClose : ℕ → Rules → Type 0
  AllClose n [] = Unit {0}
  AllClose n (e ∷ es) = Closes n e × AllClose (suc n) es

  close_at : (es : Rules) (n b : ℕ) → AllClose b es → Closes (b + n) (alternatives es n)
  close_at [] n b c = tt
  close_at (e ∷ es) zero b c = subst (λ z. Closes z e) (let q : b ≡ b + 0 = omega arith in q) c.0
  close_at (e ∷ es) (suc n) b c =
      subst (λ z. Closes z (alternatives es n)) (let q : suc b + n ≡ b + suc n = omega arith in q)
      (close_at es n (suc b) c.1)

  bind : (i : ℕ) (σ τ : List Symbol) (s : V) (D C : ℕ → V → Type 0) → After i σ s D
      → ((j : ℕ) (t : V) → D j t → After j τ t C) → After i (σ ++ τ) s C
  bind i [] τ s D C d f = f i s d
  bind i (Token k ∷ σ) τ s D C d f = λ h. bind (suc i) σ τ s D C (d h) f
  bind i (Rule n ∷ σ) τ s D C d f = λ w. bind ((of R n).end i s w) σ τ ((of R n).stack i s w) D C (d w) f
  bind i (Action a ∷ σ) τ s D C d f = bind i σ τ (act a i s) D C d f

  to_left : (n i j : ℕ) (s t : V) (ρ : List Symbol) (C : ℕ → V → Type 0) → After i (Rule n ∷ ρ) s C → Left n i s j t
      → After j ρ t C
  to_left n i j s t ρ C w left =
      subst (λ z. After z ρ t C) left.1 (subst (λ z. After ((of R n).end i s left.0) ρ z C) left.2 (w left.0))

  -- what a derivation leads to
  pub sound : (g : Rules) → AllClose 0 g
      → (i : ℕ) (σ : List Symbol) (ks : List ℕ) (es : List Event) (s : V) (C : ℕ → V → Type 0)
      → Derives g i σ ks es → i ≤ length K → drop i K ≡ ks → After i σ s C → C (length K) (run act es s)
  sound g c i σ ks es s C nothing l e w = subst (λ z. C z s) (at_end K i l e) w
  sound g c i σ ks es s C (token {k = k} {σ = ρ} {ks = js} d) l e w =
      let h = here_of K i k js e in
      sound g c (suc i) ρ js es s C d (let b = slice_get_within K i k h.0 in omega arith) h.1 (w h.0)
  sound g c i σ ks es s C (action {a = a} {σ = ρ} {es = fs} d) l e w = sound g c i ρ ks fs (act a i s) C d l e w
  sound g c i σ ks es s C (rule {n = n} {σ = ρ} {body = body} P d) l e w =
      let keeps = subst (λ z. Closes z (alternatives g n)) (let q : 0 + n ≡ n = omega arith in q) (close_at g n 0 c) in
      sound g c i (body ++ ρ) ks es s C d l e
      (bind i body ρ s (Left n i s) C (closes_at n P.number (alternatives g n) body keeps P.found i s)
      (λ j t left. to_left n i j s t ρ C w left))
