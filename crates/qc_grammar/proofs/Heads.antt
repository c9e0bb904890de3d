-- What may come next behind a stack of symbols.
use Rattle.std.proofs.Common.{◌≡◌, ◌<◌, ℕ, suc, ◌+◌, true, ltb, List, [], ◌∷◌, ◌++◌, length, refl, ap, ◌∙◌, subst}
use Rattle.std.proofs.Common.{arith, Some}
use Rattle.std.proofs.lemmas.Bool.{ltb-true}
use Rattle.qc_grammar.specs.declared.symbol.Symbol.{Symbol}
use Rattle.qc_grammar.specs.declared.symbol.Symbol.TheVariants.{Token, Rule, Action}
use Rattle.qc_grammar.specs.declared.symbol.Event.{Event}
use Rattle.qc_grammar.specs.inner.Derivations.{Rules, Produces, Derives, nothing, token, action, rule}
use Rattle.qc_grammar.specs.inner.Certificate.{Notes, follow_of, within, begins, follows}
use Rattle.qc_grammar.specs.inner.Machine.{Table, body_at, row, turn, named, next, choose, member}
use Rattle.qc_grammar.proofs.Sets.{both, in_within, in_leads, in_chosen, in_one}
use Rattle.qc_grammar.proofs.Facts.{Exact, good_production}

-- it is in the set
abbrev pub Has : List ℕ → ℕ → Type 0
Has s k = member k s ≡ true

module _ (g : Rules) (o : Table) (c : Notes) where
  -- it may come next behind the stack
  abbrev pub Comes : List Symbol → ℕ → Type 0
  Comes σ k = Has (begins o σ (0 ∷ [])) k

  -- what may come behind each rule of the stack is noted to follow it
  abbrev pub Fits : List Symbol → Type 0
  Fits [] = Unit {0}
  Fits (Token k ∷ σ) = Fits σ
  Fits (Rule n ∷ σ) = (n < length g) × ((k : ℕ) → Comes σ k → Has (follow_of c n) k) × Fits σ
  Fits (Action a ∷ σ) = Fits σ

  pub ahead : (β σ : List Symbol) (f : List ℕ) (k : ℕ) → ((j : ℕ) → Comes σ j → Has f j) → Comes (β ++ σ) k
      → Has (begins o β f) k
  ahead [] σ f k m h = m k h
  ahead (Token j ∷ β) σ f k m h = h
  ahead (Rule n ∷ β) σ f k m h = h
  ahead (Action a ∷ β) σ f k m h = ahead β σ f k m h

  pub fits_append : (β σ : List Symbol) (f : List ℕ) → follows g o c f β ≡ true → ((j : ℕ) → Comes σ j → Has f j)
      → Fits σ → Fits (β ++ σ)
  fits_append [] σ f h m fits = fits
  fits_append (Token j ∷ β) σ f h m fits = fits_append β σ f h m fits
  fits_append (Action a ∷ β) σ f h m fits = fits_append β σ f h m fits
  fits_append (Rule n ∷ β) σ f h m fits =
      let a = both (ltb n (length g)) _ h in
      let b = both (within (begins o β f) (follow_of c n)) (follows g o c f β) a.1 in (
        ltb-true _ _ a.0,
        λ k w. in_within (begins o β f) (follow_of c n) k b.0 (ahead β σ f k m w),
        fits_append β σ f b.1 m fits,
      )

  -- at what may come next behind the production, the row tells its place
  pub turned : Exact g o c → (n k : ℕ) (σ body : List Symbol) (P : Produces g n body) → Fits (Rule n ∷ σ)
      → Comes (body ++ σ) k → (p : ℕ) × (turn (row o n) k ≡ suc p) × (body_at o p ≡ body)
  turned ex n k σ body P fits h =
      let G = good_production g o c ex n fits.0 body P in (
        G.place,
        in_leads (begins o body (follow_of c n)) G.place (row o n) k G.leads
            (ahead body σ (follow_of c n) k fits.1 h),
        G.there,
      )

  pub fits_body : Exact g o c → (n : ℕ) (σ body : List Symbol) (P : Produces g n body) → Fits (Rule n ∷ σ)
      → Fits (body ++ σ)
  fits_body ex n σ body P fits =
      fits_append body σ (follow_of c n) (good_production g o c ex n fits.0 body P).follows fits.1 fits.2

  -- what the stack spells begins by what may come next
  pub comes : Exact g o c → (i : ℕ) (σ : List Symbol) (ks : List ℕ) (es : List Event) → Derives g i σ ks es
      → Fits σ → Comes σ (next ks)
  comes ex i σ ks es nothing fits = refl
  comes ex i σ ks es (token {k = k} d) fits = in_one (suc k)
  comes ex i σ ks es (action {σ = τ} {es = fs} d) fits = comes ex i τ ks fs d fits
  comes ex i σ ks es (rule {n = n} {σ = τ} {body = body} P d) fits =
      let t = turned ex n (next ks) τ body P fits
      (comes ex i (body ++ τ) ks es d (fits_body ex n τ body P fits)) in
      let at : 0 + next ks ≡ next ks = omega arith in
      subst (Has (begins o (Rule n ∷ τ) (0 ∷ []))) at (in_chosen (row o n) 0 (next ks) t.0 t.1)

  -- what a stack with a rule on top spells, the chosen production spells
  pub forced : Exact g o c → (i n : ℕ) (σ : List Symbol) (ks : List ℕ) (es : List Event)
      → Derives g i (Rule n ∷ σ) ks es → Fits (Rule n ∷ σ)
      → (body : List Symbol) × (choose o n (next ks) ≡ Some body) × Derives g i (body ++ σ) ks es
  forced ex i n σ ks es (rule {body = body} P d) fits =
      let t = turned ex n (next ks) σ body P fits
      (comes ex i (body ++ σ) ks es d (fits_body ex n σ body P fits)) in
      (body, ap (named o) t.1 ∙ ap (λ z. Some z) t.2, d)
