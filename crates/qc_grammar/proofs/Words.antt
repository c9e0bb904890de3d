-- Every stack spells a word.
use Rattle.std.proofs.Common.{◌≡◌, ◌<◌, ◌≤◌, ℕ, zero, suc, true, ltb, List, [], ◌∷◌, ◌++◌, length, arith}
use Rattle.std.proofs.lemmas.Bool.{ltb-true}
use Rattle.qc_grammar.specs.declared.symbol.Symbol.{Symbol}
use Rattle.qc_grammar.specs.declared.symbol.Symbol.TheVariants.{Token, Rule, Action}
use Rattle.qc_grammar.specs.declared.symbol.Event.{Event}
use Rattle.qc_grammar.specs.inner.Derivations.{Rules, Derives, nothing, token, action, rule}
use Rattle.qc_grammar.specs.inner.Certificate.{Notes, rank_of, ranked}
use Rattle.qc_grammar.specs.inner.Machine.{Table}
use Rattle.qc_grammar.proofs.Sets.{both}
use Rattle.qc_grammar.proofs.Facts.{Exact, seed}
use Rattle.qc_grammar.proofs.Heads.{Fits}

-- some word of the stack, behind so many tokens
pub record Word (g : Rules) (i : ℕ) (σ : List Symbol) : Type 0 where
  pub kinds : List ℕ
  pub events : List Event
  pub derives : Derives g i σ kinds events

module _ (g : Rules) (o : Table) (c : Notes) where
  along : (r : ℕ) → ((n : ℕ) → n < length g → rank_of c n < r → (σ : List Symbol) → ((i : ℕ) → Word g i σ) → (i : ℕ)
      → Word g i (Rule n ∷ σ))
      → (q : ℕ) → q ≤ r → (β σ : List Symbol) → ranked g c q β ≡ true → ((i : ℕ) → Word g i σ) → (i : ℕ)
      → Word g i (β ++ σ)
  along r seeds q le [] σ h w i = w i
  along r seeds q le (Token k ∷ β) σ h w i =
      let v = along r seeds q le β σ h w (suc i) in
      record { kinds = k ∷ v.kinds; events = v.events; derives = token v.derives }
  along r seeds q le (Action a ∷ β) σ h w i =
      let v = along r seeds q le β σ h w i in
      record { kinds = v.kinds; events = record { action = a; at = i } ∷ v.events; derives = action v.derives }
  along r seeds q le (Rule n ∷ β) σ h w i =
      let a = both (ltb n (length g)) _ h in
      let b = both (ltb (rank_of c n) q) (ranked g c q β) a.1 in
      let lt : rank_of c n < q = ltb-true _ _ b.0 in
      seeds n (ltb-true _ _ a.0) (omega arith) (β ++ σ) (along r seeds q le β σ b.1 w) i

  seeds : Exact g o c → (r n : ℕ) → n < length g → rank_of c n < r → (σ : List Symbol)
      → ((i : ℕ) → Word g i σ) → (i : ℕ) → Word g i (Rule n ∷ σ)
  seeds ex zero n lt low σ w i = absurd (omega arith)
  seeds ex (suc r) n lt low σ w i =
      let s = seed g o c ex n lt in
      let v = along r (seeds ex r) (rank_of c n) (omega arith) s.body σ s.ranked w i in
      record { kinds = v.kinds; events = v.events; derives = rule s.produces v.derives }

  pub word : Exact g o c → (σ : List Symbol) → Fits g o c σ → (i : ℕ) → Word g i σ
  word ex [] fits i = record { kinds = []; events = []; derives = nothing }
  word ex (Token k ∷ σ) fits i =
      let v = word ex σ fits (suc i) in record { kinds = k ∷ v.kinds; events = v.events; derives = token v.derives }
  word ex (Action a ∷ σ) fits i =
      let v = word ex σ fits i in record
      { kinds = v.kinds; events = record { action = a; at = i } ∷ v.events; derives = action v.derives }
  word ex (Rule n ∷ σ) fits i = seeds ex (suc (rank_of c n)) n fits.0 (omega arith) σ (word ex σ fits.2) i
