-- Tokens for the words of a grammar: one of each kind that the grammar names is enough.
use Rattle.std.proofs.Common.{◌≡◌, ℕ, zero, suc, Bool, true, false, ◌&&◌, eqb, List, [], ◌∷◌, ◌++◌, refl, ap, ◌∙◌, Some}
use Rattle.std.specs.Prelude.{map, slice_get}
use Rattle.std.proofs.lemmas.Bool.{eqb-true}
use Rattle.qc_grammar.specs.declared.symbol.Symbol.{Symbol}
use Rattle.qc_grammar.specs.declared.symbol.Symbol.TheVariants.{Token, Rule, Action}
use Rattle.qc_grammar.specs.declared.symbol.Event.{Event}
use Rattle.qc_grammar.specs.inner.Derivations.{Rules, alternatives, Derives, nothing, token, action, rule}
use Rattle.qc_grammar.proofs.Sets.{both}

module _ {T : Type 0} (class : T → ℕ) (sample : ℕ → T) where
  -- the sample of each kind of the list is of that kind
  abbrev pub kinds_sampled : List ℕ → Bool
  kinds_sampled [] = true
  kinds_sampled (k ∷ ks) = eqb (class (sample k)) k && kinds_sampled ks

  -- of each kind of the symbols
  abbrev pub body_sampled : List Symbol → Bool
  body_sampled [] = true
  body_sampled (Token k ∷ σ) = eqb (class (sample k)) k && body_sampled σ
  body_sampled (Rule n ∷ σ) = body_sampled σ
  body_sampled (Action a ∷ σ) = body_sampled σ

  -- of the alternatives of a rule
  abbrev pub rule_sampled : List (List Symbol) → Bool
  rule_sampled [] = true
  rule_sampled (b ∷ bs) = body_sampled b && rule_sampled bs

  -- and of the grammar
  abbrev pub grammar_sampled : Rules → Bool
  grammar_sampled [] = true
  grammar_sampled (r ∷ rs) = rule_sampled r && grammar_sampled rs

  joined : (a b : Bool) → a ≡ true → b ≡ true → (a && b) ≡ true
  joined true b h g = g
  joined false b h g = cc

  append_sampled : (β σ : List Symbol) → body_sampled β ≡ true → body_sampled σ ≡ true → body_sampled (β ++ σ) ≡ true
  append_sampled [] σ h f = f
  append_sampled (Token k ∷ β) σ h f =
      let b = both (eqb (class (sample k)) k) (body_sampled β) h in
      joined (eqb (class (sample k)) k) (body_sampled (β ++ σ)) b.0 (append_sampled β σ b.1 f)
  append_sampled (Rule n ∷ β) σ h f = append_sampled β σ h f
  append_sampled (Action a ∷ β) σ h f = append_sampled β σ h f

  in_rule : (bs : List (List Symbol)) (p : ℕ) (b : List Symbol) → rule_sampled bs ≡ true → slice_get bs p ≡ Some b
      → body_sampled b ≡ true
  in_rule [] p b h e = cc
  in_rule (d ∷ bs) zero b h e = let same : d ≡ b = cc in rw (← same) (both (body_sampled d) (rule_sampled bs) h).0
  in_rule (d ∷ bs) (suc p) b h e = in_rule bs p b (both (body_sampled d) (rule_sampled bs) h).1 e

  in_grammar : (g : Rules) (n : ℕ) → grammar_sampled g ≡ true → rule_sampled (alternatives g n) ≡ true
  in_grammar [] n h = refl
  in_grammar (r ∷ g) zero h = (both (rule_sampled r) (grammar_sampled g) h).0
  in_grammar (r ∷ g) (suc n) h = in_grammar g n (both (rule_sampled r) (grammar_sampled g) h).1

  -- so each kind of a word of the grammar has its sample
  pub word_sampled : (g : Rules) → grammar_sampled g ≡ true → (i : ℕ) (σ : List Symbol) (ks : List ℕ) (es : List Event)
      → Derives g i σ ks es → body_sampled σ ≡ true → kinds_sampled ks ≡ true
  word_sampled g h i σ ks es nothing f = refl
  word_sampled g h i σ ks es (token {k = k} {σ = τ} {ks = js} {es = fs} d) f =
      let b = both (eqb (class (sample k)) k) (body_sampled τ) f in
      joined (eqb (class (sample k)) k) (kinds_sampled js) b.0 (word_sampled g h (suc i) τ js fs d b.1)
  word_sampled g h i σ ks es (action {σ = τ} {es = fs} d) f = word_sampled g h i τ ks fs d f
  word_sampled g h i σ ks es (rule {n = n} {σ = τ} {body = body} P d) f =
      word_sampled g h i (body ++ τ) ks es d
      (append_sampled body τ (in_rule (alternatives g n) P.number body (in_grammar g n h) P.found) f)

  pub behind : (js ks : List ℕ) → kinds_sampled (js ++ ks) ≡ true → kinds_sampled ks ≡ true
  behind [] ks h = h
  behind (j ∷ js) ks h = behind js ks (both (eqb (class (sample j)) j) (kinds_sampled (js ++ ks)) h).1

  -- the kinds of the samples are these kinds
  pub map_sampled : (ks : List ℕ) → kinds_sampled ks ≡ true → map class (map sample ks) ≡ ks
  map_sampled [] h = refl
  map_sampled (k ∷ ks) h =
      let b = both (eqb (class (sample k)) k) (kinds_sampled ks) h in
      ap (λ z. z ∷ map class (map sample ks)) (eqb-true (class (sample k)) k b.0) ∙ ap (λ z. k ∷ z) (map_sampled ks b.1)
