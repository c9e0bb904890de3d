-- What a table spells: lists of kinds, with the actions of their words.
use Rattle.std.specs.Prelude.{◌≡◌, ℕ, suc, List, [], ◌∷◌, ◌++◌, Option, Some, None, slice_get}
use Rattle.qc_grammar.specs.declared.symbol.Symbol.{Symbol}
use Rattle.qc_grammar.specs.declared.symbol.Symbol.TheVariants.{Token, Rule, Action}
use Rattle.qc_grammar.specs.declared.symbol.Event.{Event}

-- the rules of a grammar by their numbers, as their alternatives
abbrev pub Rules : Type 0
Rules = List (List (List Symbol))

-- the list, or no item
abbrev pub listed : {A : Type 0} → Option (List A) → List A
listed (Some xs) = xs
listed None = []

-- the alternatives of a rule
abbrev pub alternatives : Rules → ℕ → List (List Symbol)
alternatives g n = listed (slice_get g n)

-- the rule has this alternative
pub record Produces (g : Rules) (n : ℕ) (body : List Symbol) : Type 0 where
  pub number : ℕ
  pub found : slice_get (alternatives g n) number ≡ Some body

-- behind so many tokens, the symbols spell the kinds, by these actions in order
pub data Derives (g : Rules) : ℕ → List Symbol → List ℕ → List Event → Type 0 where
  nothing : {i : ℕ} → Derives g i [] [] []
  token : {i k : ℕ} {σ : List Symbol} {ks : List ℕ} {es : List Event}
      → Derives g (suc i) σ ks es → Derives g i (Token k ∷ σ) (k ∷ ks) es
  action : {i a : ℕ} {σ : List Symbol} {ks : List ℕ} {es : List Event}
      → Derives g i σ ks es → Derives g i (Action a ∷ σ) ks (record { action = a; at = i } ∷ es)
  rule : {i n : ℕ} {σ body : List Symbol} {ks : List ℕ} {es : List Event}
      → Produces g n body → Derives g i (body ++ σ) ks es → Derives g i (Rule n ∷ σ) ks es

-- the whole list is a word of the grammar, with these actions
abbrev pub Whole : Rules → List ℕ → List Event → Type 0
Whole g ks es = Derives g 0 (Rule 0 ∷ []) ks es
