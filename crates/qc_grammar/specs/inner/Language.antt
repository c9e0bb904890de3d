-- Tokens with the values of their derivations.
use Rattle.std.specs.Prelude.{◌≡◌, ℕ, List, map}
use Rattle.qc_grammar.specs.declared.symbol.Event.{Event}
use Rattle.qc_grammar.specs.inner.Derivations.{Rules, Whole}

module _ {T A : Type 0} (g : Rules) (class : T → ℕ) (value : List T → List Event → A) where
  -- the tokens' kinds have a derivation, whose actions have this value
  pub record Means (ts : List T) (tree : A) : Type 0 where
    pub events : List Event
    pub derives : Whole g (map class ts) events
    pub same : value ts events ≡ tree
