-- What a parser of whole lists answers, from the language alone.
use Rattle.std.specs.Prelude.{◌≡◌, ◌<◌, ◌≤◌, ℕ, ◌+◌, List, ◌++◌, length, take, Result, Ok, Err}
use Rattle.qc_grammar.specs.declared.fault.SyntaxFault.{SyntaxFault}
use Rattle.qc_grammar.specs.declared.fault.SyntaxFault.TheVariants.{BadSyntax, Memory}

module _ {T A : Type 0} (L : List T → A → Type 0) where
  -- some list that begins with these tokens spells a tree
  abbrev pub Begins : List T → Type 0
  Begins ts = (more : List T) × (tree : A) × L (ts ++ more) tree

  -- where the tokens stop being the begin of a list that spells a tree
  pub record FaultAt (ts : List T) (at : ℕ) : Type 0 where
    pub within : at ≤ length ts
    pub before : Begins (take at ts)
    pub whole : Begins ts → at ≡ length ts
    pub beyond : at < length ts → Begins (take (at + 1) ts) → ⊥

  -- the whole list spells this tree and no other
  pub record Spells (ts : List T) (tree : A) : Type 0 where
    pub spells : L ts tree
    pub only : (other : A) → L ts other → other ≡ tree

  -- the whole list spells no tree, and this is the place of the fault
  pub record Refused (ts : List T) (at : ℕ) : Type 0 where
    pub none : (tree : A) → L ts tree → ⊥
    pub place : FaultAt ts at

  -- the tree that the whole list spells, or the place of the fault; want of memory alone is a free answer
  abbrev pub Parses : List T → Result A SyntaxFault → Type 0
  Parses ts (Ok tree) = Spells ts tree
  Parses ts (Err (BadSyntax at)) = Refused ts at
  Parses ts (Err Memory) = Unit {0}
