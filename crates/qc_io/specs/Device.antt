-- What the calls of a shelf and of a sink do to what they tell.
use Rattle.std.specs.Prelude.{◌≡◌, ℕ, ◌+◌, ◌-◌, ◌^◌, ◌<◌, ◌≤◌, min, List, length, take, Option, Some, None, IfSome, ◌⊎◌}
use Rattle.std.specs.Prelude.{◌++◌, option_map}
use Rattle.std.specs.Io.KnownBytes.{append_known}

-- the text of each name that has one
abbrev pub Texts : Type 0
Texts = List ℕ → Option (List ℕ)

-- a count is greater than it was, or stands at its last value, from which it can't rise
abbrev pub Rose : ℕ → ℕ → Type 0
Rose before now = min (before + 1) (2 ^ 64 - 1) ≤ now

-- what was fetched is within the limit, and is the text of that name, where texts are told
pub record IsText (texts : Option Texts) (name : List ℕ) (most : ℕ) (got : List ℕ) : Type 0 where
  pub fits : length got ≤ most
  pub told : IfSome texts (λ text_of. text_of name ≡ Some got)

-- one byte more than the limit was fetched, and the text is longer than the limit, where texts are told
pub record IsTooLong (texts : Option Texts) (name : List ℕ) (most : ℕ) (got : List ℕ) : Type 0 where
  pub over : length got ≡ most + 1
  pub told : IfSome texts (λ text_of. (text : List ℕ) × (text_of name ≡ Some text) × (most < length text))

-- texts are told, and none has that name
abbrev pub IsMissing : Option Texts → List ℕ → Type 0
IsMissing None name = ⊥
IsMissing (Some text_of) name = text_of name ≡ None

-- the names that a shelf was asked for before, and then these, where it tells them
abbrev pub and_then_asked : Option (List (List ℕ)) → List (List ℕ) → Option (List (List ℕ))
and_then_asked before names = option_map (λ others. others ++ names) before

-- it was asked for these names and no others, or it tells no longer what it was asked for
abbrev pub HasAsked : Option (List (List ℕ)) → Option (List (List ℕ)) → List (List ℕ) → Type 0
HasAsked old new names = (new ≡ None) ⊎ (new ≡ and_then_asked old names)

-- some front of the piece was appended, where the bytes are told, and still no bytes are told, where they weren't
abbrev pub AppendsFront : Option (List ℕ) → Option (List ℕ) → List ℕ → Type 0
AppendsFront old new piece = (n : ℕ) × (new ≡ append_known old (take n piece))
