-- What a shelf in memory holds.
use Rattle.std.specs.Prelude.{ℕ, List, [], ◌∷◌, Option, Some, None, if◌then◌else◌}
use Rattle.std.specs.Str.{bytes_eq}
use Rattle.qc_io.specs.Calls.{CallsState, no_calls}

-- names with their texts, the last added first, the calls of `fetch`, and the names that it was asked for, where it
-- tells them
pub record ShelfState : Type 0 where
  pub texts : List (List ℕ × List ℕ)
  pub calls : CallsState
  pub asked : Option (List (List ℕ))

-- no text, no call, and no name that it was asked for
abbrev pub no_texts : ShelfState
no_texts = record { texts = []; calls = no_calls; asked = Some [] }

-- the text of a name, the last added
abbrev pub text_of : List (List ℕ × List ℕ) → List ℕ → Option (List ℕ)
text_of [] name = None
text_of (named ∷ rest) name = if bytes_eq named.0 name then Some named.1 else text_of rest name
