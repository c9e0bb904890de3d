-- A word that is put behind others.
use Rattle.std.specs.Prelude.{◌≡◌, ◌≤◌, ℕ, List, [], ◌∷◌, ◌++◌, length, Some, None}
use Rattle.qc_route.specs.declared.word.Word.{Word}
use Rattle.qc_route.specs.Paths.{word_of}

-- the word that is written so was put behind the others
pub record HasPut (words all : List Word) (text : List ℕ) : Type 0 where
  pub word : Word
  pub is_word : word_of text ≡ Some word
  pub put : all ≡ words ++ word ∷ []

-- the text is no word, or there is no room for it
pub data CannotPut (words : List Word) (text : List ℕ) : Type 0 where
  no_word_is : word_of text ≡ None → CannotPut words text
  full : (word : Word) → word_of text ≡ Some word → 16 ≤ length words → CannotPut words text
