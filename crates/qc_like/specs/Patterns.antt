-- Texts against patterns, by characters.
use Rattle.std.specs.Prelude.{ℕ, Bool, true, false, cond, ◌&&◌, ◌||◌, ◌==◌, List, [], ◌∷◌, chars}

-- the codes of `%` and `_`
abbrev pub any_run : ℕ
any_run = 37

abbrev pub any_one : ℕ
any_one = 95

-- the test holds of the characters from some place on, which may be past the last
abbrev pub some_tail : (List ℕ → Bool) → List ℕ → Bool
some_tail test [] = test []
some_tail test (c ∷ cs) = test (c ∷ cs) || some_tail test cs

-- there is a first character that p stands for, and the test holds of those behind it
abbrev pub one_char : ℕ → (List ℕ → Bool) → List ℕ → Bool
one_char p test [] = false
one_char p test (c ∷ cs) = (p == any_one || p == c) && test cs

-- no character is left
abbrev pub none_left : List ℕ → Bool
none_left [] = true
none_left (c ∷ cs) = false

-- the characters of a pattern match all of a text's: `%` any run, `_` any one, and another only itself
abbrev pub matches : List ℕ → List ℕ → Bool
matches [] = none_left
matches (p ∷ ps) = cond (p == any_run) (some_tail (matches ps)) (one_char p (matches ps))

-- the pattern's characters match the text's
abbrev pub is_like : List ℕ → List ℕ → Bool
is_like pattern text = matches (chars pattern) (chars text)
