-- A pattern's characters up to the next `%`, passed over together with a text's, as a private function does.
use Rattle.std.specs.Prelude.{ℕ, ◌<◌, ◌≤◌, length, cond, ◌||◌, ◌==◌, List, [], ◌∷◌, chars}
use Rattle.qc_like.specs.Patterns.{any_run, any_one}
use Rattle.qc_like.specs.declared.pattern.Walk.{Walk}
use Rattle.qc_like.specs.declared.pattern.Walk.TheVariants as code

-- both are over, or the text has other characters, or the pattern has these behind a `%` and the text has these left
pub data Passed : Type 0 where
  Over : Passed
  Unlike : Passed
  Run : (pattern text : List ℕ) → Passed

-- the first character of the text against p
abbrev pub one_passed : ℕ → (List ℕ → Passed) → List ℕ → Passed
one_passed p rest [] = Unlike
one_passed p rest (c ∷ cs) = cond (p == any_one || p == c) (rest cs) Unlike

-- the pattern's characters against the text's, up to the next `%`
abbrev pub passed : List ℕ → List ℕ → Passed
passed [] [] = Over
passed [] (c ∷ cs) = Unlike
passed (p ∷ ps) cs = cond (p == any_run) (Run ps cs) (one_passed p (passed ps) cs)

-- what the code's answer says
abbrev pub answer_of : Walk → Passed
answer_of code.Over = Over
answer_of code.Unlike = Unlike
answer_of (code.Run pattern text) = Run (chars pattern.now) (chars text.now)

-- a `%` is passed over, and of the text no more than there was is left
abbrev pub IsShorter : Walk → List ℕ → List ℕ → Type 0
IsShorter (code.Run rest left) pattern text = (length rest.now < length pattern) × (length left.now ≤ length text)
IsShorter _ pattern text = Unit {0}
