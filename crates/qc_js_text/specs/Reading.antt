-- What reading a text answers.
use Rattle.std.specs.Prelude.{◌≡◌, ℕ, suc, pred, max, ◌<◌, ◌≤◌, ◌==◌, ◌||◌, Bool, if◌then◌else◌, List, [], ◌∷◌, length}
use Rattle.std.specs.Prelude.{Result, Ok, Err}
use Rattle.qc_js.specs.declared.token.Token.{Token}
use Rattle.qc_js.specs.declared.token.Token.TheVariants.{Mark}
use Rattle.qc_js.specs.declared.tree.Program.{Program}
use Rattle.qc_js.specs.Spelling.{Scans, Stops, Spells}
use Rattle.qc_js_text.specs.declared.fault.JsFault.{JsFault}
use Rattle.qc_js_text.specs.declared.fault.JsFault.TheVariants.{TooLong, BadScan, BadJs, Memory}

-- ---- limits

-- the most bytes that a text may have
abbrev pub most_bytes : ℕ
most_bytes = 16777216

-- the most brackets that may be open at once
abbrev pub most_open : ℕ
most_open = 2000

abbrev pub opens : ℕ → Bool
opens b = (b == 40) || ((b == 91) || (b == 123))

abbrev pub closes : ℕ → Bool
closes b = (b == 41) || ((b == 93) || (b == 125))

-- how many brackets are open behind a token
abbrev pub open_behind : ℕ → Token → ℕ
open_behind n (Mark b) = if opens b then suc n else if closes b then pred n else n
open_behind n _ = n

-- the greatest number of brackets that are open at once, of which so many are open before
abbrev pub depth_from : ℕ → List Token → ℕ
depth_from n [] = n
depth_from n (t ∷ ts) = max n (depth_from (open_behind n t) ts)

abbrev pub depth : List Token → ℕ
depth ts = depth_from 0 ts

-- ---- answers

-- the text spells this program and no other, and is within its limits
pub record IsRead (text : List ℕ) (program : Program) : Type 0 where
  pub spelled : Spells text program
  pub only : (other : Program) → Spells text other → other ≡ program
  pub short : length text ≤ most_bytes
  pub shallow : (ts : List Token) → Scans text ts → depth ts ≤ most_open

-- no blank, comment or token begins at this place of the text, which is the first one, and so the text has no tokens
pub record IsBadScan (text : List ℕ) (at : ℕ) : Type 0 where
  pub short : length text ≤ most_bytes
  pub stops : Stops text at
  pub no_scan : (ts : List Token) → ¬ Scans text ts

-- the text has tokens, and spells no program, or its brackets are open too deep
pub record IsBadJs (text : List ℕ) : Type 0 where
  pub short : length text ≤ most_bytes
  pub tokens : List Token
  pub scanned : Scans text tokens
  pub bad : depth tokens ≤ most_open → (program : Program) → ¬ Spells text program

-- what is read, or why nothing is; want of memory needs no cause
abbrev pub Answers : List ℕ → Result Program JsFault → Type 0
Answers text (Ok program) = IsRead text program
Answers text (Err TooLong) = most_bytes < length text
Answers text (Err (BadScan at)) = IsBadScan text at
Answers text (Err BadJs) = IsBadJs text
Answers text (Err Memory) = Unit {0}
