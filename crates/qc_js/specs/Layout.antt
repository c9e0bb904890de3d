-- The one text that lays out the tokens of a tree.
use Rattle.std.specs.Prelude.{ℕ, ◌/◌, ◌%◌, List, [], ◌∷◌, ◌++◌, codes, Bool, if◌then◌else◌, ◌==◌, ◌||◌, nat_lt}
use Rattle.std.specs.Char.{digit_char}
use Rattle.std.specs.Fmt.{signed_decimal}
use Rattle.std.specs.Str.{bytes_eq}
use Rattle.qc_js.specs.declared.token.Token.{Token}
use Rattle.qc_js.specs.declared.token.Token.TheVariants.{Word, Int, Text, Mark}
use Rattle.qc_js.specs.declared.tree.Program.{Program}
use Rattle.qc_js.specs.Tokens.{program_tokens}

-- how a byte of a text stands in a string: the quote and the backslash behind a backslash, the five control characters
-- that have a letter by that letter, the others by two hexadecimal digits, and all else as it is
abbrev pub escaped_byte : ℕ → List ℕ
escaped_byte b = if b == 34 then codes "\\\""
    else if b == 92 then codes "\\\\"
    else if nat_lt 31 b then b ∷ []
    else if b == 8 then codes "\\b"
    else if b == 12 then codes "\\f"
    else if b == 10 then codes "\\n"
    else if b == 13 then codes "\\r"
    else if b == 9 then codes "\\t"
    else codes "\\u00" ++ digit_char (b / 16) ∷ digit_char (b % 16) ∷ []

-- what each makes, one after the other
abbrev pub pieces : {A : Type 0} → (A → List ℕ) → List A → List ℕ
pieces h [] = []
pieces h (x ∷ xs) = h x ++ pieces h xs

abbrev pub escaped : List ℕ → List ℕ
escaped bs = pieces escaped_byte bs

-- how a token is written
abbrev pub spelling : Token → List ℕ
spelling (Word w) = w
spelling (Int n) = signed_decimal n ++ 110 ∷ []
spelling (Text t) = 34 ∷ (escaped t ++ 34 ∷ [])
spelling (Mark b) = b ∷ []

-- what stands on the left of a gap: one of ( [ . or the word `for` or `if` or anything else
pub data Left : Type 0 where
  opens : Left
  keyword : Left
  other : Left

-- what a token is for the gap behind it
abbrev pub left : Token → Left
left (Word w) = if bytes_eq w (codes "for") || bytes_eq w (codes "if") then keyword else other
left (Int n) = other
left (Text t) = other
left (Mark b) = if (b == 40) || (b == 91) || (b == 46) then opens else other

-- the marks , ; . ) ] that have no space before them
abbrev pub is_tight : ℕ → Bool
is_tight b = (b == 44) || (b == 59) || (b == 46) || (b == 41) || (b == 93)

-- the space before a mark: none before a tight one, and before ( only behind a keyword
abbrev pub gap_mark : Left → ℕ → List ℕ
gap_mark opens b = []
gap_mark keyword b = if is_tight b then [] else 32 ∷ []
gap_mark other b = if is_tight b || (b == 40) then [] else 32 ∷ []

-- the space before another token
abbrev pub gap_other : Left → List ℕ
gap_other opens = []
gap_other keyword = 32 ∷ []
gap_other other = 32 ∷ []

-- the space before a token
abbrev pub gap : Left → Token → List ℕ
gap l (Word w) = gap_other l
gap l (Int n) = gap_other l
gap l (Text t) = gap_other l
gap l (Mark b) = gap_mark l b

-- the tokens, each behind its space, after what stands on the left
abbrev pub after : Left → List Token → List ℕ
after l [] = []
after l (t ∷ ts) = gap l t ++ (spelling t ++ after (left t) ts)

-- the text of a tree: its tokens with no space before the first, and a line feed
abbrev pub layout : Program → List ℕ
layout p = after opens (program_tokens p) ++ 10 ∷ []
