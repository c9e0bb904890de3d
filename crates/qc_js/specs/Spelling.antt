-- Which tokens a text has, and which tree it spells.
use Rattle.std.specs.Prelude.{◌≡◌, ℕ, ◌+◌, ◌-◌, ◌*◌, ℤ, pos, ◌-ℤ◌, nat_lt, nat_le, Bool, true}
use Rattle.std.specs.Prelude.{false, if◌then◌else◌, ◌==◌, ◌||◌, ◌&&◌, not, IsTrue, List, [], ◌∷◌, ◌++◌, length, take}
use Rattle.std.specs.Prelude.{decimal, Option, Some, None}
use Rattle.std.specs.Char.{is_ascii_alphabetic, is_ascii_alphanumeric, is_digit, digit_value, encode_utf8}
use Rattle.std.specs.Str.{bytes_eq, is_utf8}
use Rattle.qc_js.specs.declared.token.Token.{Token}
use Rattle.qc_js.specs.declared.token.Token.TheVariants.{Word, Int, Text, Mark}
use Rattle.qc_js.specs.declared.tree.Program.{Program}
use Rattle.qc_js.specs.Tokens.{program_tokens}
use Rattle.qc_js.specs.Held.{is_bits64, holds_program}
use Rattle.qc_js.specs.WellFormed.{well_formed}

-- ---- bytes

-- space, tab, CR and LF
abbrev pub is_blank : ℕ → Bool
is_blank b = (b == 32) || (b == 9) || (b == 13) || (b == 10)

-- the bytes ( ) { } [ ] , ; . =
abbrev pub is_mark : ℕ → Bool
is_mark b =
    (b == 40) || (b == 41) || (b == 123) || (b == 125) || (b == 91) || (b == 93) || (b == 44) || (b == 59) || (b == 46)
    || (b == 61)

-- ---- comments and words

-- U+2028 and U+2029 in UTF-8
abbrev pub is_separator : List ℕ → Bool
is_separator bs = bytes_eq bs (226 ∷ 128 ∷ 168 ∷ []) || bytes_eq bs (226 ∷ 128 ∷ 169 ∷ [])

-- a line ends before LF, CR, U+2028 and U+2029
abbrev pub ends_line : ℕ → List ℕ → Bool
ends_line b bs = (b == 10) || (b == 13) || is_separator (take 3 (b ∷ bs))

-- what a comment leaves: the text from the line's end on
abbrev pub past_line : List ℕ → List ℕ
past_line [] = []
past_line (b ∷ bs) = if ends_line b bs then b ∷ bs else past_line bs

-- the letters and digits that a text begins with
abbrev pub word_part : List ℕ → List ℕ
word_part [] = []
word_part (b ∷ bs) = if is_ascii_alphanumeric b then b ∷ word_part bs else []

-- what follows them
abbrev pub past_word : List ℕ → List ℕ
past_word [] = []
past_word (b ∷ bs) = if is_ascii_alphanumeric b then past_word bs else b ∷ bs

-- ---- integers

-- the sign of a written integer, and what it makes of the number behind it
abbrev pub sign : Bool → List ℕ
sign true = 45 ∷ []
sign false = []

abbrev pub signed : Bool → ℕ → ℤ
signed true k = pos 0 -ℤ pos k
signed false k = pos k

-- the text is an integer of 64 bits and then the rest: a sign or none, the shortest digits of a number, and `n`
pub record BeginsInt (text : List ℕ) (n : ℤ) (rest : List ℕ) : Type 0 where
  pub minus : Bool
  pub size : ℕ
  pub value : n ≡ signed minus size
  pub written : text ≡ sign minus ++ (decimal size ++ 110 ∷ rest)
  pub bits64 : IsTrue (is_bits64 n)

-- ---- strings

-- the bytes that stand in a string for themselves: all but the quote, the backslash and the control characters
abbrev pub is_plain : ℕ → Bool
is_plain b = nat_lt 31 b && (not (b == 34) && not (b == 92))

-- what a letter behind a backslash stands for
abbrev pub letter : ℕ → Option ℕ
letter b = if b == 34 then Some 34
    else if b == 92 then Some 92
    else if b == 98 then Some 8
    else if b == 102 then Some 12
    else if b == 110 then Some 10
    else if b == 114 then Some 13
    else if b == 116 then Some 9
    else None

-- four hexadecimal digits of either case, and the number that they spell
abbrev pub are_hex : ℕ → ℕ → ℕ → ℕ → Bool
are_hex a b c d = is_digit a 16 && (is_digit b 16 && (is_digit c 16 && is_digit d 16))

abbrev pub unit_of : ℕ → ℕ → ℕ → ℕ → ℕ
unit_of a b c d = digit_value a * 4096 + digit_value b * 256 + digit_value c * 16 + digit_value d

-- the first and the second of a pair of surrogates
abbrev pub is_high : ℕ → Bool
is_high u = nat_le 0xd800 u && nat_lt u 0xdc00

abbrev pub is_low : ℕ → Bool
is_low u = nat_le 0xdc00 u && nat_lt u 0xe000

-- the character that a pair stands for
abbrev pub paired : ℕ → ℕ → ℕ
paired h l = 0x10000 + (h - 0xd800) * 1024 + (l - 0xdc00)

-- these bytes of a string stand for this text: each byte for itself, or behind a backslash a letter, or `u` and four
-- digits, where surrogates stand in pairs
pub data Stands : List ℕ → List ℕ → Type 0 where
  done : Stands [] []
  plain : (b : ℕ) {bytes text : List ℕ} → IsTrue (is_plain b) → Stands bytes text → Stands (b ∷ bytes) (b ∷ text)
  escape : (b c : ℕ) {bytes text : List ℕ} → letter b ≡ Some c → Stands bytes text → Stands (92 ∷ b ∷ bytes) (c ∷ text)
  unit : (a b c d : ℕ) {bytes text : List ℕ} → IsTrue (are_hex a b c d)
      → IsTrue (not (is_high (unit_of a b c d)) && not (is_low (unit_of a b c d)))
      → Stands bytes text → Stands (92 ∷ 117 ∷ a ∷ b ∷ c ∷ d ∷ bytes) (encode_utf8 (unit_of a b c d) ++ text)
  pair : (a b c d e f g h : ℕ) {bytes text : List ℕ} → IsTrue (are_hex a b c d) → IsTrue (are_hex e f g h)
      → IsTrue (is_high (unit_of a b c d) && is_low (unit_of e f g h))
      → Stands bytes text
      → Stands (92 ∷ 117 ∷ a ∷ b ∷ c ∷ d ∷ 92 ∷ 117 ∷ e ∷ f ∷ g ∷ h ∷ bytes)
      (encode_utf8 (paired (unit_of a b c d) (unit_of e f g h)) ++ text)

-- the text is a string and then the rest: between quotes, bytes that stand for a content in UTF-8
pub record BeginsText (text content rest : List ℕ) : Type 0 where
  pub bytes : List ℕ
  pub written : text ≡ 34 ∷ (bytes ++ 34 ∷ rest)
  pub stands : Stands bytes content
  pub utf8 : IsTrue (is_utf8 content)

-- ---- texts

-- the text begins with a blank, a comment, or a token by longest match, which is the list, and then comes the rest
pub data Begins : List ℕ → List Token → List ℕ → Type 0 where
  blank : (b : ℕ) (rest : List ℕ) → IsTrue (is_blank b) → Begins (b ∷ rest) [] rest
  comment : (text : List ℕ) → Begins (47 ∷ 47 ∷ text) [] (past_line text)
  word : (b : ℕ) (text : List ℕ) → IsTrue (is_ascii_alphabetic b)
      → Begins (b ∷ text) (Word (b ∷ word_part text) ∷ []) (past_word text)
  int : (n : ℤ) (text rest : List ℕ) → BeginsInt text n rest → Begins text (Int n ∷ []) rest
  string : (content text rest : List ℕ) → BeginsText text content rest → Begins text (Text content ∷ []) rest
  mark : (b : ℕ) (rest : List ℕ) → IsTrue (is_mark b) → Begins (b ∷ rest) (Mark b ∷ []) rest

-- the text has these tokens, with blanks and comments anywhere between them
pub data Scans : List ℕ → List Token → Type 0 where
  end : Scans [] []
  next : {text rest : List ℕ} {front ts : List Token} → Begins text front rest → Scans rest ts
      → Scans text (front ++ ts)

-- no blank, comment or token begins at this place of the text, and the bytes before it are blanks, comments and tokens
pub data Stops : List ℕ → ℕ → Type 0 where
  here : (b : ℕ) (text : List ℕ) → ((front : List Token) (rest : List ℕ) → ¬ Begins (b ∷ text) front rest)
      → Stops (b ∷ text) 0
  past : {text rest : List ℕ} {front : List Token} {at : ℕ} → Begins text front rest → Stops rest at
      → Stops text (length text - length rest + at)

-- the text spells the tree, which code can hold and which meets the rules: its tokens are the tree's
pub record Spells (text : List ℕ) (tree : Program) : Type 0 where
  pub held : IsTrue (holds_program tree)
  pub program : IsTrue (well_formed tree)
  pub tokens : Scans text (program_tokens tree)
