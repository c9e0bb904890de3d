-- The tokens of bytes, by longest match.
use Rattle.std.specs.Prelude.{◌≡◌, ℕ, ◌+◌, ◌^◌, ◌<◌, ◌≤◌, Bool, false, ◌==◌, IsTrue, List, [], ◌∷◌, ◌++◌, length, take}
use Rattle.std.specs.Prelude.{drop}
use Rattle.std.specs.Char.{is_ascii_digit}
use Rattle.std.specs.List.{prefix_len}
use Rattle.std.specs.Str.{is_utf8}
use Rattle.qc_lex.specs.declared.token.Table.{Table}
use Rattle.qc_lex.specs.declared.token.Kind.{Kind}
use Rattle.qc_lex.specs.declared.token.Kind.TheVariants.{Word, Quoted, Whole, Text, Mark}
use Rattle.qc_lex.specs.declared.token.Lexeme.{Lexeme}
use Rattle.qc_lex.specs.declared.token.Placed.{Placed}
use Rattle.qc_lex.specs.Class.{is_blank, begins_word, in_word, in_line, opens_comment, quotes_text, quotes_name}
use Rattle.qc_lex.specs.Class.{is_mark, is_double}
use Rattle.qc_lex.specs.Pieces.{value, quoted, is_user_name}

-- the longest front of the bytes that has bytes of a kind alone
abbrev pub run : (ℕ → Bool) → List ℕ → List ℕ
run is_kind bytes = take (prefix_len is_kind bytes) bytes

-- the bytes do not begin with the quote
abbrev pub NoQuote : ℕ → List ℕ → Type 0
NoQuote quote [] = Unit {0}
NoQuote quote (b ∷ bs) = (b == quote) ≡ false

-- a token of a kind
abbrev pub lexeme_of : Kind → List ℕ → Lexeme
lexeme_of kind piece = record { kind = kind; piece = piece }

-- the token that the bytes begin with, by longest match
pub data Front (table : Table) : List ℕ → Lexeme → Type 0 where
  -- a letter or an underscore, and letters, digits and underscores as far as they go: at most 64 bytes
  word : {b : ℕ} {bs : List ℕ} → IsTrue (begins_word b) → length (b ∷ run in_word bs) ≤ 64
      → Front table (b ∷ bs) (lexeme_of Word (b ∷ run in_word bs))
  -- digits as far as they go, whose value 64 bits with a sign hold
  whole : {b : ℕ} {bs : List ℕ} → IsTrue (is_ascii_digit b) → value (b ∷ run is_ascii_digit bs) < 2 ^ 63
      → Front table (b ∷ bs) (lexeme_of Whole (b ∷ run is_ascii_digit bs))
  -- a content in UTF-8 between quotes, the last of which no further quote follows
  text : {quote : ℕ} {bytes : List ℕ} (content rest : List ℕ) → IsTrue (quotes_text table quote)
      → IsTrue (is_utf8 (quoted quote content)) → NoQuote quote rest
      → bytes ≡ quoted quote content ++ rest → Front table bytes (lexeme_of Text (quoted quote content))
  -- likewise, where the content is a name that a user may give
  name : {quote : ℕ} {bytes : List ℕ} (content rest : List ℕ) → IsTrue (quotes_name table quote)
      → IsTrue (is_utf8 (quoted quote content)) → IsTrue (is_user_name content) → NoQuote quote rest
      → bytes ≡ quoted quote content ++ rest → Front table bytes (lexeme_of Quoted (quoted quote content))
  -- a mark of two bytes
  double : {b c : ℕ} {rest : List ℕ} → IsTrue (is_double table (b ∷ c ∷ []))
      → Front table (b ∷ c ∷ rest) (lexeme_of Mark (b ∷ c ∷ []))
  -- a mark of one byte, where none of two begins
  single : {b : ℕ} {rest : List ℕ} → IsTrue (is_mark table b) → is_double table (b ∷ take 1 rest) ≡ false
      → Front table (b ∷ rest) (lexeme_of Mark (b ∷ []))

-- the bytes begin with a blank, or with a comment, which goes on up to the end of its line
pub data Gap (table : Table) : List ℕ → ℕ → Type 0 where
  blank : {b : ℕ} {rest : List ℕ} → IsTrue (is_blank b) → Gap table (b ∷ rest) 1
  comment : {bytes : List ℕ} → IsTrue (opens_comment table bytes) → Gap table bytes (prefix_len in_line bytes)

-- they begin with a token, and not with a comment, which goes before
pub record TokenFront (table : Table) (bytes : List ℕ) (x : Lexeme) : Type 0 where
  pub no_comment : opens_comment table bytes ≡ false
  pub front : Front table bytes x

-- they begin with none of these
pub record NoFront (table : Table) (bytes : List ℕ) : Type 0 where
  pub more : 0 < length bytes
  pub no_gap : (n : ℕ) → ¬ Gap table bytes n
  pub no_token : (x : Lexeme) → ¬ Front table bytes x

-- a lexeme that begins at a place
abbrev pub placed : ℕ → Lexeme → Placed
placed at lexeme = record { start = at; end = at + length lexeme.piece; lexeme = lexeme }

-- the bytes from a place on are these tokens, with blanks and comments anywhere between
pub data Scans (table : Table) (bytes : List ℕ) : ℕ → List Placed → Type 0 where
  ends : {at : ℕ} → drop at bytes ≡ [] → Scans table bytes at []
  gap : {at n : ℕ} {words : List Placed} → Gap table (drop at bytes) n → Scans table bytes (at + n) words
      → Scans table bytes at words
  token : {at : ℕ} {x : Lexeme} {words : List Placed} → TokenFront table (drop at bytes) x
      → Scans table bytes (at + length x.piece) words
      → Scans table bytes at (placed at x ∷ words)

-- the bytes from a place on are blanks, comments and tokens up to a byte at which none of these begins
pub data Stops (table : Table) (bytes : List ℕ) : ℕ → ℕ → Type 0 where
  here : {at : ℕ} → NoFront table (drop at bytes) → Stops table bytes at at
  past_gap : {at n bad : ℕ} → Gap table (drop at bytes) n → Stops table bytes (at + n) bad → Stops table bytes at bad
  past_token : {at bad : ℕ} {x : Lexeme} → TokenFront table (drop at bytes) x
      → Stops table bytes (at + length x.piece) bad → Stops table bytes at bad
