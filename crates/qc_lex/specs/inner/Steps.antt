-- What bytes begin with, as the code finds it. No public clause rests on this.
use Rattle.std.specs.Prelude.{ℕ, suc, ◌+◌, ◌^◌, Bool, true, false, ◌==◌, ◌&&◌, not, nat_lt, nat_le, if◌then◌else◌, List}
use Rattle.std.specs.Prelude.{[], ◌∷◌, length, take, Option, Some, None}
use Rattle.std.specs.Option.{option_and_then}
use Rattle.std.specs.Char.{is_ascii_digit}
use Rattle.std.specs.List.{prefix_len}
use Rattle.std.specs.Str.{is_utf8}
use Rattle.qc_lex.specs.declared.token.Table.{Table}
use Rattle.qc_lex.specs.declared.token.Kind.{Kind}
use Rattle.qc_lex.specs.declared.token.Kind.TheVariants.{Word, Quoted, Whole, Text, Mark}
use Rattle.qc_lex.specs.declared.token.Lexeme.{Lexeme}
use Rattle.qc_lex.specs.declared.front.Next.{Next}
use Rattle.qc_lex.specs.declared.front.Next.TheVariants.{End, Gap, Token, Bad}
use Rattle.qc_lex.specs.Class.{is_blank, begins_word, in_word, in_line, opens_comment, quotes_text, quotes_name}
use Rattle.qc_lex.specs.Class.{is_mark, is_double}
use Rattle.qc_lex.specs.Pieces.{value, content, is_user_name}

-- the kind of the tokens that begin with the byte, if any do
abbrev pub kind_of : Table → ℕ → Kind
kind_of table b = if begins_word b then Word
    else if is_ascii_digit b then Whole
    else if quotes_text table b then Text
    else if quotes_name table b then Quoted
    else Mark

-- the limit of each kind
abbrev pub fits : Kind → List ℕ → Bool
fits Word piece = nat_le (length piece) 64
fits Quoted piece = is_user_name (content piece)
fits Whole piece = nat_lt (value piece) (2 ^ 63)
fits Text piece = true
fits Mark piece = true

-- how many bytes a text goes on, from the place `at` behind its opening quote: up to the first quote that none
-- follows, where two quotes are a quote inside; `closed` says that a quote came just before which may be that one
abbrev pub text_end : ℕ → Bool → ℕ → List ℕ → Option ℕ
text_end quote closed at [] = if closed then Some at else None
text_end quote closed at (b ∷ bs) = if b == quote then text_end quote (not closed) (at + 1) bs
    else if closed then Some at
    else text_end quote false (at + 1) bs

-- how many bytes a mark goes on behind its first one; two bytes go before one
abbrev pub mark_end : Table → ℕ → List ℕ → Option ℕ
mark_end table b bs = if is_double table (b ∷ take 1 bs) then Some 1
    else if is_mark table b then Some 0
    else None

-- how many bytes a token of the kind goes on behind its first one, at the longest
abbrev pub goes_on : Table → Kind → ℕ → List ℕ → Option ℕ
goes_on table Word b bs = Some (prefix_len in_word bs)
goes_on table Whole b bs = Some (prefix_len is_ascii_digit bs)
goes_on table Text b bs = text_end b false 0 bs
goes_on table Quoted b bs = text_end b false 0 bs
goes_on table Mark b bs = mark_end table b bs

-- a piece within the limit of its kind, in UTF-8
abbrev pub fitting : Kind → List ℕ → Option Lexeme
fitting kind piece = if is_utf8 piece && fits kind piece then Some (record { kind = kind; piece = piece }) else None

-- the token that the bytes begin with, if one begins there; a longest match that does not fit is none
abbrev pub front : Table → List ℕ → Option Lexeme
front table [] = None
front table (b ∷ bs) =
    option_and_then (λ n. fitting (kind_of table b) (b ∷ take n bs)) (goes_on table (kind_of table b) b bs)

-- a token, or that none begins
abbrev pub token_or_bad : Option Lexeme → Next
token_or_bad (Some lexeme) = Token lexeme
token_or_bad None = Bad

-- what the bytes begin with: their end, a gap of so many bytes, which is a blank or a comment up to the end of its
-- line, a token, or none of these; a comment goes before a token
abbrev pub begins : Table → List ℕ → Next
begins table [] = End
begins table (b ∷ bs) = if is_blank b then Gap 1
    else if opens_comment table (b ∷ bs) then Gap (suc (prefix_len in_line bs))
    else token_or_bad (front table (b ∷ bs))
