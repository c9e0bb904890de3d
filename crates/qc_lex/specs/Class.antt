-- The bytes of blanks, comments and tokens, by the table of the language.
use Rattle.std.specs.Prelude.{ℕ, Bool, false, ◌==◌, ◌||◌, not, List, [], ◌∷◌, take, codes}
use Rattle.std.specs.Char.{is_ascii_alphabetic, is_ascii_alphanumeric}
use Rattle.std.specs.Str.{bytes_eq}
use Rattle.qc_lex.specs.declared.token.Table.{Table}
use Rattle.qc_lex.specs.declared.token.Table.TheVariants.{Oql, Sql, Rule}

-- space, tab, carriage return and line feed
abbrev pub is_blank : ℕ → Bool
is_blank b = (b == 32) || (b == 9) || (b == 13) || (b == 10)

-- letters and the underscore
abbrev pub begins_word : ℕ → Bool
begins_word b = is_ascii_alphabetic b || (b == 95)

-- letters, digits and the underscore
abbrev pub in_word : ℕ → Bool
in_word b = is_ascii_alphanumeric b || (b == 95)

-- any byte but a line feed
abbrev pub in_line : ℕ → Bool
in_line b = not (b == 10)

-- whether the bytes begin with a comment: // in OQL, -- in SQL and ; in rules
abbrev pub opens_comment : Table → List ℕ → Bool
opens_comment Oql bytes = bytes_eq (take 2 bytes) (codes "//")
opens_comment Sql bytes = bytes_eq (take 2 bytes) (codes "--")
opens_comment Rule bytes = bytes_eq (take 1 bytes) (codes ";")

-- the quotes of texts: both in OQL, ' in SQL and " in rules
abbrev pub quotes_text : Table → ℕ → Bool
quotes_text Oql b = (b == 34) || (b == 39)
quotes_text Sql b = b == 39
quotes_text Rule b = b == 34

-- the quote of names: " in SQL
abbrev pub quotes_name : Table → ℕ → Bool
quotes_name Oql b = false
quotes_name Sql b = b == 34
quotes_name Rule b = false

-- whether the byte is among the others
abbrev pub among : List ℕ → ℕ → Bool
among [] b = false
among (m ∷ ms) b = (b == m) || among ms b

-- the marks of one byte
abbrev pub is_mark : Table → ℕ → Bool
is_mark Oql b = among (codes "(),.:;+-*/=<>") b
is_mark Sql b = among (codes "(),.;+-*/=<>") b
is_mark Rule b = among (codes "()-") b

-- the marks of two bytes
abbrev pub is_double : Table → List ℕ → Bool
is_double Oql pair =
    bytes_eq pair (codes "!=") || bytes_eq pair (codes "<=") || bytes_eq pair (codes ">=") || bytes_eq pair (codes "||")
is_double Sql pair =
    bytes_eq pair (codes "<>") || bytes_eq pair (codes "<=") || bytes_eq pair (codes ">=") || bytes_eq pair (codes "||")
is_double Rule pair = false
