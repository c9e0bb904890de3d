-- The parts of the tokens of a scan.
use Rattle.std.specs.Prelude.{ℕ, ℤ, pos, List, map, Option, slice_get}
use Rattle.std.specs.Option.{option_map}
use Rattle.std.specs.List.{AllByRecursion}
use Rattle.qc_lex.specs.declared.token.Table.{Table}
use Rattle.qc_lex.specs.declared.token.Kind.{Kind}
use Rattle.qc_lex.specs.declared.token.Lexeme.{Lexeme}
use Rattle.qc_lex.specs.declared.token.Placed.{Placed}
use Rattle.qc_lex.specs.declared.token.Token.{Token}
use Rattle.qc_lex.specs.Pieces.{value, content}
use Rattle.qc_lex.specs.Tokens.{Front}

-- the lexemes, which a grammar reads
abbrev pub lexemes : List Placed → List Lexeme
lexemes words = map (λ word. word.lexeme) words

-- the kind and the place
abbrev pub token_of : Placed → Token
token_of word = record { kind = word.lexeme.kind; start = word.start; end = word.end }

-- the kind of a word at a place in the list
abbrev pub kind_at : List Placed → ℕ → Option Kind
kind_at words at = option_map (λ word. word.lexeme.kind) (slice_get words at)

-- its piece of the bytes
abbrev pub piece_at : List Placed → ℕ → Option (List ℕ)
piece_at words at = option_map (λ word. word.lexeme.piece) (slice_get words at)

-- the number that its piece spells
abbrev pub whole_at : List Placed → ℕ → Option ℤ
whole_at words at = option_map (λ piece. pos (value piece)) (piece_at words at)

-- what stands between the quotes of its piece
abbrev pub content_at : List Placed → ℕ → Option (List ℕ)
content_at words at = option_map content (piece_at words at)

-- a token of some source
abbrev pub IsToken : Lexeme → Type 0
IsToken lexeme = (table : Table) × ((bytes : List ℕ) × Front table bytes lexeme)

-- each is one
abbrev pub AllTokens : List Placed → Type 0
AllTokens words = AllByRecursion (λ word. IsToken word.lexeme) words
