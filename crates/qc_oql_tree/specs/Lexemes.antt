-- What tokens are to the grammar: their kinds, and the values in them.
use Rattle.std.specs.Prelude.{ℕ, zero, suc, ℤ, pos, negsuc, List, [], ◌∷◌, codes, Option, Some, None}
use Rattle.std.specs.Prelude.{slice_get, if◌then◌else◌}
use Rattle.std.specs.Str.{bytes_eq}
use Rattle.qc_lex.specs.declared.token.Kind.{Kind}
use Rattle.qc_lex.specs.declared.token.Kind.TheVariants.{Word, Quoted, Whole, Text, Mark}
use Rattle.qc_lex.specs.declared.token.Lexeme.{Lexeme}
use Rattle.qc_lex.specs.declared.token.Placed.{Placed}
use Rattle.qc_lex.specs.Pieces as pieces
use Rattle.qc_oql_tree.specs.declared.lexeme.Lexeme as scanned
use Rattle.qc_oql_tree.specs.TokenKinds as kinds

-- the words that the language reserves, each with its kind
abbrev pub words : List (List ℕ × ℕ)
words =
    (codes "define", kinds.DEFINE) ∷ (codes "as", kinds.AS) ∷ (codes "select", kinds.SELECT) ∷
    (codes "distinct", kinds.DISTINCT) ∷ (codes "from", kinds.FROM) ∷ (codes "where", kinds.WHERE) ∷
    (codes "order", kinds.ORDER) ∷ (codes "by", kinds.BY) ∷ (codes "in", kinds.IN) ∷ (codes "asc", kinds.ASC) ∷
    (codes "desc", kinds.DESC) ∷ (codes "if", kinds.IF) ∷ (codes "then", kinds.THEN) ∷
    (codes "else", kinds.ELSE) ∷ (codes "exists", kinds.EXISTS) ∷ (codes "for", kinds.FOR) ∷
    (codes "all", kinds.ALL) ∷ (codes "true", kinds.TRUE) ∷ (codes "false", kinds.FALSE) ∷
    (codes "nil", kinds.NIL) ∷ (codes "struct", kinds.STRUCT) ∷ (codes "bag", kinds.BAG) ∷
    (codes "match", kinds.MATCH) ∷ (codes "cast", kinds.CAST) ∷ (codes "brand", kinds.BRAND) ∷
    (codes "or", kinds.OR) ∷ (codes "and", kinds.AND) ∷ (codes "not", kinds.NOT) ∷ (codes "like", kinds.LIKE) ∷
    (codes "union", kinds.UNION) ∷ (codes "except", kinds.EXCEPT) ∷ (codes "intersect", kinds.INTERSECT) ∷
    (codes "mod", kinds.MOD) ∷ (codes "count", kinds.COUNT) ∷ (codes "sum", kinds.SUM) ∷
    (codes "min", kinds.MIN) ∷ (codes "max", kinds.MAX) ∷ (codes "avg", kinds.AVG) ∷
    (codes "element", kinds.ELEMENT) ∷ (codes "flatten", kinds.FLATTEN) ∷ (codes "abs", kinds.ABS) ∷
    (codes "left", kinds.LEFT) ∷ (codes "right", kinds.RIGHT) ∷ (codes "unbrand", kinds.UNBRAND) ∷
    (codes "orelse", kinds.ORELSE) ∷ (codes "least", kinds.LEAST) ∷ (codes "greatest", kinds.GREATEST) ∷ []

-- the marks, each with its kind
abbrev pub marks : List (List ℕ × ℕ)
marks =
    (codes "+", kinds.PLUS) ∷ (codes "-", kinds.MINUS) ∷ (codes "*", kinds.TIMES) ∷ (codes "/", kinds.DIVIDE) ∷
    (codes "=", kinds.EQUAL) ∷ (codes "!=", kinds.NOT_EQUAL) ∷ (codes "<", kinds.LESS) ∷
    (codes "<=", kinds.AT_MOST) ∷ (codes ">", kinds.GREATER) ∷ (codes ">=", kinds.AT_LEAST) ∷
    (codes "||", kinds.GLUE) ∷ (codes "(", kinds.OPEN) ∷ (codes ")", kinds.CLOSE) ∷ (codes ",", kinds.COMMA) ∷
    (codes ".", kinds.DOT) ∷ (codes ":", kinds.COLON) ∷ (codes ";", kinds.SEMICOLON) ∷ []

-- the kind beside a piece in a table, or another where it isn't there
abbrev pub kind_in : List (List ℕ × ℕ) → ℕ → List ℕ → ℕ
kind_in [] other piece = other
kind_in (entry ∷ table) other piece = if bytes_eq piece entry.0 then entry.1 else kind_in table other piece

-- the kind of a whole number
abbrev pub whole_kind : ℤ → ℕ
whole_kind (pos zero) = kinds.ZERO
whole_kind (pos (suc n)) = kinds.NONZERO
whole_kind (negsuc n) = kinds.NONZERO

-- the kind of a piece that the scanner took for a token of a kind of its own
abbrev pub kind_of : Kind → List ℕ → ℕ
kind_of Word piece = kind_in words kinds.NAME piece
kind_of Quoted piece = kinds.OTHER
kind_of Whole piece = whole_kind (pos (pieces.value piece))
kind_of Text piece = kinds.TEXT
kind_of Mark piece = kind_in marks kinds.OTHER piece

-- the kind of a token
abbrev pub kind : Lexeme → ℕ
kind lexeme = kind_of lexeme.kind lexeme.piece

-- the number that a piece of a kind spells, if it is a whole number
abbrev pub whole_of : Kind → List ℕ → ℤ
whole_of Word piece = pos 0
whole_of Quoted piece = pos 0
whole_of Whole piece = pos (pieces.value piece)
whole_of Text piece = pos 0
whole_of Mark piece = pos 0

-- the number that a token spells
abbrev pub whole : Lexeme → ℤ
whole lexeme = whole_of lexeme.kind lexeme.piece

-- what stands between the quotes of a piece of a kind, if it is a text
abbrev pub content_of : Kind → List ℕ → List ℕ
content_of Word piece = []
content_of Quoted piece = []
content_of Whole piece = []
content_of Text piece = pieces.content piece
content_of Mark piece = []

-- what stands between the quotes of a token
abbrev pub content : Lexeme → List ℕ
content lexeme = content_of lexeme.kind lexeme.piece

-- the lexeme of a token of a scan, and past the end a mark that there is not
abbrev pub lexeme_or : Option Placed → Lexeme
lexeme_or (Some word) = word.lexeme
lexeme_or None = record { kind = Mark; piece = [] }

-- the lexeme that the code holds as a scan and a number
abbrev pub lexeme : scanned.Lexeme → Lexeme
lexeme token = lexeme_or (slice_get token.words.now token.at)

-- the token at a place of a list, and past the end a mark that there is not
abbrev pub token_or : Option Lexeme → Lexeme
token_or (Some token) = token
token_or None = record { kind = Mark; piece = [] }

abbrev pub lexeme_at : List Lexeme → ℕ → Lexeme
lexeme_at tokens i = token_or (slice_get tokens i)
