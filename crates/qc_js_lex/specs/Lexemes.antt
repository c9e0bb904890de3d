-- Tokens as the grammar reads them.
use Rattle.std.specs.Prelude.{ℕ, ◌+◌, List, [], ◌∷◌, codes, decimal, if◌then◌else◌, ◌==◌, ◌&&◌}
use Rattle.std.specs.Prelude.{Option, Some, None}
use Rattle.std.specs.Str.{bytes_eq}
use Rattle.std.specs.Str.Parse.{digits_value}
use Rattle.qc_rt.specs.declared.function.Rt.{Rt}
use Rattle.qc_rt.specs.Table.{function_of}
use Rattle.qc_js.specs.declared.token.Token.{Token}
use Rattle.qc_js.specs.declared.token.Token.TheVariants as token
use Rattle.qc_js.specs.Held.{is_number}
use Rattle.qc_js_lex.specs.declared.lexeme.Lexeme.{Lexeme}
use Rattle.qc_js_lex.specs.declared.lexeme.Lexeme.TheVariants.{Var, Function, Int, Text, Fixed}

-- the number of its kind
abbrev pub kind : Lexeme → ℕ
kind (Var x) = 0
kind (Function f) = 1
kind (Int n) = 2
kind (Text t) = 3
kind (Fixed n) = n + 4

-- the word that the grammar does not know
abbrev pub other : Lexeme
other = Fixed 25

-- ---- words

abbrev pub later_word : List ℕ → Option ℕ
later_word w = if bytes_eq w (codes "push") then Some 7
    else if bytes_eq w (codes "for") then Some 8
    else if bytes_eq w (codes "of") then Some 9
    else if bytes_eq w (codes "if") then Some 10
    else if bytes_eq w (codes "else") then Some 11
    else if bytes_eq w (codes "true") then Some 12
    else if bytes_eq w (codes "false") then Some 13
    else if bytes_eq w (codes "null") then Some 14
    else None

-- the place of a word that the grammar names
abbrev pub fixed_word : List ℕ → Option ℕ
fixed_word w = if bytes_eq w (codes "function") then Some 0
    else if bytes_eq w (codes "query") then Some 1
    else if bytes_eq w (codes "w") then Some 2
    else if bytes_eq w (codes "rt") then Some 3
    else if bytes_eq w (codes "return") then Some 4
    else if bytes_eq w (codes "let") then Some 5
    else if bytes_eq w (codes "const") then Some 6
    else later_word w

-- the number below 2^128 of which these are the shortest digits
unfoldable pub number_in : List ℕ → Option ℕ
number_in ds = let x = digits_value 10 ds in if is_number x && bytes_eq ds (decimal x) then Some x else None

-- the number of the variable that the word is
abbrev pub variable_in : List ℕ → Option ℕ
variable_in [] = None
variable_in (b ∷ ds) = if b == 118 then number_in ds else None

abbrev pub variable_or_other : Option ℕ → Lexeme
variable_or_other (Some x) = Var x
variable_or_other None = other

abbrev pub function_or : Lexeme → Option Rt → Lexeme
function_or l (Some f) = Function f
function_or l None = l

abbrev pub fixed_or : Lexeme → Option ℕ → Lexeme
fixed_or l (Some n) = Fixed n
fixed_or l None = l

-- the lexeme of a word that the grammar does not name
unfoldable pub free_word : List ℕ → Lexeme
free_word w = function_or (variable_or_other (variable_in w)) (function_of w)

-- the lexeme of a word
unfoldable pub word_lexeme : List ℕ → Lexeme
word_lexeme w = fixed_or (free_word w) (fixed_word w)

-- ---- marks

-- the place of a mark
abbrev pub mark_place : ℕ → ℕ
mark_place b = if b == 40 then 15
    else if b == 41 then 16
    else if b == 123 then 17
    else if b == 125 then 18
    else if b == 91 then 19
    else if b == 93 then 20
    else if b == 44 then 21
    else if b == 59 then 22
    else if b == 46 then 23
    else if b == 61 then 24
    else 25

-- ---- tokens

-- the lexeme of a token
abbrev pub lexeme_of : Token → Lexeme
lexeme_of (token.Word w) = word_lexeme w
lexeme_of (token.Int n) = Int n
lexeme_of (token.Text t) = Text t
lexeme_of (token.Mark b) = Fixed (mark_place b)
