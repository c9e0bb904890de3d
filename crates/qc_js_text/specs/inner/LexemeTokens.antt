-- The token of a lexeme.
use Rattle.std.specs.Prelude.{ℕ, codes, if◌then◌else◌, ◌==◌}
use Rattle.qc_rt.specs.Table.{word_of}
use Rattle.qc_js.specs.declared.token.Token.{Token}
use Rattle.qc_js.specs.declared.token.Token.TheVariants as token
use Rattle.qc_js.specs.Tokens.{variable}
use Rattle.qc_js_lex.specs.declared.lexeme.Lexeme.{Lexeme}
use Rattle.qc_js_lex.specs.declared.lexeme.Lexeme.TheVariants.{Var, Function, Int, Text, Fixed}

-- the token at a place among the words and the marks: first the brackets, then the others
abbrev pub quiet_token : ℕ → Token
quiet_token n = if n == 0 then token.Word (codes "function")
    else if n == 1 then token.Word (codes "query")
    else if n == 2 then token.Word (codes "w")
    else if n == 3 then token.Word (codes "rt")
    else if n == 4 then token.Word (codes "return")
    else if n == 5 then token.Word (codes "let")
    else if n == 6 then token.Word (codes "const")
    else if n == 7 then token.Word (codes "push")
    else if n == 8 then token.Word (codes "for")
    else if n == 9 then token.Word (codes "of")
    else if n == 10 then token.Word (codes "if")
    else if n == 11 then token.Word (codes "else")
    else if n == 12 then token.Word (codes "true")
    else if n == 13 then token.Word (codes "false")
    else if n == 14 then token.Word (codes "null")
    else if n == 21 then token.Mark 44
    else if n == 22 then token.Mark 59
    else if n == 23 then token.Mark 46
    else if n == 24 then token.Mark 61
    else token.Mark 0

abbrev pub fixed_token : ℕ → Token
fixed_token n = if n == 15 then token.Mark 40
    else if n == 16 then token.Mark 41
    else if n == 17 then token.Mark 123
    else if n == 18 then token.Mark 125
    else if n == 19 then token.Mark 91
    else if n == 20 then token.Mark 93
    else quiet_token n

-- the token of a lexeme
abbrev pub token_of : Lexeme → Token
token_of (Var x) = token.Word (variable x)
token_of (Function f) = token.Word (word_of f)
token_of (Int n) = token.Int n
token_of (Text t) = token.Text t
token_of (Fixed n) = fixed_token n
