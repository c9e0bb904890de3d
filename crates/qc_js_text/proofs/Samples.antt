-- A lexeme of each kind of the table: some list goes on with it, as the place of a fault claims.
use Rattle.std.proofs.Common.{◌≡◌, ℕ, ◌-◌, pos, true, eqb, [], refl, if◌then◌else◌}
use Rattle.qc_grammar.proofs.Samples.{grammar_sampled}
use Rattle.qc_rt.specs.declared.function.Rt.TheVariants as rt
use Rattle.qc_js_lex.specs.declared.lexeme.Lexeme.{Lexeme}
use Rattle.qc_js_lex.specs.declared.lexeme.Lexeme.TheVariants.{Var, Function, Int, Text, Fixed}
use Rattle.qc_js_lex.specs.Lexemes.{kind}
use Rattle.qc_js_text.specs.Table.{grammar}

-- a lexeme of the kind
abbrev pub sample : ℕ → Lexeme
sample k = if eqb k 0 then Var 0
    else if eqb k 1 then Function rt.Not
    else if eqb k 2 then Int (pos 0)
    else if eqb k 3 then Text []
    else Fixed (k - 4)

pub sampled : grammar_sampled kind sample grammar ≡ true
unfolding grammar
sampled = refl {a = true}
