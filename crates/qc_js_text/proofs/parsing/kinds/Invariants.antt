use Rattle.std.proofs.Common.{◌≡◌, map, take}
use Rattle.qc_js_lex.specs.Lexemes.{kind}
use Rattle.qc_js_text.proofs.parsing.kinds.Given as goal

abbrev pub invariant-loop-lexeme : goal.invariant-loop-lexeme
invariant-loop-lexeme l = l.kinds ≡ map kind (take l.lexeme-index l.lexemes)
