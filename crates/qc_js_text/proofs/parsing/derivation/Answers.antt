use Rattle.std.proofs.Common.{ℕ, List, length, ap, subst, ◌∙◌, arith}
use Rattle.std.proofs.lemmas.List.{length-map}
use Rattle.qc_grammar.specs.inner.Derivations.{Rules, Whole}
use Rattle.qc_grammar.specs.Parsing.{Parses}
use Rattle.qc_js_lex.specs.Lexemes.{kind}
use Rattle.qc_js_text.specs.Table.{grammar}
use Rattle.qc_js_text.proofs.Bridge.{parses}
use Rattle.qc_js_text.proofs.parsing.derivation.Goals as goal

pub read-requires : goal.read-requires
read-requires c = (
  c.table.ensures.exact,
  omega (arith, ap length (c.as_slice.ensures ∙ c.in-Ok.ensures), length-map c.args.lexemes.now kind, c.requires),
)

pub returns-in-Ok : goal.returns-in-Ok
returns-in-Ok c =
    parses c.args.lexemes.now c.read.result
    (subst (λ (z : List ℕ). Parses (Whole grammar) z c.read.result) (c.as_slice.ensures ∙ c.in-Ok.ensures)
    (subst (λ (z : Rules). Parses (Whole z) c.as_slice.result.now c.read.result) c.table.ensures.same c.read.ensures))
