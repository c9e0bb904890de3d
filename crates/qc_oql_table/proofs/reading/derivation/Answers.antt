use Rattle.std.proofs.Common.{ℕ, List, length, ap, subst, ◌∙◌, arith}
use Rattle.qc_grammar.specs.inner.Derivations.{Rules, Whole}
use Rattle.qc_grammar.specs.Parsing.{Parses}
use Rattle.qc_lex.specs.Words.{lexemes}
use Rattle.qc_oql_table.specs.Table.{grammar}
use Rattle.qc_oql_table.proofs.Bridge.{parses}
use Rattle.qc_oql_table.proofs.reading.derivation.Goals as goal

pub read-requires : goal.read-requires
read-requires c = (c.table.ensures.exact, omega (arith, ap length c.as_slice.ensures, c.in-Ok.ensures.few))

pub returns-in-Ok : goal.returns-in-Ok
returns-in-Ok c =
    parses (lexemes c.args.words.now) c.read.result
    (subst (λ (z : List ℕ). Parses (Whole grammar) z c.read.result) (c.as_slice.ensures ∙ c.in-Ok.ensures.all)
    (subst (λ (z : Rules). Parses (Whole z) c.as_slice.result.now c.read.result) c.table.ensures.same c.read.ensures))
