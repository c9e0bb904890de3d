use Rattle.std.proofs.Common.{◌≡◌, ◌<◌, ◌^◌, slice_get, Some, ap, ◌∙◌, rules, arith}
use Rattle.qc_lex.specs.declared.token.Kind.TheVariants.{Whole}
use Rattle.qc_lex.specs.Pieces.{value}
use Rattle.qc_lex.specs.Words.{kind_at}
use Rattle.qc_lex.proofs.Known.{token_at, kind_is, whole_fits}
use Rattle.qc_lex.proofs.words.Words.whole.Goals as goal

pub unreachable-requires-in-None : goal.unreachable-requires-in-None
unreachable-requires-in-None c =
    let found : slice_get c.self.inside.words c.args.at ≡ Some c.in-Some.word.now = search rules in
    let asked : kind_at c.self.inside.words c.args.at ≡ Some Whole = search rules in
    let kind : c.in-Some.word.now.lexeme.kind
    ≡ Whole = kind_is c.self.inside.words c.args.at c.in-Some.word.now found asked in
    let within : value c.in-Some.word.now.lexeme.piece < 2 ^ 63 = whole_fits _
    (token_at _ _ _ c.self.invariant.0 found) kind in
    let above = c.number.ensures.above c.in-None.is in
    let same : value c.as_bytes.result.now
    ≡ value c.in-Some.word.now.lexeme.piece = ap value (c.as_bytes.ensures.value ∙ c.as_str.ensures) in
    omega (arith, within, above, same)
