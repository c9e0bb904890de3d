use Rattle.std.proofs.Common.{◌≡◌, slice_get, Some, ◌⊎◌, inl, inr, ap, ◌∙◌, rules}
use Rattle.std.specs.Str.{IsUtf8}
use Rattle.qc_lex.specs.declared.token.Kind.TheVariants.{Text, Quoted}
use Rattle.qc_lex.specs.Pieces.{content}
use Rattle.qc_lex.specs.Words.{kind_at}
use Rattle.qc_lex.proofs.Known.{HasContent, kind_is, token_at, content_is_utf8}
use Rattle.qc_lex.proofs.words.Words.content.Goals as goal

pub unreachable-requires-in-Err : goal.unreachable-requires-in-Err
unreachable-requires-in-Err c =
    let found : slice_get c.self.inside.words c.args.at ≡ Some c.in-Some.word.now = search rules in
    let asked : (kind_at c.self.inside.words c.args.at ≡ Some Text)
    ⊎ (kind_at c.self.inside.words c.args.at ≡ Some Quoted) = search rules in
    let kind : HasContent c.in-Some.word.now.lexeme.kind = elim asked [
      | inl e ↦ inl (kind_is c.self.inside.words c.args.at c.in-Some.word.now found e)
      | inr e ↦ inr (kind_is c.self.inside.words c.args.at c.in-Some.word.now found e)
    ] in
    let whole : IsUtf8 c.in-Some.word.now.lexeme.piece = rw (← c.as_str.ensures) c.as_str.utf8 in
    let good : IsUtf8 (content c.in-Some.word.now.lexeme.piece) = content_is_utf8 _
    (token_at _ _ _ c.self.invariant.0 found) kind whole in
    let same : c.as_slice.result.now ≡ content c.in-Some.word.now.lexeme.piece = c.as_slice.ensures.value
    ∙ c.in_ok-bytes.ensures ∙ ap content (c.as_bytes.ensures.value ∙ c.as_str.ensures) in
    c.in-Err.ensures.cases.0 (rw same good)
