use Rattle.std.proofs.Common.{rules, ◌≡◌, ap, ◌∙◌}
use Rattle.std.specs.Prelude.{pred, slice_get}
use Rattle.qc_lex.specs.Words.{lexemes}
use Rattle.qc_oql_tree.specs.Lexemes.{token_or}
use Rattle.qc_oql_text.proofs.Scanned.{same_token}
use Rattle.qc_oql_text.proofs.tokens.before.Goals as goal

pub returns-clause-token : goal.returns-clause-token
returns-clause-token c =
    let place : c.saturating_sub.result ≡ pred c.args.count = search rules in
    same_token c.args.words.now c.saturating_sub.result
    ∙ ap (λ n. token_or (slice_get (lexemes c.args.words.now) n)) place
