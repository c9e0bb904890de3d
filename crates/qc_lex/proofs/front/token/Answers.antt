use Rattle.std.proofs.Common.{◌≡◌, ◌∷◌, Option, Some, IfOk, subst, rules}
use Rattle.qc_lex.specs.declared.token.Lexeme.{Lexeme}
use Rattle.qc_lex.specs.inner.Steps.{kind_of, goes_on, token_or_bad}
use Rattle.qc_lex.proofs.Begun.{front_at}
use Rattle.qc_lex.proofs.front.token.Goals as goal

pub returns : goal.returns
returns c =
    let all : c.args.bytes.now ≡ c.in-Some.first.now ∷ c.in-Some.rest.now = search rules in
    let kind : c.kind_of-kind.result ≡ kind_of c.args.table c.in-Some.first.now = search rules in
    let more : goes_on c.args.table c.kind_of-kind.result c.in-Some.first.now c.in-Some.rest.now
    ≡ Some c.in-Some-goes_on.more = search rules in
    subst (λ (o : Option Lexeme). IfOk c.fitting.result (λ found. found ≡ token_or_bad o))
    (front_at _ _ _ _ _ _ all kind more) c.fitting.ensures
