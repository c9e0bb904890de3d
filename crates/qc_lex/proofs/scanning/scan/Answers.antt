use Rattle.std.proofs.Common.{◌≡◌, [], ◌∷◌, ◌++◌, length, drop, sym, ap, ◌∙◌, rules, arith}
use Rattle.qc_lex.specs.declared.front.Next.TheVariants.{End, Gap, Token, Bad}
use Rattle.qc_lex.specs.declared.token.Placed.{Placed}
use Rattle.qc_lex.specs.Tokens.{placed}
use Rattle.qc_lex.specs.inner.Steps.{begins}
use Rattle.qc_lex.proofs.Laws.{gap_is, token_is, end_is, bad_is}
use Rattle.qc_lex.proofs.Reached.{at_rest, gap_on, token_on, gap_within, token_within, is_scan, is_bad, are_tokens}
use Rattle.qc_lex.proofs.scanning.scan.Goals as goal

pub overflow_add-at : goal.overflow_add-at
overflow_add-at c =
    let e : begins c.args.table (drop c.loop-words.at c.args.bytes.now)
    ≡ Gap c.in-Gap.size = sym (at_rest c.args.table c.args.bytes.now c.loop-words.at) ∙ sym c.in_ok-begins.ensures
    ∙ c.in-Gap.is in
    let s = gap_within c.args.bytes.now c.loop-words.at c.loop-words.invariant.1 (gap_is _ _ _ e) in
    omega (arith, s.1)

pub loop-words-smaller-in-Gap : goal.loop-words-smaller-in-Gap
loop-words-smaller-in-Gap c =
    let e : begins c.args.table (drop c.loop-words.at c.args.bytes.now)
    ≡ Gap c.in-Gap.size = sym (at_rest c.args.table c.args.bytes.now c.loop-words.at) ∙ sym c.in_ok-begins.ensures
    ∙ c.in-Gap.is in
    let s = gap_within c.args.bytes.now c.loop-words.at c.loop-words.invariant.1 (gap_is _ _ _ e) in
    omega (arith, s.0, s.1)

pub loop-words-preserved-in-Gap : goal.loop-words-preserved-in-Gap
loop-words-preserved-in-Gap c =
    let e : begins c.args.table (drop c.loop-words.at c.args.bytes.now)
    ≡ Gap c.in-Gap.size = sym (at_rest c.args.table c.args.bytes.now c.loop-words.at) ∙ sym c.in_ok-begins.ensures
    ∙ c.in-Gap.is in
    let s = gap_within c.args.bytes.now c.loop-words.at c.loop-words.invariant.1 (gap_is _ _ _ e) in
    (gap_on c.loop-words.invariant.0 (gap_is _ _ _ e), s.1)

pub placed-word-requires : goal.placed-word-requires
placed-word-requires c =
    let e : begins c.args.table (drop c.loop-words.at c.args.bytes.now)
    ≡ Token c.in-Token.lexeme = sym (at_rest c.args.table c.args.bytes.now c.loop-words.at) ∙ sym c.in_ok-begins.ensures
    ∙ c.in-Token.is in
    let s = token_within c.args.bytes.now c.loop-words.at c.loop-words.invariant.1 (token_is _ _ _ e) in
    omega (arith, s.1)

pub loop-words-smaller : goal.loop-words-smaller
loop-words-smaller c =
    let e : begins c.args.table (drop c.loop-words.at c.args.bytes.now)
    ≡ Token c.in-Token.lexeme = sym (at_rest c.args.table c.args.bytes.now c.loop-words.at) ∙ sym c.in_ok-begins.ensures
    ∙ c.in-Token.is in
    let s = token_within c.args.bytes.now c.loop-words.at c.loop-words.invariant.1 (token_is _ _ _ e) in
    let n : length c.as_str.result.now ≡ length c.in-Token.lexeme.piece = ap length c.as_str.ensures
    ∙ ap (λ (w : Placed). length w.lexeme.piece) c.placed-word.ensures in
    omega (arith, s.0, s.1, n)

pub loop-words-preserved : goal.loop-words-preserved
loop-words-preserved c =
    let e : begins c.args.table (drop c.loop-words.at c.args.bytes.now)
    ≡ Token c.in-Token.lexeme = sym (at_rest c.args.table c.args.bytes.now c.loop-words.at) ∙ sym c.in_ok-begins.ensures
    ∙ c.in-Token.is in
    let s = token_within c.args.bytes.now c.loop-words.at c.loop-words.invariant.1 (token_is _ _ _ e) in
    let n : length c.as_str.result.now ≡ length c.in-Token.lexeme.piece = ap length c.as_str.ensures
    ∙ ap (λ (w : Placed). length w.lexeme.piece) c.placed-word.ensures in
    let added : c.add.new.self ≡ c.loop-words.words ++ placed c.loop-words.at c.in-Token.lexeme
    ∷ [] = c.in_ok-add-in-Token.ensures.ok ∙ ap (λ (w : Placed). c.loop-words.words ++ w ∷ []) c.placed-word.ensures in
    rw (added, n) (token_on c.loop-words.invariant.0 (token_is _ _ _ e), s.1)

pub returns-in-Bad : goal.returns-in-Bad
returns-in-Bad c =
    let e : begins c.args.table (drop c.loop-words.at c.args.bytes.now)
    ≡ Bad = sym (at_rest c.args.table c.args.bytes.now c.loop-words.at) ∙ sym c.in_ok-begins.ensures ∙ c.in-Bad.is in
    is_bad c.loop-words.invariant.0 (bad_is _ _ e)

pub returns-then-len-gt-MOST_TOKENS : goal.returns-then-len-gt-MOST_TOKENS
returns-then-len-gt-MOST_TOKENS c =
    let e : begins c.args.table (drop c.loop-words.at c.args.bytes.now)
    ≡ End = sym (at_rest c.args.table c.args.bytes.now c.loop-words.at) ∙ sym c.in_ok-begins.ensures ∙ c.in-End.is in
    (c.loop-words.words, is_scan c.loop-words.invariant.0 (end_is _ _ e), search rules)

pub new-requires-clause-tokens : goal.new-requires-clause-tokens
new-requires-clause-tokens c =
    let e : begins c.args.table (drop c.loop-words.at c.args.bytes.now)
    ≡ End = sym (at_rest c.args.table c.args.bytes.now c.loop-words.at) ∙ sym c.in_ok-begins.ensures ∙ c.in-End.is in
    let s = is_scan c.loop-words.invariant.0 (end_is _ _ e) in
    are_tokens s.scanned

pub returns : goal.returns
returns c =
    let e : begins c.args.table (drop c.loop-words.at c.args.bytes.now)
    ≡ End = sym (at_rest c.args.table c.args.bytes.now c.loop-words.at) ∙ sym c.in_ok-begins.ensures ∙ c.in-End.is in
    rw c.new.ensures (is_scan c.loop-words.invariant.0 (end_is _ _ e), search rules)
