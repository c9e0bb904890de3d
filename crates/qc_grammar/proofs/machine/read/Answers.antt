use Rattle.std.proofs.Common.{◌∷◌, arith}
use Rattle.qc_grammar.specs.inner.Certificate.{rules}
use Rattle.qc_grammar.specs.inner.Machine.{table, left}
use Rattle.qc_grammar.proofs.Facts.{exact}
use Rattle.qc_grammar.proofs.Steps.{start, no_start, wants, ends, take_on, other_kind, no_token, done, too_many}
use Rattle.qc_grammar.proofs.machine.read.Goals as goal

pub returns-in_default : goal.returns-in_default
returns-in_default g c = let o = table c.args.table in
    no_start (rules o g.notes) o c.args.kinds.now g.notes c.peek.result (exact o g.notes c.requires.0)
    c.in_default.ensures c.peek.ensures

pub tokens-init : goal.tokens-init
tokens-init g c = let o = table c.args.table in (
  omega arith,
  start (rules o g.notes) o c.args.kinds.now c.in-Some.start c.peek.result c.new-stack.result c.new-events.result
      c.in-Some.ensures c.peek.ensures c.new-stack.ensures c.new-events.ensures,
)

pub returns-then-first-kind : goal.returns-then-first-kind
returns-then-first-kind g c = let o = table c.args.table in
    other_kind (rules o g.notes) o c.args.kinds.now g.notes c.tokens.at c.in-Wants.kind c.tokens.rest.now
    c.in-Some-split_first.others.now (left o (c.in-Wants.behind ∷ c.expand.new.stack))
    c.expand.new.events c.in-Some-split_first.first.now (exact o g.notes c.requires.0)
    c.in-Some-split_first.ensures.cases.0 c.if-first-kind.true
    (wants (rules o g.notes) o c.args.kinds.now c.tokens.at c.in-Wants.kind c.in-Wants.behind c.tokens.rest.now
    c.expand.new.stack c.expand.new.events c.expand.result c.in_ok-kind.field-0
    (c.expand.ensures c.args.kinds.now c.tokens.rest.now c.peek-in-tokens.ensures c.tokens.invariant.1) c.in_ok-kind.was
    c.in-Wants.is)

pub tokens-preserved : goal.tokens-preserved
tokens-preserved g c = let o = table c.args.table in let h = c.in-Some-split_first.ensures.cases in
    let i = c.tokens.invariant.0 in (
      omega (arith, h.1),
      take_on (rules o g.notes) o c.args.kinds.now c.tokens.at c.in-Wants.kind c.tokens.rest.now
          c.in-Some-split_first.others.now (left o (c.in-Wants.behind ∷ c.expand.new.stack))
          c.expand.new.events c.in-Some-split_first.first.now h.0 c.if-first-kind.false
          (wants (rules o g.notes) o c.args.kinds.now c.tokens.at c.in-Wants.kind c.in-Wants.behind c.tokens.rest.now
          c.expand.new.stack c.expand.new.events c.expand.result c.in_ok-kind.field-0
          (c.expand.ensures c.args.kinds.now c.tokens.rest.now c.peek-in-tokens.ensures c.tokens.invariant.1)
          c.in_ok-kind.was c.in-Wants.is),
    )

pub returns-in-None : goal.returns-in-None
returns-in-None g c = let o = table c.args.table in
    no_token (rules o g.notes) o c.args.kinds.now g.notes c.tokens.at c.in-Wants.kind c.tokens.rest.now
    (left o (c.in-Wants.behind ∷ c.expand.new.stack)) c.expand.new.events
    (exact o g.notes c.requires.0) c.in-None.ensures.cases
    (wants (rules o g.notes) o c.args.kinds.now c.tokens.at c.in-Wants.kind c.in-Wants.behind c.tokens.rest.now
    c.expand.new.stack c.expand.new.events c.expand.result c.in_ok-kind.field-0
    (c.expand.ensures c.args.kinds.now c.tokens.rest.now c.peek-in-tokens.ensures c.tokens.invariant.1) c.in_ok-kind.was
    c.in-Wants.is)

pub returns-then-rest-eq0 : goal.returns-then-rest-eq0
returns-then-rest-eq0 g c = let o = table c.args.table in
    done (rules o g.notes) o c.args.kinds.now g.notes c.tokens.at c.tokens.rest.now c.expand.new.events
    (exact o g.notes c.requires.0) c.if-rest-eq0.true
    (ends (rules o g.notes) o c.args.kinds.now c.tokens.at c.tokens.rest.now c.expand.new.stack c.expand.new.events
    c.expand.result c.in_ok-kind.field-0
    (c.expand.ensures c.args.kinds.now c.tokens.rest.now c.peek-in-tokens.ensures c.tokens.invariant.1) c.in_ok-kind.was
    c.in-Ends.is)

pub returns-in-Ends : goal.returns-in-Ends
returns-in-Ends g c = let o = table c.args.table in
    too_many (rules o g.notes) o c.args.kinds.now g.notes c.tokens.at c.tokens.rest.now c.expand.new.events
    (exact o g.notes c.requires.0) c.if-rest-eq0.false
    (ends (rules o g.notes) o c.args.kinds.now c.tokens.at c.tokens.rest.now c.expand.new.stack c.expand.new.events
    c.expand.result c.in_ok-kind.field-0
    (c.expand.ensures c.args.kinds.now c.tokens.rest.now c.peek-in-tokens.ensures c.tokens.invariant.1) c.in_ok-kind.was
    c.in-Ends.is)
