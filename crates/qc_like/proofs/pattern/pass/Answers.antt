use Rattle.std.proofs.Common.{◌∙◌, sym}
use Rattle.std.specs.Prelude.{chars}
use Rattle.qc_like.proofs.Patterns.{passed-longer, passed-over, passed-shorter}
use Rattle.qc_like.proofs.pattern.pass.Goals as goal

pub returns-in_default-first-clause-value : goal.returns-in_default-first-clause-value
returns-in_default-first-clause-value c =
    sym (c.loop-p.invariant.same ∙ passed-shorter (chars c.loop-p.pattern.now)
    (chars c.in-Some.rest.now) c.loop-p.text.now c.in-Some.p c.in-Some.ensures.some c.if-p-eq37.false
    c.in_default-first.ensures.none)

pub returns-in-None-clause-value : goal.returns-in-None-clause-value
returns-in-None-clause-value c =
    sym (c.loop-p.invariant.same ∙ passed-over c.loop-p.pattern.now c.loop-p.text.now c.in_default.ensures.none
    c.in-None.ensures.none)

pub returns-in-Some-first-2-clause-value : goal.returns-in-Some-first-2-clause-value
returns-in-Some-first-2-clause-value c =
    sym (c.loop-p.invariant.same ∙ passed-longer c.loop-p.pattern.now
    (chars c.loop-p.text.now) _ _ c.in_default.ensures.none c.in-Some-first-2.ensures.some)
