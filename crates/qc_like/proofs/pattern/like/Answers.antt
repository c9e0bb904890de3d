use Rattle.std.proofs.Common.{◌∙◌, sym, ap, rules, arith}
use Rattle.std.specs.Prelude.{chars}
use Rattle.std.proofs.lemmas.Bool.Decides.{nat_tests}
use Rattle.qc_like.proofs.Patterns.{meets, meets-end, meets-over, meets-run, meets-unlike, meets-none, meets-later}
use Rattle.qc_like.proofs.Patterns.{nothing}
use Rattle.qc_like.proofs.pattern.like.Goals as goal

pub returns-in-Over : goal.returns-in-Over
returns-in-Over c =
    sym (c.loop-rest.invariant.same ∙ meets-over c.loop-rest.behind_run (chars c.loop-rest.pattern.now)
    (chars c.loop-rest.text.now) (sym c.in-Over.ensures.value))

pub returns-then-is_empty : goal.returns-then-is_empty
returns-then-is_empty c =
    sym (c.loop-rest.invariant.same ∙ meets-end c.loop-rest.behind_run (chars c.loop-rest.pattern.now)
    (chars c.loop-rest.text.now) c.in-Run.rest.now (chars c.in-Run.left.now) (sym c.in-Run.ensures.value)
    (nothing c.in-Run.rest.now (grind (arith, nat_tests))))

pub loop-rest-preserved-in-Run : goal.loop-rest-preserved-in-Run
loop-rest-preserved-in-Run c = record {
  same = c.loop-rest.invariant.same ∙ meets-run c.loop-rest.behind_run (chars c.loop-rest.pattern.now)
      (chars c.loop-rest.text.now) (chars c.in-Run.rest.now) (chars c.in-Run.left.now) (sym c.in-Run.ensures.value);
  pattern_is = search rules;
  text_is = search rules;
}

pub returns-then-not-behind_run : goal.returns-then-not-behind_run
returns-then-not-behind_run c =
    sym (c.loop-rest.invariant.same ∙ ap
    (λ b. meets b (chars c.loop-rest.pattern.now) (chars c.loop-rest.text.now)) c.if-not-behind_run.true
    ∙ meets-unlike (chars c.loop-rest.pattern.now) (chars c.loop-rest.text.now) (sym c.in-Unlike.ensures.value))

pub loop-rest-preserved : goal.loop-rest-preserved
loop-rest-preserved c = record {
  same = c.loop-rest.invariant.same ∙ ap
      (λ b. meets b (chars c.loop-rest.pattern.now) (chars c.loop-rest.text.now)) c.if-not-behind_run.false
      ∙ meets-later (chars c.loop-rest.pattern.now) (chars c.loop-rest.text.now)
      (chars c.in-Some.left.now) _ c.in-Some.ensures.some (sym c.in-Unlike.ensures.value)
      ∙ ap (λ b. meets b (chars c.loop-rest.pattern.now) (chars c.in-Some.left.now)) (sym c.if-not-behind_run.false);
  pattern_is = search rules;
  text_is = search rules;
}

pub returns-in-None : goal.returns-in-None
returns-in-None c =
    sym (c.loop-rest.invariant.same ∙ meets-none c.loop-rest.behind_run
    (chars c.loop-rest.pattern.now) c.loop-rest.text.now c.in-None.ensures.none (sym c.in-Unlike.ensures.value))
