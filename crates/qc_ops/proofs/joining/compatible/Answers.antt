use Rattle.std.proofs.Common.{◌∙◌, sym, inr, arith}
use Rattle.qc_ops.specs.Records.{compatible}
use Rattle.qc_ops.proofs.Agreements.{all_past, past_greater, past_less, past_same, unlike_there}
use Rattle.qc_ops.proofs.Overlays.{compared_as}
use Rattle.qc_ops.proofs.joining.compatible.Goals as goal

pub loop-at-preserved-in-Less : goal.loop-at-preserved-in-Less
loop-at-preserved-in-Less c = record {
  left = past_less c.as_slice-left.result.now c.as_slice-right.result.now c.loop-at.at c.loop-at.to
      c.index-left-at.result c.index-right-to.result
      (rw c.as_slice-left.ensures.pairs c.as_slice-left.ensures.rising)
      (rw c.as_slice-right.ensures.pairs c.as_slice-right.ensures.rising) c.loop-at-test.true c.if-to-right.true
      c.index-left-at.is c.index-right-to.is c.loop-at.invariant.left
      (compared_as _ _ _ _ _ c.in-Less.ensures c.as_str.ensures.text c.as_str-in-loop-at.ensures.text);
  within_left = omega arith;
  within_right = c.loop-at.invariant.within_right;
}

pub returns-then-not-branch : goal.returns-then-not-branch
returns-then-not-branch c =
    sym (unlike_there c.as_slice-left.result.now c.as_slice-right.result.now c.loop-at.at c.loop-at.to
    c.index-left-at.result c.index-right-to.result
    (rw c.as_slice-left.ensures.pairs c.as_slice-left.ensures.rising)
    (rw c.as_slice-right.ensures.pairs c.as_slice-right.ensures.rising) c.loop-at-test.true c.if-to-right.true
    c.index-left-at.is c.index-right-to.is c.loop-at.invariant.left c.in_ok-is_same-in-Equal.field-0
    (compared_as _ _ _ _ _ c.in-Equal.ensures c.as_str.ensures.text c.as_str-in-loop-at.ensures.text)
    c.in_ok-is_same-in-Equal.ensures c.if-not-branch.true)
    ∙ (λ k. compatible (c.as_slice-left.ensures.pairs k) (c.as_slice-right.ensures.pairs k))

pub loop-at-preserved-in-Equal : goal.loop-at-preserved-in-Equal
loop-at-preserved-in-Equal c = record {
  left = past_same c.as_slice-left.result.now c.as_slice-right.result.now c.loop-at.at c.loop-at.to
      c.index-left-at.result c.index-right-to.result
      (rw c.as_slice-left.ensures.pairs c.as_slice-left.ensures.rising)
      (rw c.as_slice-right.ensures.pairs c.as_slice-right.ensures.rising) c.loop-at-test.true c.if-to-right.true
      c.index-left-at.is c.index-right-to.is c.loop-at.invariant.left c.in_ok-is_same-in-Equal.field-0
      (compared_as _ _ _ _ _ c.in-Equal.ensures c.as_str.ensures.text c.as_str-in-loop-at.ensures.text)
      c.in_ok-is_same-in-Equal.ensures c.if-not-branch.false;
  within_left = omega arith;
  within_right = c.loop-at.invariant.within_right;
}

pub loop-at-preserved : goal.loop-at-preserved
loop-at-preserved c = record {
  left = past_greater c.as_slice-left.result.now c.as_slice-right.result.now c.loop-at.at c.loop-at.to
      c.index-left-at.result c.index-right-to.result
      (rw c.as_slice-left.ensures.pairs c.as_slice-left.ensures.rising)
      (rw c.as_slice-right.ensures.pairs c.as_slice-right.ensures.rising) c.loop-at-test.true c.if-to-right.true
      c.index-left-at.is c.index-right-to.is c.loop-at.invariant.left
      (compared_as _ _ _ _ _ c.in-Greater.ensures c.as_str.ensures.text c.as_str-in-loop-at.ensures.text);
  within_left = c.loop-at.invariant.within_left;
  within_right = omega arith;
}

pub returns-else-to-right : goal.returns-else-to-right
returns-else-to-right c =
    sym (all_past c.as_slice-left.result.now c.as_slice-right.result.now c.loop-at.at c.loop-at.to
    (inr c.if-to-right.false) c.loop-at.invariant.left)
    ∙ (λ k. compatible (c.as_slice-left.ensures.pairs k) (c.as_slice-right.ensures.pairs k))
