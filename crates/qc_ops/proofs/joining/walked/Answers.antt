use Rattle.std.proofs.Common.{◌∙◌, ◌≤◌, ◌++◌, ◌⊎◌, inl, inr, length, ap, arith}
use Rattle.qc_ops.specs.Records.{over}
use Rattle.qc_ops.proofs.Overlays.{Rising-over, Rising-last_left, Rising-last_right, compared_as, gone_last, last_is}
use Rattle.qc_ops.proofs.Overlays.{may_go_last, next-equal, next-greater, next-less}
use Rattle.qc_ops.proofs.joining.walked.Goals as goal
use Rattle.qc_ops.proofs.joining.walked.Goals.{then-loop-at-test+else-to-right, else-loop-at-test}

pub put_last-requires : goal.put_last-requires
put_last-requires c =
    may_go_last _ c.loop-at.all _ _ c.index-left-at.result
    (Rising-over c.as_slice-left.result.now c.as_slice-right.result.now
    (rw c.as_slice-right.ensures.pairs c.as_slice-right.ensures.rising)) c.loop-at.invariant.left
    (next-less c.as_slice-left.result.now c.as_slice-right.result.now c.loop-at.at c.loop-at.to c.index-left-at.result
    c.index-right-to.result (rw c.as_slice-left.ensures.pairs c.as_slice-left.ensures.rising)
    (rw c.as_slice-right.ensures.pairs c.as_slice-right.ensures.rising) c.loop-at-test.true c.if-to-right.true
    c.index-left-at.is c.index-right-to.is
    (compared_as _ _ _ _ _ c.in-Less.ensures c.as_str.ensures.text c.as_str-in-loop-at.ensures.text))

pub loop-at-preserved-in-Less : goal.loop-at-preserved-in-Less
loop-at-preserved-in-Less c = record {
  left = gone_last _ c.loop-at.all _ _ c.put_last.new.all c.index-left-at.result c.loop-at.invariant.left
      (next-less c.as_slice-left.result.now c.as_slice-right.result.now c.loop-at.at c.loop-at.to c.index-left-at.result
      c.index-right-to.result (rw c.as_slice-left.ensures.pairs c.as_slice-left.ensures.rising)
      (rw c.as_slice-right.ensures.pairs c.as_slice-right.ensures.rising) c.loop-at-test.true c.if-to-right.true
      c.index-left-at.is c.index-right-to.is
      (compared_as _ _ _ _ _ c.in-Less.ensures c.as_str.ensures.text c.as_str-in-loop-at.ensures.text))
      c.in_ok-put_last-in-Less.ensures;
  within_left = omega arith;
  within_right = c.loop-at.invariant.within_right;
}

pub loop-at-preserved-in-Equal : goal.loop-at-preserved-in-Equal
loop-at-preserved-in-Equal c = record {
  left = c.loop-at.invariant.left ∙ ap (λ l. c.loop-at.all ++ l)
      (next-equal c.as_slice-left.result.now c.as_slice-right.result.now c.loop-at.at c.loop-at.to
      c.index-left-at.result c.index-right-to.result
      (rw c.as_slice-left.ensures.pairs c.as_slice-left.ensures.rising) c.loop-at-test.true c.if-to-right.true
      c.index-left-at.is c.index-right-to.is
      (compared_as _ _ _ _ _ c.in-Equal.ensures c.as_str.ensures.text c.as_str-in-loop-at.ensures.text));
  within_left = omega arith;
  within_right = c.loop-at.invariant.within_right;
}

pub put_last-requires-in-Greater : goal.put_last-requires-in-Greater
put_last-requires-in-Greater c =
    may_go_last _ c.loop-at.all _ _ c.index-right-to.result
    (Rising-over c.as_slice-left.result.now c.as_slice-right.result.now
    (rw c.as_slice-right.ensures.pairs c.as_slice-right.ensures.rising)) c.loop-at.invariant.left
    (next-greater c.as_slice-left.result.now c.as_slice-right.result.now c.loop-at.at c.loop-at.to
    c.index-left-at.result c.index-right-to.result
    (rw c.as_slice-left.ensures.pairs c.as_slice-left.ensures.rising) c.loop-at-test.true c.if-to-right.true
    c.index-left-at.is c.index-right-to.is
    (compared_as _ _ _ _ _ c.in-Greater.ensures c.as_str.ensures.text c.as_str-in-loop-at.ensures.text))

pub loop-at-preserved : goal.loop-at-preserved
loop-at-preserved c = record {
  left = gone_last _ c.loop-at.all _ _ c.put_last-in-Greater.new.all c.index-right-to.result c.loop-at.invariant.left
      (next-greater c.as_slice-left.result.now c.as_slice-right.result.now c.loop-at.at c.loop-at.to
      c.index-left-at.result c.index-right-to.result
      (rw c.as_slice-left.ensures.pairs c.as_slice-left.ensures.rising) c.loop-at-test.true c.if-to-right.true
      c.index-left-at.is c.index-right-to.is
      (compared_as _ _ _ _ _ c.in-Greater.ensures c.as_str.ensures.text c.as_str-in-loop-at.ensures.text))
      c.in_ok-put_last-in-Greater.ensures;
  within_left = c.loop-at.invariant.within_left;
  within_right = omega arith;
}

pub put_all_last-requires : goal.put_all_last-requires
put_all_last-requires c =
    let one : (length c.as_slice-left.result.now ≤ c.loop-at.at) ⊎ (length c.as_slice-right.result.now ≤ c.loop-at.to) =
    elim c.loop-at-test.branch [
      | then-loop-at-test+else-to-right w ↦ inr w.if-to-right.false
      | else-loop-at-test w ↦ inl w.loop-at-test.false
    ] in
    Rising-last_left c.as_slice-left.result.now c.as_slice-right.result.now c.loop-at.all c.loop-at.at c.loop-at.to
    (rw c.as_slice-left.ensures.pairs c.as_slice-left.ensures.rising)
    (rw c.as_slice-right.ensures.pairs c.as_slice-right.ensures.rising) one c.loop-at.invariant.left

pub put_all_last-requires-2 : goal.put_all_last-requires-2
put_all_last-requires-2 c =
    let one : (length c.as_slice-left.result.now ≤ c.loop-at.at) ⊎ (length c.as_slice-right.result.now ≤ c.loop-at.to) =
    elim c.loop-at-test.branch [
      | then-loop-at-test+else-to-right w ↦ inr w.if-to-right.false
      | else-loop-at-test w ↦ inl w.loop-at-test.false
    ] in
    Rising-last_right c.as_slice-left.result.now c.as_slice-right.result.now c.loop-at.all c.loop-at.at c.loop-at.to
    (rw c.as_slice-left.ensures.pairs c.as_slice-left.ensures.rising)
    (rw c.as_slice-right.ensures.pairs c.as_slice-right.ensures.rising) one c.loop-at.invariant.left
    c.put_all_last.new.all c.in_ok-put_all_last.ensures

pub returns : goal.returns
returns c =
    let one : (length c.as_slice-left.result.now ≤ c.loop-at.at) ⊎ (length c.as_slice-right.result.now ≤ c.loop-at.to) =
    elim c.loop-at-test.branch [
      | then-loop-at-test+else-to-right w ↦ inr w.if-to-right.false
      | else-loop-at-test w ↦ inl w.loop-at-test.false
    ] in
    last_is c.as_slice-left.result.now c.as_slice-right.result.now c.loop-at.all c.loop-at.at c.loop-at.to
    (rw c.as_slice-left.ensures.pairs c.as_slice-left.ensures.rising)
    (rw c.as_slice-right.ensures.pairs c.as_slice-right.ensures.rising) one c.loop-at.invariant.left
    c.put_all_last.new.all c.put_all_last-2.new.all c.in_ok-put_all_last.ensures c.in_ok-put_all_last-2.ensures
    ∙ (λ k. over (c.as_slice-left.ensures.pairs k) (c.as_slice-right.ensures.pairs k))
