use Rattle.std.proofs.Common.{◌≡◌, ◌≤◌, length}
use Rattle.qc_types.specs.Schemas.{good_classes, good_part}
use Rattle.qc_types.specs.inner.Places.{earlier}
use Rattle.qc_types.proofs.goodness.is_good.Given as goal

-- what is left decides
abbrev pub invariant-loop-left : goal.invariant-loop-left
invariant-loop-left l = record {
  within : l.left ≤ length l.index;
  left : good_classes l.index ≡ good_part l.index (earlier l.index l.left);
}

abbrev pub decreases-loop-left : goal.decreases-loop-left
decreases-loop-left l = l.left
