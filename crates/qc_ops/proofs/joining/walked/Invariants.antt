use Rattle.std.proofs.Common.{◌≡◌, ◌++◌, ◌+◌, ◌-◌, ◌≤◌, drop, length}
use Rattle.qc_ops.specs.Records.{over}
use Rattle.qc_ops.proofs.joining.walked.Given as goal

abbrev pub invariant-loop-at : goal.invariant-loop-at
invariant-loop-at l =
    record {
      left : over l.left l.right ≡ l.all
          ++ over (drop l.at l.left) (drop l.to l.right);
      within_left : l.at ≤ length l.left;
      within_right : l.to ≤ length l.right;
    }

abbrev pub decreases-loop-at : goal.decreases-loop-at
decreases-loop-at l = (length l.left - l.at) + (length l.right - l.to)
