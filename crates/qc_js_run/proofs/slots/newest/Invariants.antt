use Rattle.std.proofs.Common.{◌≤◌, drop, length}
use Rattle.qc_js_run.specs.inner.Stores.{NoneOf}
use Rattle.qc_js_run.proofs.slots.newest.Given as goal

-- no slot from there on is of the variable
abbrev pub invariant-loop-at : goal.invariant-loop-at
invariant-loop-at l = record {
  within : l.at ≤ length l.slots;
  none : NoneOf l.variable (drop l.at l.slots);
}

abbrev pub decreases-loop-at : goal.decreases-loop-at
decreases-loop-at l = l.at
