use Rattle.std.proofs.Common.{◌≡◌, ◌<◌, length, Some}
use Rattle.qc_types.specs.inner.Places.{New, first_in, path}
use Rattle.qc_types.proofs.index.ClassIndex.meet.Given as goal

-- what is left of the way upward
abbrev pub invariant-loop-at : goal.invariant-loop-at
invariant-loop-at l = record {
  names : New l.self;
  within : l.at < length l.self;
  second : l.b < length l.self;
  left : first_in (path l.self (Some l.b)) (path l.self (Some l.a))
      ≡ first_in (path l.self (Some l.b)) (path l.self (Some l.at));
}

abbrev pub decreases-loop-at : goal.decreases-loop-at
decreases-loop-at l = l.at
