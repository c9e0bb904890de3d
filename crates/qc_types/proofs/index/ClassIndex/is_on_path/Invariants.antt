use Rattle.std.proofs.Common.{◌≡◌, ◌<◌, length, Some}
use Rattle.qc_types.specs.inner.Places.{New, on_path}
use Rattle.qc_types.proofs.index.ClassIndex.is_on_path.Given as goal

-- what is left of the way upward
abbrev pub invariant-loop-at : goal.invariant-loop-at
invariant-loop-at l = record {
  names : New l.self;
  within : l.at < length l.self;
  left : on_path l.self l.above (Some l.place) ≡ on_path l.self l.above (Some l.at);
}

abbrev pub decreases-loop-at : goal.decreases-loop-at
decreases-loop-at l = l.at
