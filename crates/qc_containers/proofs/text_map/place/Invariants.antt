use Rattle.std.proofs.Common.{◌≤◌, ◌-◌, length}
use Rattle.qc_containers.specs.Pairs.{below}
use Rattle.qc_containers.specs.Rising.{Rising}
use Rattle.qc_containers.proofs.text_map.place.Given as goal

-- the place lies from low to high
abbrev pub invariant-loop-low : goal.invariant-loop-low
invariant-loop-low g l = record {
  rising : Rising l.pairs;
  within : l.high ≤ length l.pairs;
  after : l.low ≤ below l.name l.pairs;
  before : below l.name l.pairs ≤ l.high;
}

abbrev pub decreases-loop-low : goal.decreases-loop-low
decreases-loop-low g l = l.high - l.low
