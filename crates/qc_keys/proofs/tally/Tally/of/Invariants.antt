use Rattle.std.proofs.Common.{take, map}
use Rattle.qc_data.specs.Order.{canon}
use Rattle.qc_keys.specs.Counts.{Tallies}
use Rattle.qc_keys.proofs.tally.Tally.of.Given as goal

abbrev pub invariant-loop-item : goal.invariant-loop-item
invariant-loop-item l = Tallies l.tally (map canon (take l.item-index l.items))
