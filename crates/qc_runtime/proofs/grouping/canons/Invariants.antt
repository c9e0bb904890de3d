use Rattle.std.proofs.Common.{◌≡◌, take, map}
use Rattle.qc_data.specs.Order.{canon}
use Rattle.qc_runtime.proofs.grouping.canons.Given as goal

abbrev pub invariant-loop-item : goal.invariant-loop-item
invariant-loop-item l = l.all.items ≡ map canon (take l.item-index l.items)
