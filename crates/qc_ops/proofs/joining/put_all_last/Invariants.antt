use Rattle.std.proofs.Common.{◌≡◌, ◌++◌, take}
use Rattle.qc_ops.proofs.joining.put_all_last.Given as goal

abbrev pub invariant-loop-pair : goal.invariant-loop-pair
invariant-loop-pair l = l.all ≡ l.initial.all ++ take l.pair-index l.more
