use Rattle.std.proofs.Common.{◌≡◌, ◌++◌, drop}
use Rattle.qc_bags.specs.Copies.{picked}
use Rattle.qc_seen.proofs.same.picked.Given as goal

abbrev pub invariant-loop-at : goal.invariant-loop-at
invariant-loop-at l =
    picked l.flags l.items ≡ l.all ++ picked (drop l.at l.flags) (drop l.at l.items)
