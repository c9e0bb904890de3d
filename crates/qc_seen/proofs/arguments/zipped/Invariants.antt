use Rattle.std.proofs.Common.{◌≡◌, ◌++◌, drop}
use Rattle.std.specs.Prelude.{zip}
use Rattle.qc_seen.proofs.arguments.zipped.Given as goal

abbrev pub invariant-loop-at : goal.invariant-loop-at
invariant-loop-at l =
    zip l.names l.directions ≡ l.keys ++ zip (drop l.at l.names) (drop l.at l.directions)
