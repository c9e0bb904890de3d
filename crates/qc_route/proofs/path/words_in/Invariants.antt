use Rattle.std.proofs.Common.{◌≤◌}
use Rattle.qc_route.proofs.Pieces.{HasReadTo}
use Rattle.qc_route.proofs.path.words_in.Given as goal

abbrev pub invariant-loop-at : goal.invariant-loop-at
invariant-loop-at l = (l.from ≤ l.at) × HasReadTo l.text l.words.items l.from l.at
