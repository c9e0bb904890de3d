use Rattle.std.proofs.Common.{length}
use Rattle.qc_route.proofs.routing.+along.Given as goal

abbrev pub decreases-along : goal.decreases-along
decreases-along l = length l.words.now
