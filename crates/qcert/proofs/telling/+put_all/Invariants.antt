use Rattle.std.proofs.Common.{length}
use Rattle.qcert.proofs.telling.+put_all.Given as goal

-- proposed from what the function passes where it calls itself
abbrev pub decreases-put_all : goal.decreases-put_all
decreases-put_all g l = length l.pieces.now
