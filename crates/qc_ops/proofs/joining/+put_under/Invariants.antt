use Rattle.std.proofs.Common.{length}
use Rattle.qc_ops.proofs.joining.+put_under.Given as goal

abbrev pub decreases-put_under : goal.decreases-put_under
decreases-put_under l = length l.fields.now
