use Rattle.std.proofs.Common.{length}
use Rattle.qc_oql_eval.proofs.query.+defined.Given as goal

abbrev pub decreases-defined : goal.decreases-defined
decreases-defined l = length l.defines.now
