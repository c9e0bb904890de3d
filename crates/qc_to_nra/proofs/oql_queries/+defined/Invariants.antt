use Rattle.std.proofs.Common.{length}
use Rattle.qc_to_nra.proofs.oql_queries.+defined.Given as goal

abbrev pub decreases-defined : goal.decreases-defined
decreases-defined l = length l.defines.now
