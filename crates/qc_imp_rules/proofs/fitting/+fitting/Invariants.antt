use Rattle.std.proofs.Common.{◌+◌, ◌*◌, map}
use Rattle.std.specs.Prelude.{sum}
use Rattle.qc_imp.specs.Sizes.{stmt_size}
use Rattle.qc_imp_rules.proofs.fitting.+fitting.Given as goal

-- statements are smaller than the statement that has them, and those behind the first one than all
abbrev pub decreases-fits : goal.decreases-fits
decreases-fits l = 2 * stmt_size l.s.now

abbrev pub decreases-all_fit : goal.decreases-all_fit
decreases-all_fit l = 2 * sum (map stmt_size l.statements.now) + 1

abbrev pub decreases-rest_fit : goal.decreases-rest_fit
decreases-rest_fit l = 2 * sum (map stmt_size l.rest.now) + 2
