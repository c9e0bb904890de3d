use Rattle.std.proofs.Common.{sym, ◌∙◌}
use Rattle.qc_data.proofs.Total.{cmp_total}
use Rattle.qc_data.proofs.Ties.{cmp_only}
use Rattle.qc_data.proofs.order.cmp.Goals as goal

pub returns-clause-only : goal.returns-clause-only
returns-clause-only c = λ tied. cmp_only c.args.a.now c.args.b.now (sym c.compare.ensures ∙ tied)

pub returns-clause-total : goal.returns-clause-total
returns-clause-total c = cmp_total
