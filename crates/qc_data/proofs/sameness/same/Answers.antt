use Rattle.qc_data.proofs.Ties.{equal_is}
use Rattle.qc_data.proofs.sameness.same.Goals as goal

pub returns : goal.returns
returns c = equal_is c.in_ok-a.a c.in_ok-b.b _ _ c.eq.result c.eq.ensures c.in_ok-a.ensures c.in_ok-b.ensures
