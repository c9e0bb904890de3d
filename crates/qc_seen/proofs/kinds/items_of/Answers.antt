use Rattle.qc_rt.proofs.SeenLaws.{items_value}
use Rattle.qc_seen.proofs.kinds.items_of.Goals as goal

pub returns-in-Array : goal.returns-in-Array
returns-in-Array c = items_value c.args.j.now c.in-Array.items c.in-Array.is
