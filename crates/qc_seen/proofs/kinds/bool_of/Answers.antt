use Rattle.qc_rt.proofs.SeenLaws.{bool_value}
use Rattle.qc_seen.proofs.kinds.bool_of.Goals as goal

pub returns-in-Bool : goal.returns-in-Bool
returns-in-Bool c = bool_value c.args.j.now c.in-Bool.b c.in-Bool.is
