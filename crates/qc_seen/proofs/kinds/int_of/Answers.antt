use Rattle.std.proofs.Common.{rules, ◌∙◌}
use Rattle.qc_rt.proofs.SeenLaws.{int_value}
use Rattle.qc_seen.proofs.kinds.int_of.Goals as goal

pub returns-in-Int : goal.returns-in-Int
returns-in-Int c = int_value c.args.j.now c.in-Int.n c.in-Int.is ∙ search rules
