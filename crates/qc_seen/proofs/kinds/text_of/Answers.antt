use Rattle.qc_rt.proofs.SeenLaws.{text_value}
use Rattle.qc_seen.proofs.kinds.text_of.Goals as goal

pub returns-in-Text : goal.returns-in-Text
returns-in-Text c = text_value c.args.j.now c.in-Text.text c.in-Text.is
