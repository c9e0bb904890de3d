use Rattle.std.proofs.Common.{sym}
use Rattle.qc_types.proofs.index.ClassIndex.at.Goals as goal

pub returns-in-Some : goal.returns-in-Some
returns-in-Some c = sym c.in-Some.ensures.def_is

pub returns-in-None : goal.returns-in-None
returns-in-None c = sym c.in-None.ensures
