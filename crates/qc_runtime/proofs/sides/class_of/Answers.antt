use Rattle.std.proofs.Common.{subst}
use Rattle.qc_runtime.specs.inner.Giving.{GivesClassIn}
use Rattle.qc_rt.specs.JsonKinds.{class_in}
use Rattle.qc_runtime.proofs.Parts.{class_gives}
use Rattle.qc_runtime.proofs.sides.class_of.Goals as goal

pub returns-in-Object : goal.returns-in-Object
returns-in-Object c =
    class_gives c.args.j.now c.in-Object.members c.class_in.result c.in-Object.is
    (subst (λ l. GivesClassIn (class_in l) c.class_in.result) c.as_slice.ensures.pairs c.class_in.ensures)
