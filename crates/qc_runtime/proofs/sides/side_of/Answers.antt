use Rattle.std.proofs.Common.{subst}
use Rattle.qc_runtime.specs.inner.Giving.{GivesSideIn}
use Rattle.qc_rt.specs.JsonKinds.{side_in}
use Rattle.qc_runtime.proofs.Parts.{side_gives}
use Rattle.qc_runtime.proofs.sides.side_of.Goals as goal

pub returns-in-Object : goal.returns-in-Object
returns-in-Object c =
    side_gives c.args.j.now c.in-Object.members c.side_in.result c.in-Object.is
    (subst (λ l. GivesSideIn (side_in l) c.side_in.result) c.as_slice.ensures.pairs c.side_in.ensures)
