use Rattle.std.proofs.Common.{◌∙◌, sym}
use Rattle.qc_types.proofs.Paths.{met}
use Rattle.qc_types.proofs.index.ClassIndex.meet.Goals as goal

pub returns : goal.returns
returns c =
    let i = c.loop-at.invariant in
    met c.args.self.now c.loop-at.at c.args.b i.within (sym c.loop-at-test.ensures) ∙ sym i.left
