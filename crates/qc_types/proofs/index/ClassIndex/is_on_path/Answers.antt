use Rattle.qc_types.proofs.Paths.{on_found}
use Rattle.qc_types.proofs.index.ClassIndex.is_on_path.Goals as goal

pub returns : goal.returns
returns c =
    let i = c.loop-at.invariant in
    on_found c.args.self.now i.names c.args.above c.loop-at.at i.within _ i.left c.loop-at-test.false
