use Rattle.std.proofs.Common.{reverse}
use Rattle.qc_types.proofs.Indexing.{met_again}
use Rattle.qc_types.proofs.index.ClassIndex.of.Goals as goal

pub returns-in-Err-clause-bad : goal.returns-in-Err-clause-bad
returns-in-Err-clause-bad c h =
    met_again (reverse c.args.defs.items) c.loop-def.left.items c.pop.new.self.items c.in-Some.def c.loop-def.index
    c.in-Some.ensures.items c.loop-def.invariant (c.in-Err.ensures.bad h)
