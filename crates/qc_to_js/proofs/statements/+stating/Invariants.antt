use Rattle.std.proofs.Common.{take}
use Rattle.qc_to_js.specs.inner.Kept.{AreStmts}
use Rattle.qc_to_js.proofs.statements.+stating.Given as goal

abbrev pub invariant-statements-loop-a : goal.invariant-statements-loop-a
invariant-statements-loop-a l = AreStmts l.classes (take l.a-index l.all) l.made
