use Rattle.std.proofs.Common.{◌≡◌, vec_len}
use Rattle.qc_to_nnrs.specs.inner.Statements as trees
use Rattle.qc_to_nnrs.proofs.steps.wrap.Given as goal

abbrev pub invariant-loop-step : goal.invariant-loop-step
invariant-loop-step l = trees.wrap l.steps.items l.made ≡ trees.wrap l.fn.steps.items l.fn.s

abbrev pub decreases-loop-step : goal.decreases-loop-step
decreases-loop-step l = vec_len l.steps
