use Rattle.std.proofs.Common.{◌≡◌, drop}
use Rattle.qc_nnrc.specs.Variables.{look}
use Rattle.qc_nnrc.proofs.bindings.Bindings.get.Given as goal

-- what is left decides
abbrev pub invariant-loop-pair : goal.invariant-loop-pair
invariant-loop-pair g l = look l.variable l.pair-items ≡ look l.variable (drop l.pair-index l.pair-items)
