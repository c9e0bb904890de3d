use Rattle.std.proofs.Common.{◌≡◌, drop}
use Rattle.qc_js.specs.WellFormed.{class_of}
use Rattle.qc_js.proofs.scope.class_of.Given as goal

abbrev pub invariant-loop-variable : goal.invariant-loop-variable
invariant-loop-variable l = class_of l.x l.scope ≡ class_of l.x (drop l.variable-index l.scope)
