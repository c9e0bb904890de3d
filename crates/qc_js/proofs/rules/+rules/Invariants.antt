use Rattle.std.proofs.Common.{◌≡◌, drop, map}
use Rattle.qc_js.specs.WellFormed.{rule, all_rules}
use Rattle.qc_js.specs.inner.Steps.{IsFront}
use Rattle.qc_js.proofs.rules.+rules.Given as goal

-- what is left decides, and the scope at the start is a front
abbrev pub invariant-check_all-loop-s : goal.invariant-check_all-loop-s
invariant-check_all-loop-s l =
    (all_rules (map rule l.block) l.fn.scope.items ≡ all_rules (map rule (drop l.s-index l.s-items)) l.scope.items)
    × IsFront l.fn.scope.items l.scope.items
