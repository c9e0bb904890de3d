use Rattle.std.proofs.Common.{◌≡◌, drop, map}
use Rattle.qc_js.specs.Held.{all_true, holds_expr}
use Rattle.qc_js.proofs.facts.+expr.Given as goal

-- what is left decides
abbrev pub invariant-held_all-loop-e : goal.invariant-held_all-loop-e
invariant-held_all-loop-e l =
    all_true (map holds_expr l.all) ≡ all_true (map holds_expr (drop l.e-index l.all))
