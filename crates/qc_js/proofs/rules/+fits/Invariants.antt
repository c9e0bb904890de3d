use Rattle.std.proofs.Common.{◌≡◌, drop, map}
use Rattle.qc_js.specs.Held.{all_true}
use Rattle.qc_js.specs.WellFormed.{expr_fits}
use Rattle.qc_js.proofs.rules.+fits.Given as goal

-- what is left decides
abbrev pub invariant-all_fit-loop-e : goal.invariant-all_fit-loop-e
invariant-all_fit-loop-e l =
    all_true (map (expr_fits l.scope) l.all) ≡ all_true (map (expr_fits l.scope) (drop l.e-index l.e-items))
