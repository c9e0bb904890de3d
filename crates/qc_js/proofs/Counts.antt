-- How many results a list has.
use Rattle.std.proofs.Common.{◌≡◌, List, map, length}
use Rattle.std.proofs.lemmas.List.{length-map}
use Rattle.qc_js.specs.WellFormed.{Scope, expr_fits}
use Rattle.qc_js.specs.declared.tree.Expr.{Expr}

pub same_count : (s : Scope) (es : List Expr) → length (map (expr_fits s) es) ≡ length es
same_count s es = length-map es (expr_fits s)
