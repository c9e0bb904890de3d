use Rattle.std.proofs.Common.{◌≡◌, ◌∷◌, take}
use Rattle.qc_oql_eval.proofs.rows.bound.Given as goal

abbrev pub invariant-loop-pair : goal.invariant-loop-pair
invariant-loop-pair l = l.made ≡ (l.name, l.value) ∷ take l.pair-index l.row
