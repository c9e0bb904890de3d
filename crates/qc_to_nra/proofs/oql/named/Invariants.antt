use Rattle.std.proofs.Common.{◌≡◌, drop}
use Rattle.qc_oql_nra.specs.HasNames.{are_names}
use Rattle.qc_to_nra.proofs.oql.named.Given as goal

-- what is left decides
abbrev pub invariant-loop-pair : goal.invariant-loop-pair
invariant-loop-pair l = are_names l.globals ≡ are_names (drop l.pair-index l.globals)
