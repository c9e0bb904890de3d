use Rattle.std.proofs.Common.{◌≡◌, ◌++◌, drop, map}
use Rattle.qc_oql_nra.specs.OqlForms.{key_names}
use Rattle.qc_oql_nra.specs.OqlTrees.{key_tree}
use Rattle.qc_to_nra.proofs.key_names.names_of_keys.Given as goal

abbrev pub invariant-loop-at : goal.invariant-loop-at
invariant-loop-at l =
    key_names 0 (map (λ key. key.1) (map key_tree l.keys))
    ≡ l.made ++ key_names l.at (map (λ key. key.1) (map key_tree (drop l.at l.keys)))
