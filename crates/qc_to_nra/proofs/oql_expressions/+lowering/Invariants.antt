use Rattle.std.proofs.Common.{◌≡◌, ◌++◌, IsTrue, drop, map, take}
use Rattle.qc_data.specs.Facts.{all_true}
use Rattle.qc_nra.specs.declared.tree.Nra.TheVariants as nra
use Rattle.qc_ops.specs.declared.op.Unary.TheVariants as one
use Rattle.qc_oql_nra.specs.HasNames.{has_names, key_has_names, named_has_names}
use Rattle.qc_oql_nra.specs.OqlForms.{key_fields, rows_tree, with_sources}
use Rattle.qc_oql_nra.specs.OqlTrees.{key_tree, named_tree, oql_tree}
use Rattle.qc_to_nra.specs.inner.Scopes.{names_of}
use Rattle.qc_to_nra.proofs.oql_expressions.+lowering.Given as goal

-- what is made, and that what is left has names alone
abbrev pub invariant-structured-loop-field : goal.invariant-structured-loop-field
invariant-structured-loop-field l = record {
  made : map (λ f. (f.0, f.1 (names_of l.scope))) (map named_tree l.fields)
      ≡ l.made.items ++ map (λ f. (f.0, f.1 (names_of l.scope))) (map named_tree (drop l.field-index l.fields));
  names : IsTrue (all_true (map named_has_names (drop l.field-index l.fields)));
}

abbrev pub invariant-collected-loop-member : goal.invariant-collected-loop-member
invariant-collected-loop-member l = record {
  made : map (λ member. member (names_of l.scope)) (map oql_tree l.members)
      ≡ l.made.items ++ map (λ member. member (names_of l.scope)) (map oql_tree (drop l.member-index l.members));
  names : IsTrue (all_true (map has_names (drop l.member-index l.members)));
}

abbrev pub invariant-fields_of_keys-loop-at : goal.invariant-fields_of_keys-loop-at
invariant-fields_of_keys-loop-at l = record {
  made : key_fields 0 (map key_tree l.keys) (names_of l.scope)
      ≡ l.made.items ++ key_fields l.at (map key_tree (drop l.at l.keys)) (names_of l.scope);
  names : IsTrue (all_true (map key_has_names (drop l.at l.keys)));
}

abbrev pub invariant-rows_of-loop-at : goal.invariant-rows_of-loop-at
invariant-rows_of-loop-at l = record {
  made : rows_tree (map named_tree l.sources) (names_of l.scope) (nra.Unary one.Single nra.Env)
      ≡ rows_tree (map named_tree (drop l.at l.sources))
      (with_sources (map named_tree (take l.at l.sources)) (names_of l.scope)) l.rows;
  names : IsTrue (all_true (map named_has_names (drop l.at l.sources)));
}
