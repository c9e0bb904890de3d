use Rattle.std.proofs.Common.{◌≡◌, map, take}
use Rattle.qc_rt.specs.Laws.{NoMarkers}
use Rattle.qc_js.specs.declared.tree.Expr.TheVariants as tree
use Rattle.qc_to_js.proofs.parameters.key_names.Given as goal

-- the texts of the names so far, which are no markers
abbrev pub invariant-loop-key : goal.invariant-loop-key
invariant-loop-key l = record {
  made : l.all ≡ map (λ key. tree.Text key.0) (take l.key-index l.key-items);
  names : NoMarkers (map (λ key. key.0) (take l.key-index l.key-items));
}
