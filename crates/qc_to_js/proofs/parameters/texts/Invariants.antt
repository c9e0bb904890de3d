use Rattle.std.proofs.Common.{◌≡◌, map, take}
use Rattle.qc_rt.specs.Laws.{NoMarkers}
use Rattle.qc_js.specs.declared.tree.Expr.TheVariants as tree
use Rattle.qc_to_js.proofs.parameters.texts.Given as goal

-- the texts of the names so far, which are no markers
abbrev pub invariant-loop-name : goal.invariant-loop-name
invariant-loop-name l = record {
  made : l.all ≡ map tree.Text (take l.name-index l.name-items);
  names : NoMarkers (take l.name-index l.name-items);
}
