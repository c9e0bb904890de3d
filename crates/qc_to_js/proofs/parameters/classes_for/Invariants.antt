use Rattle.std.proofs.Common.{◌≡◌, map, reverse, take}
use Rattle.qc_rt.specs.Laws.{NoMarkers}
use Rattle.qc_js.specs.declared.tree.Expr.TheVariants as tree
use Rattle.qc_to_js.specs.inner.Written.{classes_under}
use Rattle.qc_to_js.proofs.parameters.classes_for.Given as goal

-- the texts of the class and of those so far that are below it, which are no markers
abbrev pub invariant-loop-at : goal.invariant-loop-at
invariant-loop-at l = record {
  made : l.all ≡ map tree.Text (classes_under l.classes l.name (take l.at (reverse l.classes)));
  names : NoMarkers (classes_under l.classes l.name (take l.at (reverse l.classes)));
}
