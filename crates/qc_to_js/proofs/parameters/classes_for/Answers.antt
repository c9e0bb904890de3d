use Rattle.std.proofs.Common.{◌∙◌, ap, map, reverse, subst, sym}
use Rattle.qc_rt.specs.Laws.{NoMarkers}
use Rattle.qc_js.specs.declared.tree.Expr.TheVariants as tree
use Rattle.qc_to_js.specs.inner.Written.{classes_under}
use Rattle.qc_to_js.proofs.OperatorForms.{class_added, names_added, none_taken}
use Rattle.qc_to_js.proofs.parameters.classes_for.Goals as goal
use Rattle.qc_to_js.proofs.parameters.classes_for.Goals.{in-Some+in_ok-add_class, in_default}

pub loop-at-preserved : goal.loop-at-preserved
loop-at-preserved c =
    let classes = c.args.classes.now in
    let name = c.args.name.now in
    elim c.match-at.branch [
      | in-Some+in_ok-add_class w ↦ record {
        made = class_added classes name (reverse classes) c.loop-at.at w.in-Some.class.now (sym w.in-Some.ensures.value)
            c.loop-at.all c.match-at.all c.loop-at.invariant.made (w.all-is ∙ w.in_ok-add_class.ensures.made);
        names = names_added classes name (reverse classes) c.loop-at.at w.in-Some.class.now
            (sym w.in-Some.ensures.value)
            c.loop-at.invariant.names w.in_ok-add_class.ensures.name;
      }
      | in_default w ↦
          let none = none_taken (reverse classes) c.loop-at.at (sym w.in_default.ensures.value) in
          record {
            made = w.all-is ∙ c.loop-at.invariant.made
                ∙ ap (λ ds. map tree.Text (classes_under classes name ds)) (sym none);
            names = subst (λ ds. NoMarkers (classes_under classes name ds)) (sym none) c.loop-at.invariant.names;
          }
    ]
