use Rattle.std.proofs.Common.{rules, arith, ◌∙◌, w64, to_z}
use Rattle.std.proofs.lemmas.Int.{ints}
use mir.Syntax.{w128}
use mir.Val.{SFits}
use Rattle.qc_ops.proofs.Folds.{plus}
use Rattle.qc_runtime.proofs.Integers.{fold_more_seen}
use Rattle.qc_runtime.proofs.aggregates.total.Goals as goal

pub loop-item-preserved : goal.loop-item-preserved
loop-item-preserved c =
    let fits : SFits w64 c.in_ok-n.n = search rules in
    record {
      left = c.loop-item.invariant.left ∙ fold_more_seen plus c.args.items.now c.item-item.result c.loop-item.item-index
          (to_z w128 c.loop-item.total-bits) c.in_ok-n.n _ c.item-item.is c.in_ok-n.ensures c.loop-item-test.true
          (omega (arith, ints));
      low = omega (arith, ints);
      high = omega (arith, ints);
    }
