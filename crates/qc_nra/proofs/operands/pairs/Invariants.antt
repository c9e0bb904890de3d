use Rattle.std.proofs.Common.{◌≡◌, drop}
use Rattle.qc_data.specs.Outcome.{gather}
use Rattle.qc_nra.specs.Forms.{beside}
use Rattle.qc_nra.specs.inner.Added.{all_added}
use Rattle.qc_nra.proofs.operands.pairs.Given as goal

abbrev pub invariant-loop-item : goal.invariant-loop-item
invariant-loop-item l =
    gather (beside l.second) l.first ≡ all_added (beside l.second) l.all (drop l.item-index l.first)
