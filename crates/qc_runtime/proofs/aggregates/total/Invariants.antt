use Rattle.std.proofs.Common.{◌≡◌, drop, map, pos, ◌≤ℤ◌, ◌^◌, ◌*◌, neg_ℤ}
use Rattle.qc_data.specs.Kinds.{as_int, total}
use Rattle.qc_data.specs.Outcome.{Value, and_then, each}
use Rattle.qc_ops.proofs.Folds.{fold_ints, plus}
use Rattle.qc_rt.specs.Seen.{seen}
use Rattle.qc_runtime.proofs.aggregates.total.Given as goal

abbrev pub invariant-loop-item : goal.invariant-loop-item
invariant-loop-item l = record {
  left : and_then (each as_int (map seen l.items)) (λ ns. Value (total ns))
      ≡ fold_ints plus l.total (map seen (drop l.item-index l.items));
  low : neg_ℤ (pos (2 ^ 63 * l.item-index)) ≤ℤ l.total;
  high : l.total ≤ℤ pos (2 ^ 63 * l.item-index);
}
