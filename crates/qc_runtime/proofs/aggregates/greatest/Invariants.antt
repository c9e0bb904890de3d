use Rattle.std.proofs.Common.{◌≡◌, drop, map}
use Rattle.std.specs.Int.{int_max}
use Rattle.qc_data.specs.Kinds.{as_int}
use Rattle.qc_data.specs.Outcome.{Value, and_then, each}
use Rattle.qc_ops.specs.Numbers.{greatest_of}
use Rattle.qc_ops.proofs.Folds.{fold_ints, extreme}
use Rattle.qc_rt.specs.Seen.{seen}
use Rattle.qc_runtime.proofs.aggregates.greatest.Given as goal

abbrev pub invariant-loop-item : goal.invariant-loop-item
invariant-loop-item l =
    and_then (each as_int (map seen l.items)) (λ ns. Value (greatest_of ns))
    ≡ fold_ints (extreme int_max) l.greatest (map seen (drop l.item-index l.items))
