use Rattle.std.proofs.Common.{◌≡◌, ◌≤◌, drop, length}
use Rattle.std.specs.Cmp.Lexicographic.{slice_cmp}
use Rattle.qc_data.specs.Order.{cmp, pair_cmp}
use Rattle.qc_data.proofs.order.+order.Given as goal

-- what is left decides
abbrev pub invariant-cmp_items-loop-at : goal.invariant-cmp_items-loop-at
invariant-cmp_items-loop-at l =
    record {
      within : l.at ≤ length l.others;
      left : slice_cmp cmp l.item-items l.others
          ≡ slice_cmp cmp (drop l.at l.item-items) (drop l.at l.others);
    }

abbrev pub invariant-cmp_fields-loop-at : goal.invariant-cmp_fields-loop-at
invariant-cmp_fields-loop-at l =
    record {
      within : l.at ≤ length l.others;
      left : slice_cmp pair_cmp l.pair-items l.others
          ≡ slice_cmp pair_cmp (drop l.at l.pair-items) (drop l.at l.others);
    }
