use Rattle.std.proofs.Common.{◌≡◌, drop, map}
use Rattle.qc_data.specs.Facts.{all_values}
use Rattle.qc_containers.specs.Rising.{on_value}
use Rattle.qc_types.specs.Schemas.{lists}
use Rattle.qc_types.proofs.goodness.+listing.Given as goal

-- what is left decides
abbrev pub invariant-are_listed-loop-pair : goal.invariant-are_listed-loop-pair
invariant-are_listed-loop-pair l = record {
  whole : l.pair-items ≡ l.row;
  left : all_values (map (on_value (lists l.index)) l.row)
      ≡ all_values (map (on_value (lists l.index)) (drop l.pair-index l.pair-items));
}
