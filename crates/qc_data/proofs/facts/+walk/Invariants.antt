use Rattle.std.proofs.Common.{◌≡◌, drop, map}
use Rattle.qc_containers.specs.Rising.{on_value}
use Rattle.qc_data.specs.Facts.{named, rising, within64, all_true, all_named, all_values}
use Rattle.qc_data.proofs.facts.+walk.Given as goal

-- what is left decides
abbrev pub invariant-held_items-loop-item : goal.invariant-held_items-loop-item
invariant-held_items-loop-item l = record {
  names : all_true (map named l.item-items) ≡ all_true (map named (drop l.item-index l.item-items));
  records : all_true (map rising l.item-items) ≡ all_true (map rising (drop l.item-index l.item-items));
  integers : all_true (map within64 l.item-items) ≡ all_true (map within64 (drop l.item-index l.item-items));
}

abbrev pub invariant-held_fields-loop-pair : goal.invariant-held_fields-loop-pair
invariant-held_fields-loop-pair l = record {
  names : all_named (map (on_value named) l.pair-items)
      ≡ all_named (map (on_value named) (drop l.pair-index l.pair-items));
  records : all_values (map (on_value rising) l.pair-items)
      ≡ all_values (map (on_value rising) (drop l.pair-index l.pair-items));
  integers : all_values (map (on_value within64) l.pair-items)
      ≡ all_values (map (on_value within64) (drop l.pair-index l.pair-items));
}
