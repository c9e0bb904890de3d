use Rattle.std.proofs.Common.{◌≡◌, drop, map}
use Rattle.qc_data.specs.Facts.{all_true, all_values}
use Rattle.qc_containers.specs.Rising.{on_value}
use Rattle.qc_schema.specs.inner.Sound.{sound}
use Rattle.qc_schema.proofs.sound.+soundness.Given as goal

-- what is left decides
abbrev pub invariant-check_items-loop-item : goal.invariant-check_items-loop-item
invariant-check_items-loop-item l =
    all_true (map sound l.item-items) ≡ all_true (map sound (drop l.item-index l.item-items))

abbrev pub invariant-check_members-loop-pair : goal.invariant-check_members-loop-pair
invariant-check_members-loop-pair l =
    all_values (map (on_value sound) l.pair-items) ≡ all_values (map (on_value sound) (drop l.pair-index l.pair-items))
