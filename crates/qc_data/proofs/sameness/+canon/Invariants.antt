use Rattle.std.proofs.Common.{◌≡◌, take, map}
use Rattle.qc_data.specs.Order.{canon}
use Rattle.qc_containers.specs.Rising.{on_value}
use Rattle.qc_data.proofs.sameness.+canon.Given as goal

abbrev pub invariant-canon_fields-loop-pair : goal.invariant-canon_fields-loop-pair
invariant-canon_fields-loop-pair l = l.all ≡ map (on_value canon) (take l.pair-index l.pair-items)

abbrev pub invariant-canon_items-loop-item : goal.invariant-canon_items-loop-item
invariant-canon_items-loop-item l = l.all ≡ map canon (take l.item-index l.item-items)
