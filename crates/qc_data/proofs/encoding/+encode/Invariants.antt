use Rattle.std.proofs.Common.{◌≡◌, take, map}
use Rattle.qc_data.specs.Encoding.{enc}
use Rattle.qc_containers.specs.Rising.{on_value}
use Rattle.qc_data.proofs.encoding.+encode.Given as goal

abbrev pub invariant-enc_fields-loop-pair : goal.invariant-enc_fields-loop-pair
invariant-enc_fields-loop-pair l = l.all ≡ map (on_value enc) (take l.pair-index l.pair-items)

abbrev pub invariant-enc_items-loop-item : goal.invariant-enc_items-loop-item
invariant-enc_items-loop-item l = l.all ≡ map enc (take l.item-index l.item-items)
