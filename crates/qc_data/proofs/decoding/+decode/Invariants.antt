use Rattle.std.proofs.Common.{◌≡◌, ◌++◌, drop, map, option_map}
use Rattle.qc_containers.specs.Rising.{Rising, on_value}
use Rattle.qc_data.specs.Decoding.{dec, items_of, fields_of}
use Rattle.qc_containers.proofs.Appending.{names}
use Rattle.qc_data.proofs.decoding.+decode.Given as goal

abbrev pub invariant-decode_items-loop-item : goal.invariant-decode_items-loop-item
invariant-decode_items-loop-item l =
    items_of (map dec l.item-items) ≡ option_map (λ ds. l.all ++ ds)
    (items_of (map dec (drop l.item-index l.item-items)))

abbrev pub invariant-decode_fields-loop-pair : goal.invariant-decode_fields-loop-pair
invariant-decode_fields-loop-pair l = record {
  rising : Rising (names l.all ++ names (drop l.pair-index l.pair-items));
  done : fields_of (map (on_value dec) l.pair-items)
      ≡ option_map (λ fs. l.all ++ fs) (fields_of (map (on_value dec) (drop l.pair-index l.pair-items)));
}
