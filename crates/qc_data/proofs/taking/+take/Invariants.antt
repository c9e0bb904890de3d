use Rattle.std.proofs.Common.{◌≡◌, ◌++◌, map, option_map}
use Rattle.std.specs.Vec.Iter.{into_iter_items}
use Rattle.qc_containers.specs.Rising.{Rising, on_value}
use Rattle.qc_data.specs.Decoding.{dec, items_of, fields_of}
use Rattle.qc_containers.proofs.Appending.{names}
use Rattle.qc_data.proofs.Depths.{NoDeeper}
use Rattle.qc_data.proofs.taking.+take.Given as goal

abbrev pub invariant-take_items-loop-item : goal.invariant-take_items-loop-item
invariant-take_items-loop-item l =
    items_of (map dec l.fn.items) ≡ option_map (λ ds. l.all ++ ds)
    (items_of (map dec (into_iter_items l.item-iterator)))

abbrev pub invariant-take_fields-loop-text : goal.invariant-take_fields-loop-text
invariant-take_fields-loop-text l = record {
  rising : Rising (names l.all ++ names (into_iter_items l.text-iterator));
  done : fields_of (map (on_value dec) l.fn.members)
      ≡ option_map (λ fs. l.all ++ fs) (fields_of (map (on_value dec) (into_iter_items l.text-iterator)));
  depth : NoDeeper (into_iter_items l.text-iterator) l.fn.members;
}
