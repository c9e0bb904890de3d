use Rattle.std.proofs.Common.{◌≡◌, ◌++◌, option_map}
use Rattle.std.specs.Vec.Iter.{into_iter_items}
use Rattle.serde_json.specs.View.{items_view, members_view}
use Rattle.qc_schema.specs.JsonReading.{of_items, of_members}
use Rattle.qc_containers.specs.Rising.{Rising}
use Rattle.qc_schema.proofs.Converted.{keyed}
use Rattle.qc_containers.proofs.Appending.{names}
use Rattle.qc_schema.proofs.reading.+convert.Given as goal

abbrev pub invariant-convert_items-loop-item : goal.invariant-convert_items-loop-item
invariant-convert_items-loop-item l =
    of_items (items_view l.fn.items.items) ≡ option_map (λ js. l.all ++ js)
    (of_items (items_view (into_iter_items l.item-iterator)))

abbrev pub invariant-convert_members-loop-key : goal.invariant-convert_members-loop-key
invariant-convert_members-loop-key l = record {
  rising : Rising (names l.all ++ keyed l.key-iterator);
  done : of_members (members_view l.fn.members.entries)
      ≡ option_map (λ ms. l.all ++ ms) (of_members (members_view l.key-iterator));
}
