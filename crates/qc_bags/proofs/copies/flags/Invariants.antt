use Rattle.std.proofs.Common.{◌≡◌, ◌++◌, [], map, take, drop}
use Rattle.qc_data.specs.Order.{canon}
use Rattle.qc_keys.specs.Counts.{Tallies}
use Rattle.qc_bags.specs.Copies.{copies, flags_by, keeps}
use Rattle.qc_bags.proofs.copies.flags.Given as goal

abbrev pub invariant-loop-item : goal.invariant-loop-item
invariant-loop-item l = record {
  seen : Tallies l.seen (map canon (take l.item-index l.items));
  told : flags_by (λ k item. keeps l.rule k (copies item l.elsewhere)) [] l.items
      ≡ l.all.items ++ flags_by (λ k item. keeps l.rule k (copies item l.elsewhere)) (take l.item-index l.items)
      (drop l.item-index l.items);
}
