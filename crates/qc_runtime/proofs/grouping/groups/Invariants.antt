use Rattle.std.proofs.Common.{◌≡◌, drop, map, take}
use Rattle.std.specs.Prelude.{◌==◌, zip}
use Rattle.qc_data.specs.Order.{canon}
use Rattle.qc_data.specs.Outcome.{alone, each}
use Rattle.qc_data.proofs.Outcomes.{gather_from}
use Rattle.qc_keys.specs.Counts.{Tallies}
use Rattle.qc_bags.specs.Copies.{kept_by}
use Rattle.qc_ops.specs.Bags.{firsts}
use Rattle.qc_ops.specs.Grouping.{group_of}
use Rattle.qc_rt.specs.Seen.{seen}
use Rattle.qc_runtime.proofs.grouping.groups.Given as goal

abbrev pub invariant-loop-at : goal.invariant-loop-at
invariant-loop-at l = record {
  counted : Tallies l.seen (map canon (take l.at l.marks));
  made : each (group_of l.g (zip (map seen l.keys) (map seen l.rows))) (firsts (map seen l.keys))
      ≡ gather_from (λ key. alone (group_of l.g (zip (map seen l.keys) (map seen l.rows)) key)) (map seen l.all)
      (kept_by (λ k key. k == 1) (take l.at (map seen l.keys)) (drop l.at (map seen l.keys)));
}
