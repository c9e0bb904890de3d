use Rattle.std.proofs.Common.{◌≡◌, drop, map, take}
use Rattle.std.specs.Prelude.{◌==◌, zip}
use Rattle.qc_data.specs.Order.{canon}
use Rattle.qc_data.specs.Outcome.{alone, each}
use Rattle.qc_data.proofs.Outcomes.{gather_from}
use Rattle.qc_keys.specs.Counts.{Tallies}
use Rattle.qc_ops.specs.Bags.{firsts, kept_by}
use Rattle.qc_ops.specs.Grouping.{group_of}
use Rattle.qc_ops.proofs.grouping.groups.Given as goal

abbrev pub invariant-loop-at : goal.invariant-loop-at
invariant-loop-at l = record {
  seen : Tallies l.seen (map canon (take l.at l.keys));
  made : each (group_of l.g (zip l.keys l.rows)) (firsts l.keys)
      ≡ gather_from (λ key. alone (group_of l.g (zip l.keys l.rows) key)) l.all
      (kept_by (λ k key. k == 1) (take l.at l.keys) (drop l.at l.keys));
}
