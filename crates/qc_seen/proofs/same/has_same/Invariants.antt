use Rattle.std.proofs.Common.{◌≡◌, drop, map}
use Rattle.std.specs.List.{list_any}
use Rattle.qc_bags.specs.Copies.{same}
use Rattle.qc_rt.specs.Seen.{seen}
use Rattle.qc_seen.proofs.same.has_same.Given as goal

abbrev pub invariant-loop-item : goal.invariant-loop-item
invariant-loop-item l =
    list_any (same (seen l.a)) (map seen l.items) ≡ list_any (same (seen l.a)) (map seen (drop l.item-index l.items))
