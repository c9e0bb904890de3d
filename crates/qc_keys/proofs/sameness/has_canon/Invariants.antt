use Rattle.std.proofs.Common.{◌≡◌, drop}
use Rattle.std.specs.List.{list_any}
use Rattle.qc_data.specs.Order.{canon}
use Rattle.qc_keys.specs.Counts.{equal}
use Rattle.qc_keys.proofs.sameness.has_canon.Given as goal

abbrev pub invariant-loop-item : goal.invariant-loop-item
invariant-loop-item l =
    list_any (λ item. equal l.sought (canon item)) l.items
    ≡ list_any (λ item. equal l.sought (canon item)) (drop l.item-index l.items)
