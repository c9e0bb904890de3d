use Rattle.std.proofs.Common.{◌≡◌, drop}
use Rattle.qc_data.specs.Kinds.{as_coll}
use Rattle.qc_data.specs.Outcome.{gather}
use Rattle.qc_data.proofs.Outcomes.{gather_from}
use Rattle.qc_ops.proofs.bags.flat.Given as goal

abbrev pub invariant-loop-item : goal.invariant-loop-item
invariant-loop-item l = gather as_coll l.items ≡ gather_from as_coll l.all (drop l.item-index l.items)
