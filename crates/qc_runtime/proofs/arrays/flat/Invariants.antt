use Rattle.std.proofs.Common.{◌≡◌, drop, map}
use Rattle.qc_data.specs.Kinds.{as_coll}
use Rattle.qc_data.specs.Outcome.{gather}
use Rattle.qc_data.proofs.Outcomes.{gather_from}
use Rattle.qc_rt.specs.Seen.{seen}
use Rattle.qc_runtime.proofs.arrays.flat.Given as goal

abbrev pub invariant-loop-item : goal.invariant-loop-item
invariant-loop-item l =
    gather as_coll (map seen l.items) ≡ gather_from as_coll (map seen l.all) (map seen (drop l.item-index l.items))
