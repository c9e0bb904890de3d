use Rattle.std.proofs.Common.{◌≡◌, take, map}
use Rattle.qc_rt.specs.Seen.{seen}
use Rattle.qc_seen.proofs.twins.decoded.Given as goal

abbrev pub invariant-loop-item : goal.invariant-loop-item
invariant-loop-item l = l.all ≡ map seen (take l.item-index l.items)
