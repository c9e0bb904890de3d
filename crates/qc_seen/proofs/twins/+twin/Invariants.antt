use Rattle.std.proofs.Common.{◌≡◌, ◌++◌, take, drop, map}
use Rattle.qc_containers.specs.Rising.{on_value}
use Rattle.qc_rt.specs.Seen.{seen}
use Rattle.qc_rt.specs.Seen.{fields_seen}
use Rattle.qc_seen.specs.Twins.{numbered, twin}
use Rattle.qc_seen.proofs.twins.+twin.Given as goal

abbrev pub invariant-twins-loop-item : goal.invariant-twins-loop-item
invariant-twins-loop-item l = l.all ≡ map twin (map seen (take l.item-index l.items))

abbrev pub invariant-member_twins-loop-at : goal.invariant-member_twins-loop-at
invariant-member_twins-loop-at l =
    numbered 0 (map (on_value twin) (fields_seen l.pair-items))
    ≡ l.all ++ numbered l.at (map (on_value twin) (fields_seen (drop l.at l.pair-items)))
