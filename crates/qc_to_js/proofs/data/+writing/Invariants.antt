use Rattle.std.proofs.Common.{◌≡◌, drop, map, take}
use Rattle.qc_containers.specs.Rising.{on_value}
use Rattle.qc_to_js.specs.inner.Written.{constant, record_from, record_of}
use Rattle.qc_to_js.proofs.data.+writing.Given as goal

abbrev pub invariant-array-loop-item : goal.invariant-array-loop-item
invariant-array-loop-item l = l.all ≡ map constant (take l.item-index l.item-items)

-- what is left makes the whole of what is there
abbrev pub invariant-record-loop-pair : goal.invariant-record-loop-pair
invariant-record-loop-pair l =
    record_of (map (on_value constant) l.pair-items)
    ≡ record_from l.all (map (on_value constant) (drop l.pair-index l.pair-items))
