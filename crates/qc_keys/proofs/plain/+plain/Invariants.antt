use Rattle.std.proofs.Common.{◌≡◌, drop, map}
use Rattle.qc_containers.specs.Rising.{on_value}
use Rattle.qc_keys.specs.inner.Plain.{all_plain, plain}
use Rattle.qc_keys.proofs.plain.+plain.Given as goal

-- what is left decides
abbrev pub invariant-are_plain-loop-pair : goal.invariant-are_plain-loop-pair
invariant-are_plain-loop-pair l =
    all_plain (map (on_value plain) l.pair-items) ≡ all_plain (map (on_value plain) (drop l.pair-index l.pair-items))
