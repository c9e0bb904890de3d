use Rattle.std.proofs.Common.{◌≡◌, length}
use Rattle.qc_containers.specs.Pairs.{lookup}
use Rattle.qc_containers.specs.Rising.{Rising}
use Rattle.qc_types.proofs.rows.value_of.Given as goal

-- the name stands in what is left, if anywhere
abbrev pub invariant-loop-pairs : goal.invariant-loop-pairs
invariant-loop-pairs g l = record { rising : Rising l.pairs; left : lookup l.name l.row ≡ lookup l.name l.pairs }

abbrev pub decreases-loop-pairs : goal.decreases-loop-pairs
decreases-loop-pairs g l = length l.pairs
