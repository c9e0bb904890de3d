use Rattle.std.proofs.Common.{◌≡◌, take, map}
use Rattle.qc_containers.specs.Rising.{on_value}
use Rattle.qc_schema.specs.TypeText.{tree_of}
use Rattle.qc_schema.proofs.describing.+described.Given as goal

abbrev pub invariant-row_tree-loop-pair : goal.invariant-row_tree-loop-pair
invariant-row_tree-loop-pair l = l.all ≡ map (on_value tree_of) (take l.pair-index l.pair-items)
