use Rattle.std.proofs.Common.{◌≡◌, take}
use Rattle.qc_containers.specs.Rising.{Rising}
use Rattle.qc_types.specs.Joins.{join, shared}
use Rattle.qc_types.specs.Rows.{names}
use Rattle.qc_types.proofs.joining.+join.Given as goal

-- the fields so far
abbrev pub invariant-join_rows-loop-pair : goal.invariant-join_rows-loop-pair
invariant-join_rows-loop-pair l = record {
  whole : l.pair-items ≡ l.ts;
  rising : Rising l.pair-items;
  upto : l.row ≡ shared (join l.index) (names (take l.pair-index l.pair-items)) l.ts l.us;
}
