use Rattle.std.proofs.Common.{◌≡◌, length, drop}
use Rattle.qc_types.specs.Rows.{same_names, names}
use Rattle.qc_types.proofs.rows.is_same_names.Given as goal

abbrev pub invariant-loop-at : goal.invariant-loop-at
invariant-loop-at g l =
    record {
      long : length l.row ≡ length l.other;
      left : same_names (names l.row) (names l.other)
          ≡ same_names (names (drop l.at l.row)) (names (drop l.at l.other));
    }
