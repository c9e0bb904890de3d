use Rattle.std.proofs.Common.{◌≡◌, ◌++◌, drop}
use Rattle.qc_data.specs.declared.data.Datum.{Datum}
use Rattle.qc_seen.specs.Gathering.{gathered, rows_beside}
use Rattle.qc_runtime.proofs.grouping.gathered.Given as goal

abbrev pub invariant-loop-at : goal.invariant-loop-at
invariant-loop-at l =
    (c : Datum)
    → rows_beside c l.canons l.rows ≡ gathered c l.all ++ rows_beside c (drop l.at l.canons) (drop l.at l.rows)
