use Rattle.std.proofs.Common.{◌≡◌, ◌++◌, take}
use Rattle.qc_ops.specs.inner.Columns.{behind}
use Rattle.qc_oql_tree.specs.SelectMeaning.{rows_with}
use Rattle.qc_oql_eval.proofs.rows.spread.Given as goal

abbrev pub invariant-loop-member : goal.invariant-loop-member
invariant-loop-member l = l.rows ≡ l.initial.rows ++ rows_with l.name l.row (behind (take l.member-index l.members))
