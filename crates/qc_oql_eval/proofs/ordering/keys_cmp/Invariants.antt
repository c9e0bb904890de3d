use Rattle.std.proofs.Common.{◌≡◌, drop}
use Rattle.qc_oql_eval.specs.inner.SelectRows.{directions}
use Rattle.qc_oql_tree.specs.SelectMeaning.{keys_cmp}
use Rattle.qc_oql_eval.specs.inner.Columns.{keys_cmp_from}
use Rattle.qc_oql_eval.proofs.ordering.keys_cmp.Given as goal

abbrev pub invariant-loop-at : goal.invariant-loop-at
invariant-loop-at l =
    keys_cmp (directions l.keys) l.first l.second ≡ keys_cmp_from l.at (directions (drop l.at l.keys)) l.first l.second
