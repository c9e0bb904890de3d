use Rattle.std.proofs.Common.{◌≡◌, take, map}
use Rattle.qc_data.specs.Outcome.{alone, each}
use Rattle.qc_data.proofs.Outcomes.{gather_from}
use Rattle.qc_ops.specs.Operands.{as_rec}
use Rattle.qc_rt.specs.Seen.{seen}
use Rattle.qc_runtime.specs.inner.Columns.{keyed_row, keyed_rows, row_fields}
use Rattle.std.proofs.Common.{drop}
use Rattle.qc_runtime.proofs.columns.with_values.Given as goal

abbrev pub invariant-loop-tree : goal.invariant-loop-tree
invariant-loop-tree l = record {
  records : each as_rec (map seen l.rows)
      ≡ gather_from (λ x. alone (as_rec x)) (map row_fields (map seen (take l.tree-index l.rows)))
      (map seen (drop l.tree-index l.rows));
  keyed : keyed_rows l.all.items ≡ map (keyed_row l.keys) (map seen (take l.tree-index l.rows));
}
