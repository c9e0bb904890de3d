use Rattle.std.proofs.Common.{ap, map}
use Rattle.qc_data.specs.Outcome.{alone}
use Rattle.qc_data.proofs.Outcomes.{gather_is}
use Rattle.qc_ops.specs.Operands.{as_rec}
use Rattle.qc_rt.specs.Seen.{seen}
use Rattle.qc_runtime.specs.inner.Columns.{keyed_rows}
use Rattle.qc_runtime.proofs.columns.with_values.Goals as goal

pub loop-tree-init : goal.loop-tree-init
loop-tree-init c = record {
  records = gather_is (λ x. alone (as_rec x)) (map seen c.args.rows.now);
  keyed = ap keyed_rows c.new-all.ensures.items;
}
