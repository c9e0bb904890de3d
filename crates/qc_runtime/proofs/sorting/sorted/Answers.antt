use Rattle.std.proofs.Common.{rules}
use Rattle.qc_ops.specs.inner.Columns.{values_cmp}
use Rattle.qc_ops.proofs.RowOrder.{sorted_by}
use Rattle.qc_runtime.proofs.Rows.{keyed_total}
use Rattle.qc_runtime.proofs.sorting.sorted.Goals as goal

pub returns : goal.returns
returns c =
    sorted_by (λ x y. values_cmp 0 c.args.keys.now x.values y.values) (keyed_total c.args.keys.now) c.args.rows.items
    c.sort_by.new.self.items c.in_ok-sort_by.ensures.sorted c.sort_by.ensures.stable (λ a r q k. search rules)
