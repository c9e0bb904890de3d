use Rattle.std.proofs.Common.{◌≡◌, ◌∙◌, ap, rules}
use Rattle.qc_data.specs.Order.{sort_by}
use Rattle.qc_ops.specs.inner.Columns.{keyed_rows, values_cmp}
use Rattle.qc_ops.proofs.RowOrder.{keyed_total, sort-map, sorted_by}
use Rattle.qc_ops.proofs.sorting.sorted.Goals as goal

pub returns : goal.returns
returns c =
    let e : c.sort_by.new.self.items ≡ sort_by (λ x y. values_cmp 0 c.args.keys.now x.values y.values)
    c.args.rows.items = sorted_by (λ x y. values_cmp 0 c.args.keys.now x.values y.values)
    (keyed_total c.args.keys.now) c.args.rows.items c.sort_by.new.self.items c.in_ok-sort_by.ensures.sorted
    c.sort_by.ensures.stable (λ a r q k. search rules) in
    ap keyed_rows e ∙ sort-map (λ a b. values_cmp 0 c.args.keys.now a.0 b.0) (λ row. (row.values, row.fields.now))
    c.args.rows.items
