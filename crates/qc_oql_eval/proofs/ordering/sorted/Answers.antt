use Rattle.std.proofs.Common.{◌≡◌, ◌∙◌, ap, rules}
use Rattle.qc_data.specs.Order.{sort_by}
use Rattle.qc_ops.proofs.RowOrder.{sort-map, sorted_by}
use Rattle.qc_oql_eval.specs.inner.SelectRows.{keyed_rows, directions}
use Rattle.qc_oql_tree.specs.SelectMeaning.{keys_cmp}
use Rattle.qc_oql_eval.proofs.KeyOrder.{keyed_total}
use Rattle.qc_oql_eval.proofs.ordering.sorted.Goals as goal

pub returns : goal.returns
returns c =
    let e : c.sort_by.new.self.items ≡ sort_by
    (λ x y. keys_cmp (directions c.args.keys.now) x.keys y.keys) c.args.rows.items =
    sorted_by (λ x y. keys_cmp (directions c.args.keys.now) x.keys y.keys)
    (keyed_total (directions c.args.keys.now)) c.args.rows.items c.sort_by.new.self.items
    c.in_ok-sort_by.ensures.sorted c.sort_by.ensures.stable (λ a r q k. search rules) in
    ap keyed_rows e ∙ sort-map (λ a b. keys_cmp (directions c.args.keys.now) a.0 b.0)
    (λ row. (row.keys, row.row.now)) c.args.rows.items
