use Rattle.std.proofs.Common.{◌≡◌, ◌∙◌, sym, ap, map, subst, rules, Err}
use Rattle.qc_data.specs.Outcome.{Value, why_of}
use Rattle.qc_ops.specs.Sorting.{ordered}
use Rattle.qc_rt.specs.Seen.{seen}
use Rattle.qc_runtime.specs.inner.Giving.{GivesBag}
use Rattle.qc_runtime.specs.inner.Columns.{columns_hold}
use Rattle.qc_runtime.specs.declared.columns.Keyed.{Keyed}
use Rattle.qc_runtime.proofs.Ordered.{rows_sorted, rows_stuck}
use Rattle.qc_runtime.proofs.Rows.{rows_halt}
use Rattle.qc_runtime.proofs.sorting.in_order.Goals as goal

pub returns-in_err-rows : goal.returns-in_err-rows
returns-in_err-rows c =
    let e : c.from_residual-in_err-rows.result ≡ Err c.in_err-rows.field-0.0 = search rules in
    subst (GivesBag (ordered c.args.keys.now (seen c.args.a.now))) (sym e)
    (λ n. rows_halt c.args.keys.now (seen c.args.a.now) c.as_slice.result.now (why_of c.in_err-rows.field-0.0)
    (c.in_ok-items.ensures ∙ ap (λ l. Value (map seen l)) (sym c.as_slice.ensures)) (c.in_err-rows.ensures n))

pub returns-then-not-are_columns : goal.returns-then-not-are_columns
returns-then-not-are_columns c =
    λ _. rows_stuck c.args.keys.now (seen c.args.a.now) c.as_slice.result.now c.in_ok-rows.rows.items
    (c.in_ok-items.ensures ∙ ap (λ l. Value (map seen l)) (sym c.as_slice.ensures)) c.in_ok-rows.ensures.0
    c.in_ok-rows.ensures.1
    (ap (λ l. columns_hold 0 c.args.keys.now (map (λ (row : Keyed). row.values) l)) (sym c.as_slice-2.ensures.value)
    ∙ sym c.are_columns.ensures ∙ c.if-not-are_columns.true)

pub returns : goal.returns
returns c =
    rows_sorted c.args.keys.now (seen c.args.a.now) c.as_slice.result.now c.in_ok-rows.rows.items
    (c.in_ok-items.ensures ∙ ap (λ l. Value (map seen l)) (sym c.as_slice.ensures)) c.in_ok-rows.ensures.0
    c.in_ok-rows.ensures.1
    (ap (λ l. columns_hold 0 c.args.keys.now (map (λ (row : Keyed). row.values) l)) (sym c.as_slice-2.ensures.value)
    ∙ sym c.are_columns.ensures ∙ c.if-not-are_columns.false)
    c.in_ok-rows-2.rows.items c.in_ok-rows-2.ensures c.in_ok-trees.field-0
    (c.in_ok-trees.ensures ∙ ap (map (λ (row : Keyed). row.tree.now)) c.as_slice-3.ensures.value)
