use Rattle.std.proofs.Common.{◌≡◌, ◌∙◌, sym, ap, map}
use Rattle.qc_data.specs.Order.{sort_by}
use Rattle.qc_data.specs.Outcome.{Value}
use Rattle.qc_data.specs.declared.data.Datum.TheVariants.{Coll, Rec}
use Rattle.qc_ops.specs.inner.Columns.{are_columns, behind, keyed_rows, values_cmp, with_values}
use Rattle.qc_ops.proofs.ColumnLaws.{ordered_stuck, ordered_value}
use Rattle.qc_ops.proofs.RowOrder.{sorted_rows}
use Rattle.qc_ops.proofs.sorting.ordered.Goals as goal

pub returns-then-not-are_columns : goal.returns-then-not-are_columns
returns-then-not-are_columns c =
    let records : keyed_rows c.in_ok-rows.rows.items
    ≡ map (with_values c.args.keys.now) (behind c.in_ok-records.records.items) =
    c.in_ok-rows.ensures ∙ ap (λ l. map (with_values c.args.keys.now) (behind l)) c.as_slice-2.ensures.value in
    λ _. ordered_stuck c.args.keys.now c.args.a.now c.in_ok-items.items.now c.as_slice.result.now
    (behind c.in_ok-records.records.items) c.in_ok-items.ensures c.as_slice.ensures c.in_ok-records.ensures
    (ap (are_columns 0 c.args.keys.now) (sym records)
    ∙ ap (λ l. are_columns 0 c.args.keys.now (keyed_rows l)) (sym c.as_slice-3.ensures.value)
    ∙ sym c.are_columns.ensures ∙ c.if-not-are_columns.true)

pub returns : goal.returns
returns c =
    let records : keyed_rows c.in_ok-rows.rows.items
    ≡ map (with_values c.args.keys.now) (behind c.in_ok-records.records.items) =
    c.in_ok-rows.ensures ∙ ap (λ l. map (with_values c.args.keys.now) (behind l)) c.as_slice-2.ensures.value in
    ordered_value c.args.keys.now c.args.a.now c.in_ok-items.items.now c.as_slice.result.now
    (behind c.in_ok-records.records.items) c.in_ok-items.ensures c.as_slice.ensures c.in_ok-records.ensures
    (ap (are_columns 0 c.args.keys.now) (sym records)
    ∙ ap (λ l. are_columns 0 c.args.keys.now (keyed_rows l)) (sym c.as_slice-3.ensures.value)
    ∙ sym c.are_columns.ensures ∙ c.if-not-are_columns.false)
    ∙ ap (λ l. Value (Coll l)) (sym (c.in_ok-rows-3.ensures
    ∙ ap (λ l. map (λ row. Rec row.1) (keyed_rows l)) c.as_slice-4.ensures.value
    ∙ ap (map (λ row. Rec row.1)) (c.in_ok-rows-2.ensures
    ∙ ap (sort_by (λ a b. values_cmp 0 c.args.keys.now a.0 b.0)) records)
    ∙ sorted_rows c.args.keys.now (behind c.in_ok-records.records.items)))
