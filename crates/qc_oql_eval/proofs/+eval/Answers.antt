use Rattle.std.proofs.Common.{◌≡◌, ◌∙◌, ◌-◌, ◌++◌, drop, length, rules, sym, take, ap}
use Rattle.std.specs.Prelude.{Err}
use Rattle.qc_data.specs.Kinds.{as_coll}
use Rattle.qc_data.specs.Outcome.{Value, and_then, bits64}
use Rattle.qc_data.proofs.Outcomes.{gives_go, gives_stop}
use Rattle.qc_oql_tree.specs.declared.tree.Oql.TheVariants as tree
use Rattle.qc_oql_tree.specs.declared.tree.Oql.TheViews.{out-Named}
use Rattle.qc_oql_tree.specs.Meaning.{oql}
use Rattle.qc_oql_eval.specs.inner.Scopes.{bindings_of}
use Rattle.qc_oql_eval.specs.inner.SelectRows.{keyed_rows}
use Rattle.qc_oql_eval.specs.inner.Selected.{kept_rows, of_kept}
use Rattle.qc_oql_eval.proofs.Arms.{arm, binary_arm, of_values, or_else_arm, select_arm, values_halt}
use Rattle.qc_oql_tree.proofs.MeaningForms.{oql-Struct, oql-Bag}
use Rattle.qc_oql_eval.proofs.Keys.{layers, ordered_by_is}
use Rattle.qc_oql_eval.proofs.Streams.{condition_halts, earlier_halts, exits, items_halt, kept_first, later_halts}
use Rattle.qc_oql_eval.proofs.Streams.{next_row, row_kept, source_halts}
use Rattle.qc_oql_eval.proofs.+eval.Goals as goal

pub expression::outcome-returns-in-Struct : goal.expression::outcome-returns-in-Struct
expression::outcome-returns-in-Struct t c =
    let is : c.args.of.now ≡ tree.Struct c.in-Struct.field-0 c.as_slice.result.now = search (rules, layers) in
    arm bits64 c.args.world.now (bindings_of c.args.scope.now) c.args.of.now
    (tree.Struct c.in-Struct.field-0 c.as_slice.result.now) _ c.structured.result is
    (oql-Struct bits64 c.args.world.now c.in-Struct.field-0 c.as_slice.result.now) c.structured.ensures

pub expression::outcome-returns-in-Bag : goal.expression::outcome-returns-in-Bag
expression::outcome-returns-in-Bag t c =
    let is : c.args.of.now ≡ tree.Bag c.in-Bag.field-0 c.as_slice-in-Bag.result.now = search (rules, layers) in
    arm bits64 c.args.world.now (bindings_of c.args.scope.now) c.args.of.now
    (tree.Bag c.in-Bag.field-0 c.as_slice-in-Bag.result.now) _ c.collected.result is
    (oql-Bag bits64 c.args.world.now c.in-Bag.field-0 c.as_slice-in-Bag.result.now) c.collected.ensures

pub selecting::ordered_by-returns : goal.selecting::ordered_by-returns
selecting::ordered_by-returns t c =
    rw (ordered_by_is bits64 c.args.world.now c.args.keys.now (bindings_of c.args.scope.now) c.args.rows.now
    (keyed_rows c.in_ok-keyed.keyed.items) c.in_ok-keyed.ensures) c.in_order.ensures

pub expression::outcome-returns-in-Some : goal.expression::outcome-returns-in-Some
expression::outcome-returns-in-Some t c =
    let is : c.args.of.now ≡ tree.Binary c.in-Binary.field-0 c.in-Binary.operator c.get-in-Binary.result.now
    c.get-in-Some.result.now = search (rules, layers) in
    binary_arm bits64 c.args.world.now (bindings_of c.args.scope.now) c.args.of.now c.in-Binary.field-0
    c.in-Binary.operator c.get-in-Binary.result.now c.get-in-Some.result.now c.in-Some.pairing
    c.in_ok-left-in-Binary.left c.with_left.result is c.in-Some.ensures c.in_ok-left-in-Binary.ensures
    c.with_left.ensures

pub expression::outcome-returns-in-Binary : goal.expression::outcome-returns-in-Binary
expression::outcome-returns-in-Binary t c =
    let is : c.args.of.now ≡ tree.Binary c.in-Binary.field-0 c.in-Binary.operator c.get-in-Binary.result.now
    c.get-in-None.result.now = search (rules, layers) in
    or_else_arm bits64 c.args.world.now (bindings_of c.args.scope.now) c.args.of.now c.in-Binary.field-0
    c.in-Binary.operator c.get-in-Binary.result.now c.get-in-None.result.now c.in_ok-left-in-Binary.left
    c.or_else.result is c.in-None.ensures c.in_ok-left-in-Binary.ensures c.or_else.ensures

pub expression::outcome-returns-in_err-kept-in-Select : goal.expression::outcome-returns-in_err-kept-in-Select
expression::outcome-returns-in_err-kept-in-Select t c =
    let is : c.args.of.now ≡ tree.Select c.in-Select.field-0 c.get-select.result.now = search (rules, layers) in
    let e = c.in_err-kept-in-Select.field-0.0 in
    let exit : c.from_residual-in_err-kept-in-Select.result ≡ Err e = search rules in
    let rows = kept_rows bits64 c.args.world.now c.get-select.result.now (bindings_of c.args.scope.now) in
    let valued = of_kept bits64 c.args.world.now c.get-select.result.now (bindings_of c.args.scope.now) in
    select_arm bits64 c.args.world.now (bindings_of c.args.scope.now) c.args.of.now c.in-Select.field-0
    c.get-select.result.now c.from_residual-in_err-kept-in-Select.result is
    (exits (and_then rows valued) c.from_residual-in_err-kept-in-Select.result e exit
    (gives_stop rows valued e c.in_err-kept-in-Select.ensures))

pub expression::outcome-returns : goal.expression::outcome-returns
expression::outcome-returns t c =
    let is : c.args.of.now ≡ tree.Select c.in-Select.field-0 c.get-select.result.now = search (rules, layers) in
    let rows = kept_rows bits64 c.args.world.now c.get-select.result.now (bindings_of c.args.scope.now) in
    let valued = of_kept bits64 c.args.world.now c.get-select.result.now (bindings_of c.args.scope.now) in
    select_arm bits64 c.args.world.now (bindings_of c.args.scope.now) c.args.of.now c.in-Select.field-0
    c.get-select.result.now c.selected.result is
    (gives_go rows valued c.in_ok-kept-in-Select.kept c.selected.result c.in_ok-kept-in-Select.ensures
    c.selected.ensures)

pub selecting::selected-returns-in_err-values : goal.selecting::selected-returns-in_err-values
selecting::selected-returns-in_err-values t c =
    let e = c.in_err-values.field-0.0 in
    let exit : c.from_residual-in_err-values.result ≡ Err e = search rules in
    exits (of_kept bits64 c.args.world.now c.args.select.now (bindings_of c.args.scope.now) c.args.kept)
    c.from_residual-in_err-values.result e exit
    (values_halt bits64 c.args.world.now (bindings_of c.args.scope.now) c.args.select.now c.args.kept
    c.as_slice.result.now c.in_ok-sorted.sorted.items c.as_slice-2.result.now c.as_slice.ensures
    c.in_ok-sorted.ensures c.as_slice-2.ensures.value e c.in_err-values.ensures)

pub selecting::selected-returns : goal.selecting::selected-returns
selecting::selected-returns t c =
    of_values bits64 c.args.world.now (bindings_of c.args.scope.now) c.args.select.now c.args.kept
    c.as_slice.result.now c.in_ok-sorted.sorted.items c.as_slice-2.result.now c.as_slice.ensures
    c.in_ok-sorted.ensures c.as_slice-2.ensures.value c.in_ok-values.values c.distinct_if.result
    c.in_ok-values.ensures c.distinct_if.ensures

pub keeping::kept_rows-returns-in_err-rows-in-len1-up : goal.keeping::kept_rows-returns-in_err-rows-in-len1-up
keeping::kept_rows-returns-in_err-rows-in-len1-up t c =
    let e = c.in_err-rows-in-len1-up.field-0.0 in
    let exit : c.from_residual.result ≡ Err e = search rules in
    exits (kept_rows bits64 c.args.world.now c.args.select.now (bindings_of c.args.scope.now)) c.from_residual.result e
    exit (earlier_halts bits64 c.args.world.now (bindings_of c.args.scope.now) c.args.select.now c.last-item.result
    c.as_slice.result.now c.as_slice.ensures c.in-len1-up.len_at_least c.last-item.is
    e c.in_err-rows-in-len1-up.ensures)

pub keeping::kept_rows-loop-rest-init : goal.keeping::kept_rows-loop-rest-init
keeping::kept_rows-loop-rest-init t c =
    kept_first bits64 c.args.world.now (bindings_of c.args.scope.now) c.args.select.now c.last-item.result
    c.as_slice.result.now c.as_slice.ensures c.in-len1-up.len_at_least c.last-item.is
    c.in_ok-rows-in-len1-up.rows c.new-kept.result c.as_slice-rest.result.now c.in_ok-rows-in-len1-up.ensures
    c.as_slice-rest.ensures c.new-kept.ensures

pub keeping::kept_rows-returns-in_err-source-in-len1-up : goal.keeping::kept_rows-returns-in_err-source-in-len1-up
keeping::kept_rows-returns-in_err-source-in-len1-up t c =
    let later = take (length c.loop-rest.rest.now - 1) (drop 1 c.loop-rest.rest.now) in
    let next =
    next_row bits64 c.args.world.now (bindings_of c.args.scope.now) c.args.select.now c.last-item.result
    c.loop-rest.kept c.loop-rest.rest.now c.row-item.result c.as_slice-row.result.now c.in-len1-up-rest.len_at_least
    c.row-item.is c.as_slice-row.ensures c.loop-rest.invariant in
    let e = c.in_err-source-in-len1-up.field-0.0 in
    let exit : c.from_residual-in_err-source-in-len1-up.result ≡ Err e = search rules in
    exits (kept_rows bits64 c.args.world.now c.args.select.now (bindings_of c.args.scope.now))
    c.from_residual-in_err-source-in-len1-up.result e exit
    (source_halts bits64 c.args.world.now (bindings_of c.args.scope.now) c.args.select.now c.last-item.result
    c.loop-rest.kept c.as_slice-row.result.now later next e
    c.in_err-source-in-len1-up.ensures)

pub keeping::kept_rows-returns-in_err-items_of-in-len1-up : goal.keeping::kept_rows-returns-in_err-items_of-in-len1-up
keeping::kept_rows-returns-in_err-items_of-in-len1-up t c =
    let later = take (length c.loop-rest.rest.now - 1) (drop 1 c.loop-rest.rest.now) in
    let next =
    next_row bits64 c.args.world.now (bindings_of c.args.scope.now) c.args.select.now c.last-item.result
    c.loop-rest.kept c.loop-rest.rest.now c.row-item.result c.as_slice-row.result.now c.in-len1-up-rest.len_at_least
    c.row-item.is c.as_slice-row.ensures c.loop-rest.invariant in
    let value : oql bits64 c.args.world.now (out-Named c.last-item.result).of
    (c.as_slice-row.result.now ++ bindings_of c.args.scope.now)
    ≡ Value c.get.result.now = c.in_ok-source-in-len1-up.ensures ∙ ap Value (sym c.get.ensures) in
    let e = c.in_err-items_of-in-len1-up.field-0.0 in
    let exit : c.from_residual-in_err-items_of-in-len1-up.result ≡ Err e = search rules in
    exits (kept_rows bits64 c.args.world.now c.args.select.now (bindings_of c.args.scope.now))
    c.from_residual-in_err-items_of-in-len1-up.result e exit
    (items_halt bits64 c.args.world.now (bindings_of c.args.scope.now) c.args.select.now c.last-item.result
    c.loop-rest.kept c.as_slice-row.result.now later next
    c.get.result.now e value c.in_err-items_of-in-len1-up.ensures)

pub keeping::kept_rows-returns-in_err-extended-in-Err : goal.keeping::kept_rows-returns-in_err-extended-in-Err
keeping::kept_rows-returns-in_err-extended-in-Err t c =
    let later = take (length c.loop-rest.rest.now - 1) (drop 1 c.loop-rest.rest.now) in
    let next =
    next_row bits64 c.args.world.now (bindings_of c.args.scope.now) c.args.select.now c.last-item.result
    c.loop-rest.kept c.loop-rest.rest.now c.row-item.result c.as_slice-row.result.now c.in-len1-up-rest.len_at_least
    c.row-item.is c.as_slice-row.ensures c.loop-rest.invariant in
    let value : oql bits64 c.args.world.now (out-Named c.last-item.result).of
    (c.as_slice-row.result.now ++ bindings_of c.args.scope.now)
    ≡ Value c.get.result.now = c.in_ok-source-in-len1-up.ensures ∙ ap Value (sym c.get.ensures) in
    let members : as_coll c.get.result.now ≡ Value c.as_slice-members.result.now =
    c.in_ok-items_of-in-len1-up.ensures ∙ ap Value (sym c.as_slice-members.ensures) in
    let e = c.in_err-extended-in-Err.field-0.0 in
    let exit : c.from_residual-in_err-extended-in-Err.result ≡ Err e = search rules in
    exits (kept_rows bits64 c.args.world.now c.args.select.now (bindings_of c.args.scope.now))
    c.from_residual-in_err-extended-in-Err.result e exit
    (later_halts bits64 c.args.world.now (bindings_of c.args.scope.now) c.args.select.now c.last-item.result
    c.loop-rest.kept c.as_slice-row.result.now later next c.get.result.now
    c.as_slice-members.result.now value members e c.in_err-extended-in-Err.ensures)

pub keeping::kept_rows-returns-in-Err : goal.keeping::kept_rows-returns-in-Err
keeping::kept_rows-returns-in-Err t c =
    let later = take (length c.loop-rest.rest.now - 1) (drop 1 c.loop-rest.rest.now) in
    let next =
    next_row bits64 c.args.world.now (bindings_of c.args.scope.now) c.args.select.now c.last-item.result
    c.loop-rest.kept c.loop-rest.rest.now c.row-item.result c.as_slice-row.result.now c.in-len1-up-rest.len_at_least
    c.row-item.is c.as_slice-row.ensures c.loop-rest.invariant in
    let value : oql bits64 c.args.world.now (out-Named c.last-item.result).of
    (c.as_slice-row.result.now ++ bindings_of c.args.scope.now)
    ≡ Value c.get.result.now = c.in_ok-source-in-len1-up.ensures ∙ ap Value (sym c.get.ensures) in
    let members : as_coll c.get.result.now ≡ Value c.as_slice-members.result.now =
    c.in_ok-items_of-in-len1-up.ensures ∙ ap Value (sym c.as_slice-members.ensures) in
    condition_halts bits64 c.args.world.now (bindings_of c.args.scope.now) c.args.select.now c.last-item.result
    c.loop-rest.kept c.as_slice-row.result.now later next c.get.result.now
    c.as_slice-members.result.now value members c.in-Err.halt
    c.in_ok-extended-in-Err.field-0 c.in_ok-extended-in-Err.ensures c.in-Err.ensures

pub keeping::kept_rows-loop-rest-preserved-in_ok-spread-in-Ok-2
    : goal.keeping::kept_rows-loop-rest-preserved-in_ok-spread-in-Ok-2
keeping::kept_rows-loop-rest-preserved-in_ok-spread-in-Ok-2 t c =
    let later = take (length c.loop-rest.rest.now - 1) (drop 1 c.loop-rest.rest.now) in
    let next =
    next_row bits64 c.args.world.now (bindings_of c.args.scope.now) c.args.select.now c.last-item.result
    c.loop-rest.kept c.loop-rest.rest.now c.row-item.result c.as_slice-row.result.now c.in-len1-up-rest.len_at_least
    c.row-item.is c.as_slice-row.ensures c.loop-rest.invariant in
    let value : oql bits64 c.args.world.now (out-Named c.last-item.result).of
    (c.as_slice-row.result.now ++ bindings_of c.args.scope.now)
    ≡ Value c.get.result.now = c.in_ok-source-in-len1-up.ensures ∙ ap Value (sym c.get.ensures) in
    let members : as_coll c.get.result.now ≡ Value c.as_slice-members.result.now =
    c.in_ok-items_of-in-len1-up.ensures ∙ ap Value (sym c.as_slice-members.ensures) in
    row_kept bits64 c.args.world.now (bindings_of c.args.scope.now) c.args.select.now c.last-item.result
    c.loop-rest.kept c.as_slice-row.result.now later next c.get.result.now
    c.as_slice-members.result.now value members
    c.as_slice-in-Ok.result.now c.in-Ok.members.items c.spread.new.rows c.in-Ok.ensures c.as_slice-in-Ok.ensures.value
    c.in_ok-spread-in-Ok.ensures

pub keeping::kept_rows-loop-rest-preserved-in_ok-spread-in-Ok-3
    : goal.keeping::kept_rows-loop-rest-preserved-in_ok-spread-in-Ok-3
keeping::kept_rows-loop-rest-preserved-in_ok-spread-in-Ok-3 t c =
    let later = take (length c.loop-rest.rest.now - 1) (drop 1 c.loop-rest.rest.now) in
    let next =
    next_row bits64 c.args.world.now (bindings_of c.args.scope.now) c.args.select.now c.last-item.result
    c.loop-rest.kept c.loop-rest.rest.now c.row-item.result c.as_slice-row.result.now c.in-len1-up-rest.len_at_least
    c.row-item.is c.as_slice-row.ensures c.loop-rest.invariant in
    let value : oql bits64 c.args.world.now (out-Named c.last-item.result).of
    (c.as_slice-row.result.now ++ bindings_of c.args.scope.now)
    ≡ Value c.get.result.now = c.in_ok-source-in-len1-up.ensures ∙ ap Value (sym c.get.ensures) in
    let members : as_coll c.get.result.now ≡ Value c.as_slice-members.result.now =
    c.in_ok-items_of-in-len1-up.ensures ∙ ap Value (sym c.as_slice-members.ensures) in
    row_kept bits64 c.args.world.now (bindings_of c.args.scope.now) c.args.select.now c.last-item.result
    c.loop-rest.kept c.as_slice-row.result.now later next c.get.result.now
    c.as_slice-members.result.now value members
    c.as_slice-in-Ok.result.now c.in-Ok.members.items c.spread.new.rows c.in-Ok.ensures c.as_slice-in-Ok.ensures.value
    c.in_ok-spread-in-Ok.ensures

pub keeping::kept_rows-loop-rest-preserved : goal.keeping::kept_rows-loop-rest-preserved
keeping::kept_rows-loop-rest-preserved t c =
    let later = take (length c.loop-rest.rest.now - 1) (drop 1 c.loop-rest.rest.now) in
    let next =
    next_row bits64 c.args.world.now (bindings_of c.args.scope.now) c.args.select.now c.last-item.result
    c.loop-rest.kept c.loop-rest.rest.now c.row-item.result c.as_slice-row.result.now c.in-len1-up-rest.len_at_least
    c.row-item.is c.as_slice-row.ensures c.loop-rest.invariant in
    let value : oql bits64 c.args.world.now (out-Named c.last-item.result).of
    (c.as_slice-row.result.now ++ bindings_of c.args.scope.now)
    ≡ Value c.get.result.now = c.in_ok-source-in-len1-up.ensures ∙ ap Value (sym c.get.ensures) in
    let members : as_coll c.get.result.now ≡ Value c.as_slice-members.result.now =
    c.in_ok-items_of-in-len1-up.ensures ∙ ap Value (sym c.as_slice-members.ensures) in
    row_kept bits64 c.args.world.now (bindings_of c.args.scope.now) c.args.select.now c.last-item.result
    c.loop-rest.kept c.as_slice-row.result.now later next c.get.result.now
    c.as_slice-members.result.now value members
    c.as_slice-in-Ok.result.now c.in-Ok.members.items c.spread.new.rows c.in-Ok.ensures c.as_slice-in-Ok.ensures.value
    c.in_ok-spread-in-Ok.ensures
