use Rattle.qc_js.specs.inner.Text.{behind_space, stmt_text}
use Rattle.qc_js.proofs.Fronts.{adds_then, adds_item, if_whole, for_whole}
use Rattle.std.proofs.Common.{◌≡◌, rules}
use Rattle.qc_js.specs.declared.tree.Stmt.{the_lemmas}
use Rattle.qc_js.specs.declared.tree.Stmt.TheVariants.{If, For}
use Rattle.qc_js.proofs.emitting.+lines.Goals as goal

pub emit_collect-returns : goal.emit_collect-returns
emit_collect-returns g t c =
    adds_then c.put-ok.ensures (adds_then c.put_variable-ok.ensures
    (adds_then c.put-ok-2.ensures (c.emit_block.ensures)))

pub emit_for-returns : goal.emit_for-returns
emit_for-returns g t c =
    adds_then c.put-ok.ensures (adds_then c.put_variable-ok.ensures
    (adds_then c.put-ok-2.ensures (adds_then c.emit_expr-ok.ensures
    (adds_then c.put-ok-3.ensures (c.emit_block.ensures)))))

pub emit_stmt-returns-in-If : goal.emit_stmt-returns-in-If
emit_stmt-returns-in-If g t c =
    let is : c.args.s.now ≡ If c.in-If.e c.in-If.block c.in-If.other = search (rules, the_lemmas) in
    if_whole _ _ _ _ is c.put_if-ok.ensures c.emit_block-ok.ensures c.put-ok.ensures c.emit_block.ensures

pub emit_block-returns : goal.emit_block-returns
emit_block-returns g t c = adds_then c.put-ok.ensures (adds_then c.emit_lines-ok.ensures (c.put.ensures))

pub emit_lines-loop-s-preserved : goal.emit_lines-loop-s-preserved
emit_lines-loop-s-preserved g t c =
    adds_item behind_space stmt_text _ c.loop-s.s-index _ c.loop-s-test.true c.s-item.is c.loop-s.invariant
    (adds_then c.put-ok.ensures c.emit_stmt-ok.ensures)

pub emit_stmt-returns-in-For : goal.emit_stmt-returns-in-For
emit_stmt-returns-in-For g t c =
    let is : c.args.s.now ≡ For c.in-For.n c.in-For.e c.in-For.block = search (rules, the_lemmas) in
    for_whole _ _ _ _ is c.emit_for.ensures
