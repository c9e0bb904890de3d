use Rattle.qc_js.specs.inner.Text.{expr_text}
use Rattle.qc_js.proofs.Fronts.{adds_then, adds_part}
use Rattle.qc_js.proofs.emitting.+emit.Goals as goal

pub emit_array-returns : goal.emit_array-returns
emit_array-returns g t c = adds_then c.put-ok.ensures (adds_then c.emit_items-ok.ensures (c.put.ensures))

pub emit_call-returns : goal.emit_call-returns
emit_call-returns g t c =
    rw (← c.word.ensures.value) (adds_then c.put-ok.ensures
    (adds_then c.put-ok-2.ensures (adds_then c.put-ok-3.ensures (adds_then c.emit_items-ok.ensures (c.put.ensures)))))

pub emit_items-loop-i-preserved : goal.emit_items-loop-i-preserved
emit_items-loop-i-preserved g t c =
    adds_part expr_text _ c.loop-i.i _ c.loop-i-test.true c.item-item.is c.loop-i.invariant c.put_comma-ok.ensures
    c.emit_expr-ok.ensures
