use Rattle.std.proofs.Common.{take, map}
use Rattle.qc_js.specs.inner.Adding.{Adds}
use Rattle.qc_js.specs.inner.Text.{parts, expr_text}
use Rattle.qc_js.proofs.emitting.+emit.Given as goal

abbrev pub invariant-emit_items-loop-i : goal.invariant-emit_items-loop-i
invariant-emit_items-loop-i g l =
    Adds l.fn.ok l.ok (g.O.Sink.written l.fn.out) (g.O.Sink.written l.out) (g.O.Sink.faults l.fn.out)
    (g.O.Sink.faults l.out) (parts (map expr_text (take l.i l.item-items)))
