use Rattle.std.proofs.Common.{take, map}
use Rattle.qc_js.specs.inner.Adding.{Adds}
use Rattle.qc_js.specs.inner.Text.{lines, stmt_text}
use Rattle.qc_js.proofs.emitting.+lines.Given as goal

abbrev pub invariant-emit_lines-loop-s : goal.invariant-emit_lines-loop-s
invariant-emit_lines-loop-s g l =
    Adds l.fn.ok l.ok (g.O.Sink.written l.fn.out) (g.O.Sink.written l.out) (g.O.Sink.faults l.fn.out)
    (g.O.Sink.faults l.out) (lines (map stmt_text (take l.s-index l.s-items)))
