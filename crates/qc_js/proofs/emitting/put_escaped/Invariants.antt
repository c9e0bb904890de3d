use Rattle.std.proofs.Common.{take}
use Rattle.qc_js.specs.inner.Adding.{Adds}
use Rattle.qc_js.specs.Layout.{escaped}
use Rattle.qc_js.proofs.emitting.put_escaped.Given as goal

abbrev pub invariant-loop-b : goal.invariant-loop-b
invariant-loop-b g l =
    Adds l.fn.ok l.ok (g.O.Sink.written l.fn.out) (g.O.Sink.written l.out) (g.O.Sink.faults l.fn.out)
    (g.O.Sink.faults l.out) (escaped (take l.b-index l.b-items))
