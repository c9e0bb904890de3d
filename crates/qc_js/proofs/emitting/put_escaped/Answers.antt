use Rattle.std.proofs.Common.{refl}
use Rattle.qc_js.specs.Layout.{escaped_byte}
use Rattle.qc_js.proofs.Fronts.{adds_turn}
use Rattle.qc_js.proofs.emitting.put_escaped.Goals as goal

pub loop-b-preserved : goal.loop-b-preserved
loop-b-preserved g c =
    adds_turn escaped_byte _ c.loop-b.b-index _ c.loop-b-test.true refl c.loop-b.invariant c.put_byte-ok.ensures
