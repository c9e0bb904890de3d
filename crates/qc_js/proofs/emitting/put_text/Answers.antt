use Rattle.qc_js.proofs.Fronts.{adds_then}
use Rattle.qc_js.proofs.emitting.put_text.Goals as goal

pub returns : goal.returns
returns g c = adds_then c.put-ok.ensures (adds_then c.put_escaped-ok.ensures (c.put.ensures))
