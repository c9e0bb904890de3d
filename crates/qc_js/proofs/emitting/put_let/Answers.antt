use Rattle.qc_js.proofs.Fronts.{adds_then}
use Rattle.qc_js.proofs.emitting.put_let.Goals as goal

pub returns : goal.returns
returns g c = adds_then c.put-ok.ensures (adds_then c.put_variable-ok.ensures (c.put.ensures))
