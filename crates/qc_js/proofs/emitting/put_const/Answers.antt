use Rattle.qc_js.proofs.Fronts.{adds_then}
use Rattle.qc_js.proofs.emitting.put_const.Goals as goal

pub returns : goal.returns
returns g c = adds_then c.put-ok.ensures (c.put_set.ensures)
