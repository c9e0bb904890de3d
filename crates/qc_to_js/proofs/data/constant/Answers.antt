use Rattle.qc_to_js.proofs.Constants.{constant_all}
use Rattle.qc_to_js.proofs.data.constant.Goals as goal

pub returns : goal.returns
returns c = constant_all c.args.d.now c.written.result c.held.ensures c.written.ensures
