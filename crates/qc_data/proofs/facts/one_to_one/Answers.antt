use Rattle.qc_data.proofs.Inverses.{enc-one}
use Rattle.qc_data.proofs.facts.one_to_one.Goals as goal

pub returns : goal.returns
returns c = λ e. enc-one c.args.a.now c.args.b.now c.held.ensures.names c.held-2.ensures.names e
