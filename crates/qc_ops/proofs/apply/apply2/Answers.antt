use Rattle.qc_ops.proofs.OperatorLaws.{agrees_binary}
use Rattle.qc_ops.proofs.apply.apply2.Goals as goal

pub returns-clause-agrees : goal.returns-clause-agrees
returns-clause-agrees c = λ first second low high. agrees_binary low high c.args.op.now first second
