use Rattle.qc_ops.proofs.OperatorLaws.{agrees_unary}
use Rattle.qc_ops.proofs.apply.apply1.Goals as goal

pub returns-clause-agrees : goal.returns-clause-agrees
returns-clause-agrees c = λ operand low high. agrees_unary low high c.args.classes.now c.args.op.now operand
