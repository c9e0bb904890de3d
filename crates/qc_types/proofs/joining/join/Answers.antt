use Rattle.qc_types.proofs.JoinLaws.{made_above}
use Rattle.qc_types.proofs.joining.join.Goals as goal

pub returns-clause-above : goal.returns-clause-above
returns-clause-above c =
    made_above c.args.classes.now c.args.a.now c.args.b.now c.join_of.result
    (rw c.index.ensures.value at c.join_of.ensures)
