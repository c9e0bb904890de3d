use Rattle.std.proofs.Common.{sym, codes}
use Rattle.qc_work.specs.Reading.{IsInput, IsBadInput}
use Rattle.qcert.proofs.StageLemmas.{computed}
use Rattle.qcert.proofs.stages.input_of.Goals as goal

pub returns-in-Some-clause-ended : goal.returns-in-Some-clause-ended
returns-in-Some-clause-ended g c = rw c.in-Some.is c.input_file.ensures.ended

pub returns-in-None-clause-ended : goal.returns-in-None-clause-ended
returns-in-None-clause-ended g c =
    rw c.in-None.is (computed (IsInput c.args.schema.now (codes "{}"))
    (IsBadInput c.args.schema.now (codes "{}")) _ _ _ _ (rw (sym c.as_bytes.ensures.value) c.input_in.ensures))
