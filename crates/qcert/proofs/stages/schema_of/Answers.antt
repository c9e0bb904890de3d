use Rattle.qcert.proofs.stages.schema_of.Goals as goal

pub returns-in-Some-clause-ended : goal.returns-in-Some-clause-ended
returns-in-Some-clause-ended g c = rw c.in-Some.is c.schema_file.ensures.ended
