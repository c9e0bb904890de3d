use Rattle.std.proofs.Common.{sym, codes}
use Rattle.qc_schema.specs.JsonReading.{Means}
use Rattle.qc_work.specs.Reading.{IsBadTree}
use Rattle.qcert.proofs.StageLemmas.{computed}
use Rattle.qcert.proofs.stages.tree_of.Goals as goal

pub returns-in-Some-clause-ended : goal.returns-in-Some-clause-ended
returns-in-Some-clause-ended g c = rw c.in-Some.is c.tree_file.ensures.ended

pub returns-in-None-clause-ended : goal.returns-in-None-clause-ended
returns-in-None-clause-ended g c =
    rw c.in-None.is (computed (Means (codes "{}")) (IsBadTree (codes "{}")) _ _ _ _
    (rw (sym c.as_bytes.ensures.value) c.tree_in.ensures))
