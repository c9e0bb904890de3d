use Rattle.qcert.proofs.serving.serve.Goals as goal

pub returns-in-Check-clause-ended : goal.returns-in-Check-clause-ended
returns-in-Check-clause-ended g c = rw c.in-Check.is c.check.ensures.ended

pub returns-in-Compile-clause-ended : goal.returns-in-Compile-clause-ended
returns-in-Compile-clause-ended g c = rw c.in-Compile.is c.compile.ensures.ended

pub returns-in-Run-clause-ended : goal.returns-in-Run-clause-ended
returns-in-Run-clause-ended g c = rw c.in-Run.is c.run_query.ensures.ended

pub returns-in-Exec-clause-ended : goal.returns-in-Exec-clause-ended
returns-in-Exec-clause-ended g c = rw c.in-Exec.is c.execute.ensures.ended
