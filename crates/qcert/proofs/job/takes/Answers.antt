use Rattle.qcert.proofs.job.takes.Goals as goal

pub returns-in-Check : goal.returns-in-Check
returns-in-Check c = rw c.in-Check.is c.are_options.ensures

pub returns-in-Compile : goal.returns-in-Compile
returns-in-Compile c = rw c.in-Compile.is c.are_options-in-Compile.ensures

pub returns-in-Run : goal.returns-in-Run
returns-in-Run c = rw c.in-Run.is c.are_options-in-Run.ensures

pub returns-in-Exec : goal.returns-in-Exec
returns-in-Exec c = rw c.in-Exec.is c.are_options-in-Exec.ensures
