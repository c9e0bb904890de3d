use Rattle.qcert.proofs.RanLemmas.{served, compiled, asked, refused, complete}
use Rattle.qcert.proofs.program.run.Goals as goal

pub returns-clause-served : goal.returns-clause-served
returns-clause-served g c = λ z. served _ _ _ _ _ c.deliver_ending.ensures.ran z

pub returns-clause-compiled : goal.returns-clause-compiled
returns-clause-compiled g c = λ subject z is. compiled _ _ _ _ _ c.deliver_ending.ensures.ran subject z is

pub returns-clause-complete : goal.returns-clause-complete
returns-clause-complete g c = λ s shelf out. complete _ _ _ _ _ shelf c.deliver_ending.ensures.ran s out

pub returns-clause-refused : goal.returns-clause-refused
returns-clause-refused g c = λ due d shelf. refused _ _ _ _ _ shelf c.deliver_ending.ensures.ran due d

pub returns-clause-asked : goal.returns-clause-asked
returns-clause-asked g c = asked _ _ _ _ _ c.deliver_ending.ensures.ran
