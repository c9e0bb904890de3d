use Rattle.qc_rt.proofs.Agreed.{agrees_runtime}
use Rattle.qc_rt.proofs.Encoding.{encodes1, encodes2}
use Rattle.qc_runtime.proofs.applying.apply_rt.Goals as goal

pub returns-clause-agrees : goal.returns-clause-agrees
returns-clause-agrees c = λ function arguments low high. agrees_runtime low high function arguments

pub returns-clause-encodes_one : goal.returns-clause-encodes_one
returns-clause-encodes_one c = encodes1

pub returns-clause-encodes_two : goal.returns-clause-encodes_two
returns-clause-encodes_two c = encodes2
