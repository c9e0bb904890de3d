use Rattle.std.proofs.Common.{Ok}
use Rattle.qc_work.specs.Texts.{bytes_of}
use Rattle.qcert.proofs.program.deliver_ending.Goals as goal

pub returns-in-Ok-clause-ran : goal.returns-in-Ok-clause-ran
returns-in-Ok-clause-ran g c = record {
  ending = Ok (bytes_of c.in-Ok.text);
  is_ending = c.in-Ok.ensures.ending;
  delivered = c.deliver.ensures;
}
