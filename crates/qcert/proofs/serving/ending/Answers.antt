use Rattle.std.proofs.Common.{◌≡◌, Some, map, rules}
use Rattle.std.specs.Rc.{rc_str_bytes}
use Rattle.qcert.specs.Jobs.{job_of, job_seen}
use Rattle.qcert.specs.Ran.{of_job}
use Rattle.qcert.proofs.StageLemmas.{itself}
use Rattle.qcert.proofs.serving.ending.Goals as goal

pub returns-in-Some-clause-ending : goal.returns-in-Some-clause-ending
returns-in-Some-clause-ending g c =
    let is : job_of (map rc_str_bytes c.args.words.now) ≡ Some (job_seen c.in-Some.job) = search rules in
    of_job (job_seen c.in-Some.job) is (c.serve.ensures.ended _ _ (itself _) (itself _))
