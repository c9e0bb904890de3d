use Rattle.std.proofs.Common.{◌≡◌, drop, map}
use Rattle.qcert.specs.Jobs.{is_among}
use Rattle.qcert.proofs.job.is_among.Given as goal

abbrev pub invariant-loop-name : goal.invariant-loop-name
invariant-loop-name l =
    is_among l.word (map (λ name. name.now) l.names)
    ≡ is_among l.word (map (λ name. name.now) (drop l.name-index l.names))
