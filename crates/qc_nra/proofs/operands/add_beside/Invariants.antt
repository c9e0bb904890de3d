use Rattle.std.proofs.Common.{◌≡◌, drop}
use Rattle.qc_data.specs.Outcome.{alone}
use Rattle.qc_data.proofs.Outcomes.{gather_from}
use Rattle.qc_nra.specs.Forms.{beside}
use Rattle.qc_nra.specs.inner.Added.{added}
use Rattle.qc_ops.specs.Records.{concatenation}
use Rattle.qc_nra.proofs.operands.add_beside.Given as goal

abbrev pub invariant-loop-member : goal.invariant-loop-member
invariant-loop-member l =
    added l.initial.all (beside l.members l.first)
    ≡ gather_from (λ y. alone (concatenation l.first y)) l.all (drop l.member-index l.members)
