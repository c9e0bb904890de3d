use Rattle.std.proofs.Common.{◌≡◌, drop}
use Rattle.qc_data.specs.Outcome.{alone, bits64, each}
use Rattle.qc_data.proofs.Outcomes.{gather_from}
use Rattle.qc_nnrc.specs.Meaning.{bound_to, nnrc}
use Rattle.qc_nnrc.specs.inner.Chains.{pairs_of}
use Rattle.qc_nnrc.proofs.evaluating.+eval.Given as goal

abbrev pub invariant-for_of-loop-item : goal.invariant-for_of-loop-item
invariant-for_of-loop-item l =
    each (bound_to l.x (nnrc bits64 l.world l.body) (pairs_of l.chain)) l.item-items
    ≡ gather_from (λ d. alone (bound_to l.x (nnrc bits64 l.world l.body) (pairs_of l.chain) d)) l.all
    (drop l.item-index l.item-items)
