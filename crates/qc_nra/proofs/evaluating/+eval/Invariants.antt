use Rattle.std.proofs.Common.{◌≡◌, drop}
use Rattle.qc_data.specs.Outcome.{alone, bits64, each, gather}
use Rattle.qc_data.proofs.Outcomes.{gather_from}
use Rattle.qc_nra.specs.Forms.{joined, kept}
use Rattle.qc_nra.specs.Meaning.{nra}
use Rattle.qc_nra.specs.inner.Added.{all_added}
use Rattle.qc_nra.proofs.evaluating.+eval.Given as goal

abbrev pub invariant-map_of-loop-item : goal.invariant-map_of-loop-item
invariant-map_of-loop-item l =
    each (λ x. nra bits64 l.world l.body x l.env) l.item-items
    ≡ gather_from (λ x. alone (nra bits64 l.world l.body x l.env)) l.all (drop l.item-index l.item-items)

abbrev pub invariant-select_of-loop-item : goal.invariant-select_of-loop-item
invariant-select_of-loop-item l =
    gather (kept (nra bits64 l.world l.body) l.env) l.item-items
    ≡ gather_from (kept (nra bits64 l.world l.body) l.env) l.all (drop l.item-index l.item-items)

abbrev pub invariant-join_of-loop-item : goal.invariant-join_of-loop-item
invariant-join_of-loop-item l =
    gather (joined (nra bits64 l.world l.body) l.env) l.item-items
    ≡ all_added (joined (nra bits64 l.world l.body) l.env) l.all (drop l.item-index l.item-items)

abbrev pub invariant-env_map_of-loop-item : goal.invariant-env_map_of-loop-item
invariant-env_map_of-loop-item l =
    each (λ x. nra bits64 l.world l.body l.input x) l.item-items
    ≡ gather_from (λ x. alone (nra bits64 l.world l.body l.input x)) l.all (drop l.item-index l.item-items)
