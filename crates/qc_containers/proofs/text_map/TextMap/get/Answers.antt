use Rattle.std.proofs.Common.{ap, sym, ◌∙◌, Some, None, cond}
use Rattle.qc_containers.proofs.Halves.{past_all, read_there}
use Rattle.qc_containers.proofs.text_map.TextMap.get.Goals as goal

pub returns-in_err-pair : goal.returns-in_err-pair
returns-in_err-pair g c =
    rw c.from_residual.ensures (past_all c.args.name.now c.args.self.now c.as_slice-pairs.result.now c.place.result
    c.as_slice-pairs.ensures.pairs c.as_slice-pairs.ensures.rising c.place.ensures c.in_err-pair.ensures.lookup.3)

pub returns-then-eq : goal.returns-then-eq
returns-then-eq g c =
    ap (λ b. cond b (Some c.in_ok-pair.pair.now.1) None) (sym c.if-eq.true)
    ∙ read_there c.args.name.now c.as_str.result.now c.args.self.now c.as_slice-pairs.result.now c.place.result
    c.in_ok-pair.pair.now c.eq.result c.as_slice-pairs.ensures.pairs c.as_slice-pairs.ensures.rising c.place.ensures
    c.in_ok-pair.ensures.lookup.3.0 c.in_ok-pair.ensures.lookup.1 c.as_str.ensures c.eq.ensures

pub returns-else-eq : goal.returns-else-eq
returns-else-eq g c =
    ap (λ b. cond b (Some c.in_ok-pair.pair.now.1) None) (sym c.if-eq.false)
    ∙ read_there c.args.name.now c.as_str.result.now c.args.self.now c.as_slice-pairs.result.now c.place.result
    c.in_ok-pair.pair.now c.eq.result c.as_slice-pairs.ensures.pairs c.as_slice-pairs.ensures.rising c.place.ensures
    c.in_ok-pair.ensures.lookup.3.0 c.in_ok-pair.ensures.lookup.1 c.as_str.ensures c.eq.ensures
