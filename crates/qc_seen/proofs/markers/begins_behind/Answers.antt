use Rattle.std.proofs.Common.{◌≡◌, rules, codes}
use Rattle.std.specs.Ordering.{is_lt}
use Rattle.qc_containers.specs.Rising.{text_cmp}
use Rattle.qc_rt.proofs.Markers.{begins_at}
use Rattle.qc_seen.proofs.markers.begins_behind.Goals as goal

pub returns-else-is_empty : goal.returns-else-is_empty
returns-else-is_empty c = λ h.
    let below : c.lt.result ≡ is_lt (text_cmp (codes "$right") c.as_str.result.now) = search rules in
    begins_at c.as_slice-pairs.result.now c.args.members.now c.index-pairs-0.result c.as_str.result.now c.lt.result
    c.is_empty.result c.as_slice-pairs.ensures.pairs c.as_slice-pairs.ensures.rising c.is_empty.ensures
    c.if-is_empty.false c.index-pairs-0.is c.as_str.ensures below h
