use Rattle.std.proofs.Common.{sym, ◌∙◌}
use Rattle.qc_rt.proofs.Markers.{first_found}
use Rattle.qc_seen.proofs.markers.seeks_marker.Goals as goal

pub returns-then-has_either : goal.returns-then-has_either
returns-then-has_either c =
    c.if-has_either.true
    ∙ sym (first_found c.args.members.now (sym c.has_either.ensures ∙ c.if-has_either.true))
