use Rattle.std.proofs.Common.{map}
use Rattle.qc_rt.specs.Seen.{seen}
use Rattle.qc_seen.proofs.TwinObjects.{found_seen, seen_marks}
use Rattle.qc_seen.proofs.twins.marks.Goals as goal

pub returns-in-Some-Some : goal.returns-in-Some-Some
returns-in-Some-Some c =
    seen_marks c.in-Some-Some.first c.in-Some-Some.second c.args.items.now c.args.others.now
    (found_seen c.in_ok-first.first c.in-Some-Some.first (map seen c.args.items.now) c.in-Some-Some.is-0
    c.in_ok-first.ensures)
    (found_seen c.in_ok-second.second c.in-Some-Some.second (map seen c.args.others.now) c.in-Some-Some.is-1
    c.in_ok-second.ensures)
