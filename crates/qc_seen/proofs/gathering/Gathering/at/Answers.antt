use Rattle.std.proofs.Common.{◌∙◌}
use Rattle.qc_seen.proofs.Gathered.{gathered_at, shared_is}
use Rattle.qc_seen.proofs.gathering.Gathering.at.Goals as goal

pub returns-in-Some : goal.returns-in-Some
returns-in-Some c =
    shared_is c.share.result _ _ c.share.ensures
    (gathered_at c.args.key.now c.self.inside.groups.entries c.args.self.now _ c.in-Some.ensures.value c.self.view_is)

pub returns-in-None : goal.returns-in-None
returns-in-None c =
    c.new.ensures
    ∙ gathered_at c.args.key.now c.self.inside.groups.entries c.args.self.now _ c.in-None.ensures.value c.self.view_is
