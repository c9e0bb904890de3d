use Rattle.qc_keys.proofs.Counting.{count_at}
use Rattle.qc_keys.proofs.tally.Tally.count.Goals as goal

pub returns-in-Some : goal.returns-in-Some
returns-in-Some c =
    count_at c.args.key.now c.self.inside.counts.entries c.args.self.now _ c.in-Some.ensures.value c.self.view_is

pub returns-in-None : goal.returns-in-None
returns-in-None c =
    count_at c.args.key.now c.self.inside.counts.entries c.args.self.now _ c.in-None.ensures.value c.self.view_is
