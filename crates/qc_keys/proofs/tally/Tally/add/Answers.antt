use Rattle.std.proofs.Common.{rules}
use Rattle.qc_keys.proofs.Counting.{one_more}
use Rattle.qc_keys.proofs.tally.Tally.add.Goals as goal

pub returns-clause-ok : goal.returns-clause-ok
returns-clause-ok c =
    one_more c.args.key c.self.inside.counts.entries c.args.self.now c.insert.new.self.entries c.count.result
    c.in-Some.count c.self.view_is c.count.ensures (search rules) c.in_ok-insert.ensures.updates.0
