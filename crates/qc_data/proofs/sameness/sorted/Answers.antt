use Rattle.qc_data.proofs.Total.{sorted_own}
use Rattle.qc_data.proofs.sameness.sorted.Goals as goal

pub returns-in-Ok : goal.returns-in-Ok
returns-in-Ok c = sorted_own c.args.items c.sort.new.self c.in-Ok.ensures.sorted c.sort.ensures.stable
