use Rattle.qc_route.proofs.Pieces.{short_walk}
use Rattle.qc_route.proofs.path.+is_walk.Goals as goal

pub returns-in_default : goal.returns-in_default
returns-in_default t c = short_walk c.args.words.now c.in_default.len_below
