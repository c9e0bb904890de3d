use Rattle.qc_route.proofs.Grown.{room_first, path_length}
use Rattle.qc_route.proofs.routing.route.Goals as goal

pub along-requires-clause-small : goal.along-requires-clause-small
along-requires-clause-small c =
    rw c.words.ensures.same (room_first c.args.stage c.args.path.now (path_length c.args.path.now c.words.ensures.path)
    c.requires.small)
