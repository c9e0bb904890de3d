use Rattle.std.proofs.Common.{◌∙◌, arith}
use Rattle.qc_route.proofs.Kept.{keeps_further}
use Rattle.qc_route.proofs.Walked.{fewer, next_stage}
use Rattle.qc_route.proofs.routing.+along.Goals as goal

pub along-requires : goal.along-requires
along-requires t c =
    let next = c.in_ok-next-in-len2-up.next in
    let shorter = fewer c.args.words.now c.in-len2-up.len_at_least in (
      omega (arith, shorter, c.decreases),
      (
        c.in_ok-next-in-len2-up.ensures.good,
        next_stage c.args.words.now c.args.stage next _ c.in-len2-up.len_at_least
            (c.in_ok-next-in-len2-up.ensures.ends ∙ c.in-Some.ensures.ends.1) c.requires.walk c.requires.small
            c.in_ok-next-in-len2-up.ensures.size,
      ),
    )

pub returns-in_ok-next-in-len2-up-clause-keeps : goal.returns-in_ok-next-in-len2-up-clause-keeps
returns-in_ok-next-in-len2-up-clause-keeps t c =
    keeps_further c.args.schema.now c.args.stage c.in_ok-next-in-len2-up.next c.along.result
    c.in_ok-next-in-len2-up.ensures.keeps c.along.ensures.keeps
