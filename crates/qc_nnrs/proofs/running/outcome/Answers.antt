use Rattle.std.proofs.Common.{[], ◌∷◌, rules}
use Rattle.qc_data.specs.Outcome.{bits64}
use Rattle.qc_nnrs.specs.Meaning.{Sets}
use Rattle.qc_nnrs.proofs.Logging.{stmt_is}
use Rattle.qc_nnrs.proofs.running.outcome.Goals as goal

pub returns-in_err-all : goal.returns-in_err-all
returns-in_err-all c =
    let is = stmt_is bits64 c.args.world.now c.args.t.now.body ((c.args.t.now.result, Sets) ∷ []) in search rules

pub returns : goal.returns
returns c =
    let is = stmt_is bits64 c.args.world.now c.args.t.now.body ((c.args.t.now.result, Sets) ∷ []) in search rules
