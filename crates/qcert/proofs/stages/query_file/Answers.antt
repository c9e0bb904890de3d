use Rattle.std.proofs.lemmas.Result.{err_from_is_err_and}
use Rattle.qc_work.specs.Reading.{IsBadQuery}
use Rattle.qc_work.specs.Sources.{IsQuery}
use Rattle.qcert.specs.Fetching.{tokens_in}
use Rattle.qcert.proofs.StageLemmas.{stops, computes}
use Rattle.qcert.proofs.stages.query_file.Goals as goal

pub returns-in_err-words-clause-ended : goal.returns-in_err-words-clause-ended
returns-in_err-words-clause-ended g c =
    let exit = err_from_is_err_and c.from_residual.result c.from_residual.ensures.1 in
    rw (exit.1, exit.2) (stops _ _ _ _ _ _ _ _ c.in_err-words.ensures.ended)

pub returns-clause-ended : goal.returns-clause-ended
returns-clause-ended g c =
    computes (tokens_in c.args.source c.args.name.now) (IsQuery c.args.source c.args.schema.now)
    (IsBadQuery c.args.source c.args.schema.now) _ _ _ _ _ c.in_ok-words.words _ c.in_ok-words.ensures.count
    c.in_ok-words.ensures.ended c.query_in.ensures.reads
