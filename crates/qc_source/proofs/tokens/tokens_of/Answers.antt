use Rattle.std.proofs.lemmas.Result.{err_from_is_err_and}
use Rattle.qc_source.proofs.ScanLaws.{scan_fault}
use Rattle.qc_source.proofs.tokens.tokens_of.Goals as goal

pub returns-in_err-scan : goal.returns-in_err-scan
returns-in_err-scan c =
    let exit = err_from_is_err_and c.from_residual.result c.from_residual.ensures.1 in
    rw (exit.1, exit.2) (scan_fault c.args.table c.args.bytes.now _ c.in_err-scan.ensures)

pub returns : goal.returns
returns c = record { scan = c.in_ok-scan.ensures.0; few = c.in_ok-scan.ensures.1 }
