use Rattle.qc_js.proofs.Fronts.{adds_then, adds_as}
use Rattle.qc_js.proofs.Statements.{program_laid}
use Rattle.qc_js.proofs.emitting.emit_program.Goals as goal

pub returns : goal.returns
returns g c =
    adds_as _ _ _ _ _ _ _ _ (program_laid _)
    (adds_then c.put-ok.ensures (adds_then c.emit_lines-ok.ensures
    (adds_then c.put-ok-2.ensures (adds_then c.emit_expr-ok.ensures (c.put.ensures)))))
