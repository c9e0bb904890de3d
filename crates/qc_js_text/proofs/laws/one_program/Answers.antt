use Rattle.qc_js_text.proofs.Unique.{one_program}
use Rattle.qc_js_text.proofs.laws.one_program.Goals as goal

pub returns : goal.returns
returns c = λ text p q s t.
    one_program _ c.table-table.ensures.same c.table-table.ensures.exact text p q s t
