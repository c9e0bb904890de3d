use Rattle.std.proofs.Common.{◌≡◌, true, subst}
use Rattle.qc_js.specs.Held.{holds_program}
use Rattle.qc_js.proofs.Goods.{layout_spells}
use Rattle.qc_js.proofs.emitting.spelled.Goals as goal

pub returns : goal.returns
returns c =
    layout_spells c.args.js.now (subst (λ z. holds_program z ≡ true) c.program.ensures.same c.held.ensures)
    c.program.ensures.good
