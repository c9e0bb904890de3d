use Rattle.qc_js.specs.Layout.{layout}
use Rattle.qc_js.proofs.Goods.{layout_spells}
use Rattle.qc_js_text.proofs.ReadBack.{read_back}
use Rattle.qc_js_text.proofs.laws.layout_is_read_back.Goals as goal

pub returns : goal.returns
returns c = λ p r h w l d a. read_back (layout p) p r (layout_spells p h w) l d a
