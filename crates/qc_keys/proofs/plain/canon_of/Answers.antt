use Rattle.std.proofs.Common.{◌∙◌, sym}
use Rattle.qc_keys.proofs.Plainness.{copy_is_canon}
use Rattle.qc_keys.proofs.plain.canon_of.Goals as goal

pub returns-then-is_plain : goal.returns-then-is_plain
returns-then-is_plain c =
    copy_is_canon c.copy.result c.args.d.now c.copy.ensures (sym c.is_plain.ensures ∙ c.if-is_plain.true)
