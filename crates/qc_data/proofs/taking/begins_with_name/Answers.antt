use Rattle.std.proofs.Common.{sym, ap, ◌∙◌}
use Rattle.qc_containers.specs.Name.{is_name}
use Rattle.qc_data.proofs.Decoded.{named_plain}
use Rattle.qc_data.proofs.taking.begins_with_name.Goals as goal

pub returns-in-Some : goal.returns-in-Some
returns-in-Some c =
    λ h. named_plain c.args.members.now c.in-Some.text.now c.in-Some.ensures
    (ap is_name (sym c.as_str.ensures) ∙ sym c.is_name.ensures ∙ h)
