use Rattle.std.proofs.Common.{◌∙◌, sym}
use Rattle.qc_rt.specs.Seen.{seen}
use Rattle.qc_runtime.proofs.ObjectLaws.{part_plain, part_seen}
use Rattle.qc_runtime.proofs.objects.part_of.Goals as goal

pub returns-in_ok-fields_at : goal.returns-in_ok-fields_at
returns-in_ok-fields_at c = (
  part_seen c.args.names.now (seen c.args.a.now) c.in_ok-fields.fields.now c.in_ok-fields_at.field-0
      c.in_ok-fields.ensures.0 (sym c.has_names.ensures ∙ c.if-has_names.true) c.in_ok-fields_at.ensures,
  part_plain c.args.names.now c.in_ok-fields.fields.now c.in_ok-fields_at.field-0 c.in_ok-fields.ensures.1
      c.in_ok-fields_at.ensures,
)
