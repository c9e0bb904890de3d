use Rattle.std.proofs.Common.{◌∙◌}
use Rattle.qc_containers.specs.Pairs.{lookup, put}
use Rattle.qc_data.specs.declared.data.Json.TheVariants as J
use Rattle.qc_rt.specs.Seen.{seen}
use Rattle.qc_runtime.proofs.ObjectLaws.{absent_seen, group_seen}
use Rattle.qc_runtime.proofs.grouping.group_of.Goals as goal

pub put-requires : goal.put-requires
put-requires c = record {
  absent = (λ k. lookup (c.in_ok-name.ensures k) (c.in_ok-fields.ensures k))
      ∙ absent_seen c.args.g.now (seen c.args.key.now) c.in_ok-fields_of.field-0.now c.requires.lacking
      c.in_ok-fields_of.ensures.0;
}

pub returns-in-Ok : goal.returns-in-Ok
returns-in-Ok c =
    group_seen c.args.g.now (seen c.args.key.now) c.args.members c.in_ok-fields_of.field-0.now c.put.new.self
    c.in_ok-fields_of.ensures.0 c.requires.unmarked c.in_ok-fields_of.ensures.1
    (c.in-Ok.ensures.ok ∙ (λ k. put (c.in_ok-name.ensures k) (J.Array c.args.members) (c.in_ok-fields.ensures k)))
