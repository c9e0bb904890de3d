use Rattle.std.proofs.Common.{◌∙◌, ◌+◌, sym, ap, drop}
use Rattle.std.specs.Prelude.{◌&&◌, not}
use Rattle.qc_ops.specs.Records.{has_names}
use Rattle.qc_rt.specs.Seen.{fields_seen}
use Rattle.qc_runtime.proofs.ObjectLaws.{names_more}
use Rattle.qc_runtime.proofs.objects.has_names.Goals as goal

pub returns-then-is_none : goal.returns-then-is_none
returns-then-is_none c =
    sym (names_more c.args.names.now c.args.fields.now c.loop-name.name-index c.name-item.result c.as_str.result.now
    c.get.result c.is_none.result c.loop-name-test.true c.name-item.is c.as_str.ensures c.get.ensures c.is_none.ensures
    c.loop-name.invariant
    ∙ ap (λ t. not t && has_names (drop (c.loop-name.name-index + 1) c.args.names.now) (fields_seen c.args.fields.now))
    c.if-is_none.true)

pub loop-name-preserved : goal.loop-name-preserved
loop-name-preserved c =
    names_more c.args.names.now c.args.fields.now c.loop-name.name-index c.name-item.result c.as_str.result.now
    c.get.result c.is_none.result c.loop-name-test.true c.name-item.is c.as_str.ensures c.get.ensures c.is_none.ensures
    c.loop-name.invariant
    ∙ ap (λ t. not t && has_names (drop (c.loop-name.name-index + 1) c.args.names.now) (fields_seen c.args.fields.now))
    c.if-is_none.false
