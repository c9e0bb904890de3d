use Rattle.std.proofs.Common.{◌∙◌, ◌+◌, sym, ap, drop}
use Rattle.std.specs.Prelude.{◌&&◌}
use Rattle.qc_ops.specs.Records.{compatible}
use Rattle.qc_rt.specs.Seen.{fields_seen}
use Rattle.qc_runtime.proofs.ObjectLaws.{shared_more}
use Rattle.qc_runtime.proofs.objects.compatible.Goals as goal

pub returns-then-not-branch : goal.returns-then-not-branch
returns-then-not-branch c =
    sym (shared_more c.as_slice-pair-items.result.now c.args.second.now c.loop-pair.pair-index c.pair-item.result
    c.as_str.result.now c.get.result (compatible (fields_seen c.args.first.now) (fields_seen c.args.second.now))
    c.in_ok-is_same_at.field-0 c.loop-pair-test.true c.pair-item.is c.as_str.ensures c.get.ensures
    c.in_ok-is_same_at.ensures c.loop-pair.invariant
    ∙ ap (λ t. t && compatible (fields_seen (drop (c.loop-pair.pair-index + 1) c.as_slice-pair-items.result.now))
    (fields_seen c.args.second.now))
    c.if-not-branch.true)

pub loop-pair-preserved : goal.loop-pair-preserved
loop-pair-preserved c =
    shared_more c.as_slice-pair-items.result.now c.args.second.now c.loop-pair.pair-index c.pair-item.result
    c.as_str.result.now c.get.result (compatible (fields_seen c.args.first.now) (fields_seen c.args.second.now))
    c.in_ok-is_same_at.field-0 c.loop-pair-test.true c.pair-item.is c.as_str.ensures c.get.ensures
    c.in_ok-is_same_at.ensures c.loop-pair.invariant
    ∙ ap (λ t. t && compatible (fields_seen (drop (c.loop-pair.pair-index + 1) c.as_slice-pair-items.result.now))
    (fields_seen c.args.second.now))
    c.if-not-branch.false
