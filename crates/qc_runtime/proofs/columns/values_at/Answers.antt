use Rattle.qc_runtime.proofs.Rows.{value_more}
use Rattle.qc_runtime.proofs.columns.values_at.Goals as goal

pub loop-key-preserved : goal.loop-key-preserved
loop-key-preserved c =
    value_more c.args.keys.now c.args.fields.now c.loop-key.key-index c.key-item.result c.as_str.result.now c.get.result
    c.in_ok-value.value c.loop-key.values c.add.new.self c.loop-key-test.true c.key-item.is c.as_str.ensures
    c.get.ensures c.in_ok-value.ensures c.loop-key.invariant c.in_ok-add.ensures.ok
