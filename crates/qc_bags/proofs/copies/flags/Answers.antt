use Rattle.std.proofs.Common.{◌∙◌, take}
use Rattle.qc_bags.specs.Copies.{copies, keeps}
use Rattle.qc_bags.proofs.Keeping.{flags_more, tallied_more, told}
use Rattle.qc_bags.proofs.copies.flags.Goals as goal

pub loop-item-preserved : goal.loop-item-preserved
loop-item-preserved c =
    let said =
    c.keeps.ensures ∙ told c.args.rule (take c.loop-item.item-index c.args.items.now) c.args.elsewhere.now
    c.loop-item.seen c.in_ok-others.others c.item-item.result c.in_ok-key.key c.in_ok-copies.copies c.count-there.result
    c.loop-item.invariant.seen c.in_ok-others.ensures c.in_ok-key.ensures c.in_ok-copies.ensures.answer
    c.count-there.ensures in
    record {
      seen = tallied_more c.args.items.now c.loop-item.item-index c.item-item.result c.in_ok-key.key c.loop-item.seen
          c.add.new.self c.loop-item-test.true c.item-item.is c.in_ok-key.ensures c.loop-item.invariant.seen
          c.in_ok-copies.ensures.ok;
      told = flags_more (λ k item. keeps c.args.rule k (copies item c.args.elsewhere.now)) c.args.items.now
          c.loop-item.all.items _ c.loop-item.item-index c.item-item.result c.keeps.result _
          c.loop-item.invariant.told c.loop-item-test.true c.item-item.is said c.in_ok-push.ensures.items;
    }
