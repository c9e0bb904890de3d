use Rattle.std.proofs.Common.{◌≡◌, ◌-◌, arith, false, rules, true}
use Rattle.qc_types.proofs.Indexing.{goes_on, no_end, stops}
use Rattle.qc_types.proofs.goodness.is_good.Goals as goal

pub returns-then-not-is_good_class : goal.returns-then-not-is_good_class
returns-then-not-is_good_class c =
    stops c.args.index.now c.loop-left.left c.in-Some.def.now c.is_good_class.result c.loop-left.invariant.left
    c.loop-left-test.true c.in-Some.ensures c.is_good_class.ensures (search rules)

pub loop-left-preserved : goal.loop-left-preserved
loop-left-preserved c = record {
  within = omega (arith, c.loop-left.invariant.within);
  left = goes_on c.args.index.now c.loop-left.left c.in-Some.def.now c.is_good_class.result c.loop-left.invariant.left
      c.loop-left-test.true c.in-Some.ensures c.is_good_class.ensures (search rules);
}

pub returns-in-None : goal.returns-in-None
returns-in-None c =
    no_end _ c.args.index.now (c.loop-left.left - 1)
    (omega (arith, c.loop-left.invariant.within, c.loop-left-test.true)) c.in-None.ensures
