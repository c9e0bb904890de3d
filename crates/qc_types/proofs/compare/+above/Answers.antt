use Rattle.std.proofs.Common.{◌≡◌, arith, rules, true, false}
use Rattle.qc_types.specs.Types.{sub}
use Rattle.qc_types.proofs.Above.{goes_on, ends, lacks}
use Rattle.qc_types.proofs.compare.+above.Goals as goal

pub has_above-returns-then-not-is_above : goal.has_above-returns-then-not-is_above
has_above-returns-then-not-is_above t c =
    let f : c.is_above.result ≡ false = search rules in
    ends (sub c.args.index.now) c.args.ts.now c.args.us.now c.as_slice-pair-items.result.now c.loop-pair.pair-index
    c.pair-item.result c.as_str.result.now c.in-Some.t.now c.is_above.result _ c.loop-pair.invariant.left
    c.loop-pair.invariant.whole c.loop-pair.invariant.rising
    (omega arith) c.pair-item.is c.as_str.ensures.text c.in-Some.ensures c.is_above.ensures f

pub has_above-returns-in-None : goal.has_above-returns-in-None
has_above-returns-in-None t c =
    lacks (sub c.args.index.now) c.args.ts.now c.args.us.now c.as_slice-pair-items.result.now c.loop-pair.pair-index
    c.pair-item.result c.as_str.result.now _ c.loop-pair.invariant.left c.loop-pair.invariant.whole
    c.loop-pair.invariant.rising (omega arith) c.pair-item.is c.as_str.ensures.text c.in-None.ensures

pub has_above-loop-pair-preserved : goal.has_above-loop-pair-preserved
has_above-loop-pair-preserved t c = let f : c.is_above.result ≡ true = search rules in record {
  rising = c.loop-pair.invariant.rising;
  left = goes_on (sub c.args.index.now) c.args.ts.now c.args.us.now c.as_slice-pair-items.result.now
      c.loop-pair.pair-index c.pair-item.result c.as_str.result.now c.in-Some.t.now c.is_above.result _
      c.loop-pair.invariant.left c.loop-pair.invariant.whole c.loop-pair.invariant.rising
      (omega arith) c.pair-item.is c.as_str.ensures.text c.in-Some.ensures c.is_above.ensures f;
  whole = c.loop-pair.invariant.whole;
}
