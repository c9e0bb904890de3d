use Rattle.std.proofs.Common.{arith, ◌+◌, ◌-◌, ◌/◌, ◌<◌, length}
use Rattle.qc_containers.specs.Pairs.{below}
use Rattle.qc_containers.proofs.Putting.{below-le}
use Rattle.qc_containers.proofs.Halves.{look_after, look_before}
use Rattle.qc_containers.proofs.name_map.place.Goals as goal

pub returns-then-lt : goal.returns-then-lt
returns-then-lt g c =
    omega (
      arith,
      below-le c.args.name.now c.args.pairs.now,
      look_after c.args.name.now c.as_str.result.now c.args.pairs.now
          (length c.args.pairs.now - 1) c.index-pairs-high.result c.lt.result c.requires
          (omega arith) c.index-pairs-high.is c.as_str.ensures.text c.lt.ensures c.if-lt.true,
    )

pub loop-low-init : goal.loop-low-init
loop-low-init g c =
    record {
      rising = c.requires;
      within = omega arith;
      after = omega arith;
      before = below-le c.args.name.now c.args.pairs.now;
    }

pub loop-low-preserved-then-lt-2 : goal.loop-low-preserved-then-lt-2
loop-low-preserved-then-lt-2 g c =
    let i = c.loop-low.invariant in
    let far : c.loop-low.low + (c.loop-low.high - c.loop-low.low) / 2 < below c.args.name.now c.args.pairs.now =
    look_after c.args.name.now c.as_str-in-loop-low.result.now c.args.pairs.now _ c.index-pairs-middle.result
    c.lt-in-loop-low.result i.rising
    (omega arith) c.index-pairs-middle.is c.as_str-in-loop-low.ensures.text c.lt-in-loop-low.ensures
    c.if-lt-2.true in
    record { rising = i.rising; within = i.within; after = omega arith; before = i.before }

pub loop-low-preserved : goal.loop-low-preserved
loop-low-preserved g c = let i = c.loop-low.invariant in record {
  rising = i.rising;
  within = omega arith;
  after = i.after;
  before = look_before c.args.name.now c.as_str-in-loop-low.result.now c.args.pairs.now _ c.index-pairs-middle.result
      c.lt-in-loop-low.result (omega arith) c.index-pairs-middle.is c.as_str-in-loop-low.ensures.text
      c.lt-in-loop-low.ensures c.if-lt-2.false;
}
