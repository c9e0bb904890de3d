use Rattle.std.proofs.Common.{◌/◌, ◌<◌, arith, length}
use Rattle.std.proofs.lemmas.Grind.{common_steps}
use Rattle.qc_types.proofs.Halves.{found_here, high_left, high_rises, low_left, low_rises}
use Rattle.qc_types.proofs.rows.value_of.Goals as goal

pub loop-pairs-preserved-in-Less : goal.loop-pairs-preserved-in-Less
loop-pairs-preserved-in-Less g c =
    let i = c.loop-pairs.invariant in let lt : length c.loop-pairs.pairs.now / 2 < length c.loop-pairs.pairs.now = grind
    (arith, common_steps) in record {
      rising = high_rises c.args.name.now c.loop-pairs.pairs.now c.split_at.result.0.now c.split_at.result.1.now
          (length c.loop-pairs.pairs.now / 2) c.index-high-0.result _ i.rising i.left lt c.split_at.ensures.front
          c.split_at.ensures.back c.index-high-0.is;
      left = high_left c.args.name.now c.loop-pairs.pairs.now c.split_at.result.0.now c.split_at.result.1.now
          (length c.loop-pairs.pairs.now / 2) c.index-high-0.result _ i.rising i.left lt c.split_at.ensures.front
          c.split_at.ensures.back c.index-high-0.is c.as_str.result.now c.as_str.ensures.text c.in-Less.ensures;
    }

pub returns-in-Equal : goal.returns-in-Equal
returns-in-Equal g c =
    let i = c.loop-pairs.invariant in let lt : length c.loop-pairs.pairs.now / 2 < length c.loop-pairs.pairs.now = grind
    (arith, common_steps) in
    found_here c.args.name.now c.loop-pairs.pairs.now c.split_at.result.0.now c.split_at.result.1.now
    (length c.loop-pairs.pairs.now / 2) c.index-high-0.result _ i.rising i.left lt c.split_at.ensures.front
    c.split_at.ensures.back c.index-high-0.is c.as_str.result.now c.as_str.ensures.text c.in-Equal.ensures

pub loop-pairs-preserved : goal.loop-pairs-preserved
loop-pairs-preserved g c =
    let i = c.loop-pairs.invariant in let lt : length c.loop-pairs.pairs.now / 2 < length c.loop-pairs.pairs.now = grind
    (arith, common_steps) in record {
      rising = low_rises c.args.name.now c.loop-pairs.pairs.now c.split_at.result.0.now c.split_at.result.1.now
          (length c.loop-pairs.pairs.now / 2) c.index-high-0.result _ i.rising i.left lt c.split_at.ensures.front
          c.split_at.ensures.back c.index-high-0.is;
      left = low_left c.args.name.now c.loop-pairs.pairs.now c.split_at.result.0.now c.split_at.result.1.now
          (length c.loop-pairs.pairs.now / 2) c.index-high-0.result _ i.rising i.left lt c.split_at.ensures.front
          c.split_at.ensures.back c.index-high-0.is c.as_str.result.now c.as_str.ensures.text c.in-Greater.ensures;
    }
