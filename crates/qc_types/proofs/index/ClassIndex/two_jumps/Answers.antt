use Rattle.std.proofs.Common.{arith}
use Rattle.qc_types.proofs.Jumps.{two_fall, two_ways}
use Rattle.qc_types.proofs.index.ClassIndex.two_jumps.Goals as goal

pub overflow_add-result : goal.overflow_add-result
overflow_add-result c =
    let f = c.in_ok-first.first in
    let s = c.in_ok-second.second in
    omega (
      arith,
      c.ranges.at.fits,
      two_fall c.args.self.now f.over s.over c.args.at f.to s.to c.in_ok-first.ensures
          c.in_ok-second.ensures,
    )

pub overflow_add-result-2 : goal.overflow_add-result-2
overflow_add-result-2 c =
    let f = c.in_ok-first.first in
    let s = c.in_ok-second.second in
    omega (
      arith,
      c.ranges.at.fits,
      two_fall c.args.self.now f.over s.over c.args.at f.to s.to c.in_ok-first.ensures
          c.in_ok-second.ensures,
    )

pub returns : goal.returns
returns c =
    let f = c.in_ok-first.first in
    let s = c.in_ok-second.second in
    two_ways c.args.self.now f.over s.over c.args.at f.to s.to c.in_ok-first.ensures c.in_ok-second.ensures
