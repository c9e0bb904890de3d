use Rattle.std.proofs.Common.{rules, w64}
use mir.Syntax.{w128}
use mir.Val.{SFits}
use Rattle.qc_ops.proofs.Products.{product_is}
use Rattle.qc_runtime.proofs.numbers.multiplication.Goals as goal

pub returns : goal.returns
returns c =
    let fits : SFits w64 c.in_ok-x.x = search rules in
    let fits' : SFits w64 c.in_ok-y.y = search rules in
    let wide : SFits w128 c.from.result = search rules in
    let wide' : SFits w128 c.from-2.result = search rules in
    rw (
      c.in_ok-a.ensures,
      c.in_ok-x.ensures,
      c.in_ok-y.ensures,
      ← product_is c.in_ok-x.x c.in_ok-y.y c.from.result c.from-2.result fits fits' wide wide' c.from.ensures
          c.from-2.ensures,
    ) c.made.ensures
