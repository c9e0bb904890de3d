use Rattle.std.proofs.Common.{◌≢◌, suc, ap, ◌∙◌, sym, subst, arith}
use Rattle.qc_types.specs.inner.Places.{Within, on_path}
use Rattle.qc_types.proofs.Jumps.{passed, up_falls}
use Rattle.qc_types.proofs.Paths.{on_up}
use Rattle.qc_types.proofs.Places.{parent_before}
use Rattle.qc_types.proofs.index.ClassIndex.climb_toward.Goals as goal

pub returns-in-Some-clause-before : goal.returns-in-Some-clause-before
returns-in-Some-clause-before c =
    let j = c.in-Some.jump in omega (arith, up_falls c.args.self.now (suc j.over) c.args.at j.to c.in-Some.ensures)

pub returns-in-Some-clause-path : goal.returns-in-Some-clause-path
returns-in-Some-clause-path c =
    let j = c.in-Some.jump in
    passed c.args.self.now c.requires.names c.args.above (suc j.over) c.args.at j.to c.requires.at c.if-jump-above.true
    c.in-Some.ensures

pub returns-in_default-clause-before : goal.returns-in_default-clause-before
returns-in_default-clause-before c =
    subst (Within c.args.at) (sym c.parent.ensures) (parent_before c.args.self.now c.args.at)

pub returns-in_default-clause-path : goal.returns-in_default-clause-path
returns-in_default-clause-path c =
    let k = c.args.self.now in
    let ne : c.args.at ≢ c.args.above = omega (arith, c.requires.above) in
    on_up k c.requires.names c.args.above c.args.at c.requires.at ne
    ∙ ap (on_path k c.args.above) (sym c.parent.ensures)
