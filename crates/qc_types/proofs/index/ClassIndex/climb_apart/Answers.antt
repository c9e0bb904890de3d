use Rattle.std.proofs.Common.{Some, suc, ap, ◌∙◌, sym, subst, arith}
use Rattle.qc_types.specs.inner.Places.{Within, first_in, path}
use Rattle.qc_types.proofs.Jumps.{first_passed, up_falls}
use Rattle.qc_types.proofs.Paths.{first_up}
use Rattle.qc_types.proofs.Places.{parent_before}
use Rattle.qc_types.proofs.index.ClassIndex.climb_apart.Goals as goal

pub returns-in-Some-clause-before : goal.returns-in-Some-clause-before
returns-in-Some-clause-before c =
    let j = c.in-Some.jump in omega (arith, up_falls c.args.self.now (suc j.over) c.args.at j.to c.in-Some.ensures)

pub returns-in-Some-clause-path : goal.returns-in-Some-clause-path
returns-in-Some-clause-path c =
    let j = c.in-Some.jump in
    first_passed c.args.self.now c.requires.names c.args.b c.requires.b (suc j.over) c.args.at j.to c.requires.at
    c.in-Some.ensures (sym c.if-not-is_on_path.ensures)

pub returns-in_default-clause-before : goal.returns-in_default-clause-before
returns-in_default-clause-before c =
    subst (Within c.args.at) (sym c.parent.ensures) (parent_before c.args.self.now c.args.at)

pub returns-in_default-clause-path : goal.returns-in_default-clause-path
returns-in_default-clause-path c =
    let k = c.args.self.now in
    first_up k c.args.at c.args.b c.requires.at c.requires.apart
    ∙ ap (λ o. first_in (path k (Some c.args.b)) (path k o)) (sym c.parent.ensures)
