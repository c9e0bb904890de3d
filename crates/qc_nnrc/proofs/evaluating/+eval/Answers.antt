use Rattle.std.proofs.Common.{◌≡◌, rules, arith}
use Rattle.std.proofs.lemmas.Grind.{common_steps}
use Rattle.qc_data.specs.Outcome.{Value, Halts, Stuck, bits64}
use Rattle.qc_data.specs.declared.data.Datum.{the_lemmas as datum_lemmas}
use Rattle.qc_ops.specs.Sides.{by_side}
use Rattle.qc_nnrc.specs.declared.tree.Nnrc.{the_lemmas}
use Rattle.qc_nnrc.specs.declared.tree.Nnrc.TheVariants as tree
use Rattle.qc_nnrc.specs.Meaning.{bound_to, nnrc}
use Rattle.qc_nnrc.specs.inner.Chains.{pairs_of}
use Rattle.qc_nnrc.proofs.Sides.{either_halts}
use Rattle.qc_nnrc.proofs.evaluating.+eval.Goals as goal

-- a value on no side
pub outcome-returns : goal.outcome-returns
outcome-returns t c = λ n.
    let p = c.in-Either in
    let w = c.args.world.now in
    let f = pairs_of c.args.chain.now in
    let is : c.args.e.now ≡ tree.Either p.a p.x p.b p.y p.c =
    first_of (search (rules, the_lemmas), grind (arith, common_steps, the_lemmas)) in
    let value : nnrc bits64 w p.a f ≡ Value c.get-in-Either-2.result.now =
    first_of (search rules, grind (arith, common_steps)) in
    let none : by_side (bound_to p.x (nnrc bits64 w p.b) f) (bound_to p.y (nnrc bits64 w p.c) f)
    c.get-in-Either-2.result.now ≡ Halts Stuck =
    first_of (search (rules, datum_lemmas), grind (arith, common_steps, datum_lemmas)) in
    either_halts bits64 w c.args.e.now p.a p.x p.b p.y p.c f c.get-in-Either-2.result.now Stuck is value none
