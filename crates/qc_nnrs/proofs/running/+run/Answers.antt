use Rattle.std.proofs.Common.{◌≡◌, rules, arith}
use Rattle.std.proofs.lemmas.Grind.{common_steps}
use Rattle.qc_data.specs.Outcome.{Value, Halts, Stuck, bits64}
use Rattle.qc_data.specs.declared.data.Datum.{the_lemmas as datum_lemmas}
use Rattle.qc_ops.specs.Sides.{by_side}
use Rattle.qc_nnrs.specs.Meaning.{expr}
use Rattle.qc_nnrs.specs.declared.tree.NnrsStmt.{the_lemmas}
use Rattle.qc_nnrs.specs.declared.tree.NnrsStmt.TheVariants as tree
use Rattle.qc_nnrs_store.specs.Chains.{frame_of}
use Rattle.qc_nnrs.specs.inner.Logged.{logged, logs_for, logs_with}
use Rattle.qc_nnrs.proofs.running.+run.Goals as goal

-- a value on no side
pub run-returns : goal.run-returns
run-returns t c =
    let p = c.in-Either in
    let w = c.args.world.now in
    let f = frame_of c.args.chain.now in
    let log = c.args.log.now in
    let is : c.args.s.now ≡ tree.Either p.e p.x p.a p.y p.b = search (rules, the_lemmas) in
    let value : expr bits64 w p.e f ≡ Value c.get-in-Either-2.result.now = search rules in
    let none : by_side (logs_with p.x (logged bits64 w p.a) f log) (logs_with p.y (logged bits64 w p.b) f log)
    c.get-in-Either-2.result.now ≡ Halts Stuck = grind (arith, common_steps, datum_lemmas) in
    let e : logged bits64 w c.args.s.now f log ≡ Halts Stuck = search (rules, the_lemmas) in
    search rules

-- the members of a value
pub run-returns-in-For : goal.run-returns-in-For
run-returns-in-For t c =
    let p = c.in-For in
    let w = c.args.world.now in
    let f = frame_of c.args.chain.now in
    let log = c.args.log.now in
    let is : c.args.s.now ≡ tree.For p.x p.e p.b = search (rules, the_lemmas) in
    let value : expr bits64 w p.e f ≡ Value c.get-in-For-3.result.now = search rules in
    let e : logged bits64 w c.args.s.now f log
    ≡ logs_for p.x (logged bits64 w c.get-in-For-2.result.now) f log c.get-in-For-3.result.now =
    search (rules, the_lemmas) in
    rw e c.run_each.ensures
