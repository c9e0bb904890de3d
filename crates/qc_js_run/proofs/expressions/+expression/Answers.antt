use Rattle.std.proofs.Common.{◌≡◌, rules}
use Rattle.qc_js.specs.declared.tree.Expr.{the_lemmas}
use Rattle.qc_js.specs.declared.tree.Expr.TheVariants as tree
use Rattle.qc_js_run.specs.inner.Stores.{store_of}
use Rattle.qc_js_run.proofs.Forms.{array_given, call_given}
use Rattle.qc_js_run.proofs.expressions.+expression.Goals as goal

pub outcome-returns-in-Array : goal.outcome-returns-in-Array
outcome-returns-in-Array t c =
    let is : c.args.e.now ≡ tree.Array c.in-Array.members = search (rules, the_lemmas) in
    array_given c.args.world.now c.args.e.now c.in-Array.members (store_of c.args.store.now) c.array_of.result is
    (search rules)

pub outcome-returns-in-Call : goal.outcome-returns-in-Call
outcome-returns-in-Call t c =
    let is : c.args.e.now ≡ tree.Call c.in-Call.f c.in-Call.arguments = search (rules, the_lemmas) in
    call_given c.args.world.now c.args.e.now c.in-Call.f c.in-Call.arguments (store_of c.args.store.now) c.called.result is
    (search rules)
