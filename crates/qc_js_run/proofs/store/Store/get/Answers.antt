use Rattle.std.proofs.Common.{◌<◌, ◌∙◌, ap, drop, length, subst, sym}
use Rattle.qc_js.specs.Meaning.{value_in}
use Rattle.qc_js_run.specs.inner.Stores.{FirstAlone, NoneOf, store_of}
use Rattle.qc_js_run.proofs.Stores.{cell_at, cell_none}
use Rattle.qc_js_run.proofs.store.Store.get.Goals as goal

pub returns-in-Some : goal.returns-in-Some
unfolding store_of
returns-in-Some c =
    let cs = c.args.self.now.slots.items in
    let within : c.in-Some.at < length cs =
    subst (λ l. c.in-Some.at < length l) c.as_slice.ensures.value c.in-Some.ensures.within in
    let first : FirstAlone c.args.variable (drop c.in-Some.at cs) =
    subst (λ l. FirstAlone c.args.variable (drop c.in-Some.at l)) c.as_slice.ensures.value c.in-Some.ensures.newest in
    c.value_in.ensures
    ∙ ap value_in (sym (cell_at c.args.variable cs c.in-Some.at c.index.result.now within c.index.ensures first))

pub returns-in-None : goal.returns-in-None
unfolding store_of
returns-in-None c =
    let none : NoneOf c.args.variable c.args.self.now.slots.items =
    subst (NoneOf c.args.variable) c.as_slice.ensures.value c.in-None.ensures.none in
    ap value_in (sym (cell_none c.args.variable c.args.self.now.slots.items none))
