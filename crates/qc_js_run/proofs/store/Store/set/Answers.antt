use Rattle.std.proofs.Common.{◌<◌, drop, length, subst}
use Rattle.qc_js.specs.Meaning.{set_to}
use Rattle.qc_js_run.specs.inner.Stores.{FirstAlone, NoneOf, store_of}
use Rattle.qc_js_run.proofs.Stores.{changed_none, led}
use Rattle.qc_js_run.proofs.store.Store.set.Goals as goal

pub returns-in-Some : goal.returns-in-Some
unfolding store_of
returns-in-Some c =
    let cs = c.args.self.now.slots.items in
    let within : c.in-Some.at < length cs =
    subst (λ l. c.in-Some.at < length l) c.as_slice.ensures.value c.in-Some.ensures.within in
    let first : FirstAlone c.args.variable (drop c.in-Some.at cs) =
    subst (λ l. FirstAlone c.args.variable (drop c.in-Some.at l)) c.as_slice.ensures.value c.in-Some.ensures.newest in
    led c.args.variable cs c.in-Some.at c.index_mut.result.now within c.index_mut.ensures.value (set_to c.args.value)
    c.set_to.new.slot c.set_to.result first c.set_to.ensures

pub returns-in-None : goal.returns-in-None
unfolding store_of
returns-in-None c =
    let none : NoneOf c.args.variable c.args.self.now.slots.items =
    subst (NoneOf c.args.variable) c.as_slice.ensures.value c.in-None.ensures.none in
    λ m. changed_none (set_to c.args.value) c.args.variable c.args.self.now.slots.items none
