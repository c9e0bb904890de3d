use Rattle.std.proofs.Common.{◌≡◌, ◌∙◌, [], ◌∷◌, ap, sym}
use Rattle.std.specs.Prelude.{OnOk, Result, Ok, Err}
use Rattle.qc_containers.specs.declared.memory.Memory.{Memory}
use Rattle.qc_js.specs.Meaning.{Store, newest_done}
use Rattle.qc_js_run.specs.inner.Stores.{behind, seen, store_of}
use Rattle.qc_js_run.proofs.Stores.{behind_push}
use Rattle.qc_js_run.proofs.store.Store.finish.Goals as goal

on_ok : (r : Result (Unit {0}) Memory) (new old last : Store) → OnOk r (new ≡ old) → old ≡ last → OnOk r (new ≡ last)
on_ok (Ok u) new old last h e = h ∙ e
on_ok (Err m) new old last h e = tt

pub returns-in-Some : goal.returns-in-Some
unfolding store_of
returns-in-Some c =
    let rest = c.pop.new.self.items in
    let whole : behind c.args.self.now.slots.items []
    ≡ (c.in-Some.variable, seen c.in-Some.slot) ∷ behind rest [] =
    ap (λ l. behind l []) c.in-Some.ensures.items ∙ behind_push rest (c.in-Some.variable, c.in-Some.slot) [] in
    on_ok c.declare.result _ _ _ c.declare.ensures
    (ap (λ d. (c.in-Some.variable, d) ∷ behind rest []) c.done.ensures ∙ sym (ap newest_done whole))
