use Rattle.std.proofs.Common.{◌≡◌, drop, map}
use Rattle.qc_data.specs.Outcome.{bits64}
use Rattle.qc_js.specs.Meaning.{expr, values_of}
use Rattle.qc_js_run.specs.inner.Stores.{store_of}
use Rattle.qc_js_run.proofs.Values.{values_from}
use Rattle.qc_js_run.proofs.expressions.+expression.Given as goal

abbrev pub invariant-outcomes-loop-e : goal.invariant-outcomes-loop-e
invariant-outcomes-loop-e l =
    values_of (map (expr bits64 l.world) l.all) (store_of l.store)
    ≡ values_from l.values (values_of (map (expr bits64 l.world) (drop l.e-index l.all)) (store_of l.store))
