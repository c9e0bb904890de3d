use Rattle.std.proofs.Common.{◌≡◌, map, take}
use Rattle.qc_to_js.specs.inner.Written.{truth}
use Rattle.qc_to_js.proofs.parameters.directions.Given as goal

abbrev pub invariant-loop-key : goal.invariant-loop-key
invariant-loop-key l = l.all ≡ map (λ key. truth key.1) (take l.key-index l.key-items)
