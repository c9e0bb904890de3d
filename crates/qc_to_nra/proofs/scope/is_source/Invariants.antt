use Rattle.std.proofs.Common.{◌≡◌, drop}
use Rattle.qc_to_nra.specs.inner.Scopes.{is_source}
use Rattle.qc_to_nra.proofs.scope.is_source.Given as goal

abbrev pub invariant-loop-source : goal.invariant-loop-source
invariant-loop-source l = is_source l.name l.sources ≡ is_source l.name (drop l.source-index l.sources)
