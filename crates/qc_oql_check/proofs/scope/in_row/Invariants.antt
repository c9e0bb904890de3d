use Rattle.std.proofs.Common.{◌≡◌, [], drop}
use Rattle.std.specs.Option.{option_copied}
use Rattle.qc_containers.specs.Pairs.{lookup}
use Rattle.qc_oql_check.specs.inner.Scopes.{onto}
use Rattle.qc_oql_check.proofs.Lookups.{newest}
use Rattle.qc_oql_check.proofs.scope.in_row.Given as goal

abbrev pub invariant-loop-bound : goal.invariant-loop-bound
invariant-loop-bound l =
    lookup l.name (onto l.row []) ≡ newest l.name (option_copied l.found) (drop l.bound-index l.row)
