use Rattle.std.proofs.Common.{◌≡◌, drop}
use Rattle.qc_containers.specs.Pairs.{lookup}
use Rattle.qc_oql_eval.proofs.scope.in_row.Given as goal

abbrev pub invariant-loop-bound : goal.invariant-loop-bound
invariant-loop-bound l = lookup l.name l.row ≡ lookup l.name (drop l.bound-index l.row)
