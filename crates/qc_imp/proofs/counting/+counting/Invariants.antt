use Rattle.std.proofs.Common.{◌≡◌, ◌+◌, drop, map}
use Rattle.std.specs.Prelude.{sum}
use Rattle.qc_imp.specs.Sizes.{stmt_size}
use Rattle.qc_imp.proofs.counting.+counting.Given as goal

-- those counted, and what is left
abbrev pub invariant-all_nodes-loop-statement : goal.invariant-all_nodes-loop-statement
invariant-all_nodes-loop-statement l =
    sum (map stmt_size l.statements) ≡ l.all + sum (map stmt_size (drop l.statement-index l.statements))
