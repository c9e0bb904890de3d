use Rattle.std.proofs.Common.{◌+◌, ◌≤◌, map}
use Rattle.std.specs.Prelude.{sum}
use Rattle.qc_imp.specs.Sizes.{stmt_size}
use Rattle.qc_rows_programs.proofs.imperative_tree.+statement.Given as goal

-- the statements so far took their nodes of the room
abbrev pub invariant-in_order-loop-json : goal.invariant-in_order-loop-json
invariant-in_order-loop-json l = sum (map stmt_size l.made) + l.room ≤ l.initial.room
