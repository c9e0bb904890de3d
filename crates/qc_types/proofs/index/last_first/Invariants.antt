use Rattle.std.proofs.Common.{◌≡◌, ◌++◌, reverse, vec_len}
use Rattle.qc_types.proofs.index.last_first.Given as goal

-- what has been moved, and what is left
abbrev pub invariant-loop-def : goal.invariant-loop-def
invariant-loop-def l = l.made.items ++ reverse l.defs.items ≡ reverse l.fn.defs.items

abbrev pub decreases-loop-def : goal.decreases-loop-def
decreases-loop-def l = vec_len l.defs
