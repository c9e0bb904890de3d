use Rattle.std.proofs.Common.{◌≡◌, ◌++◌, reverse, vec_len}
use Rattle.qc_types.proofs.index.ClassIndex.of.Given as goal

-- what is left, and what has been taken
abbrev pub invariant-loop-def : goal.invariant-loop-def
invariant-loop-def l = l.left.items ++ l.index ≡ reverse l.fn.defs.items

abbrev pub decreases-loop-def : goal.decreases-loop-def
decreases-loop-def l = vec_len l.left
