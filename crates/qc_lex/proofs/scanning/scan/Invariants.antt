use Rattle.std.proofs.Common.{◌≤◌, ◌-◌, length}
use Rattle.qc_lex.proofs.Reached.{Reaches}
use Rattle.qc_lex.proofs.scanning.scan.Given as goal

abbrev pub invariant-loop-words : goal.invariant-loop-words
invariant-loop-words l = Reaches l.table l.bytes l.words l.at × (l.at ≤ length l.bytes)

abbrev pub decreases-loop-words : goal.decreases-loop-words
decreases-loop-words l = length l.bytes - l.at
