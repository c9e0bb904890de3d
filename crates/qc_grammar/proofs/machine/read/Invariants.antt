use Rattle.std.proofs.Common.{◌≡◌, ◌+◌, ◌∷◌, length}
use Rattle.qc_grammar.specs.inner.Machine.{table, left, Reached}
use Rattle.qc_grammar.proofs.machine.read.Given as goal

abbrev pub ghost-expand : goal.ghost-expand
ghost-expand g a = g.notes

abbrev pub invariant-tokens : goal.invariant-tokens
invariant-tokens g l =
    (l.at + length l.rest ≡ length l.fn.kinds)
    × Reached (table l.table) l.fn.kinds (left (table l.table) (l.place ∷ l.stack)) l.at l.rest l.events

abbrev pub decreases-tokens : goal.decreases-tokens
decreases-tokens g l = length l.rest
