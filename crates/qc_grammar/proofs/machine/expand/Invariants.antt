use Rattle.std.proofs.Common.{◌≡◌, ◌+◌, ◌*◌, ℕ, List, ◌∷◌, length}
use Rattle.qc_grammar.specs.inner.Certificate.{steps}
use Rattle.qc_grammar.specs.inner.Machine.{table, left, next, Reached}
use Rattle.qc_grammar.proofs.machine.expand.Given as goal

abbrev pub invariant-places : goal.invariant-places
invariant-places g l = (kinds rest : List ℕ) → l.next ≡ next rest
    → Reached (table l.table) kinds (left (table l.table) (l.start ∷ l.fn.stack)) l.at rest l.fn.events
    → Reached (table l.table) kinds (left (table l.table) (l.place ∷ l.stack)) l.at rest l.events

abbrev pub decreases-places : goal.decreases-places
decreases-places g l = 2 * steps g.notes (left (table l.table) (l.place ∷ l.stack)) + length l.stack
