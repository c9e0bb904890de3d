-- What comes first of what is left, once its rules and actions are done.
use Rattle.std.specs.Prelude.{◌≡◌, ℕ, ◌+◌, List, [], ◌∷◌, Option, Some, None, Result, Ok, Err}
use Rattle.qc_containers.specs.declared.memory.Memory.{Memory}
use Rattle.qc_grammar.specs.declared.symbol.Symbol.{Symbol}
use Rattle.qc_grammar.specs.declared.symbol.Symbol.TheVariants.{Token}
use Rattle.qc_grammar.specs.declared.symbol.Event.{Event}
use Rattle.qc_grammar.specs.declared.machine.Top.{Top}
use Rattle.qc_grammar.specs.declared.machine.Top.TheVariants.{Wants, Ends, Fails}
use Rattle.qc_grammar.specs.inner.Derivations.{Rules, Whole}
use Rattle.qc_grammar.specs.inner.Machine.{Table, Reached, body_at, left, next}
use Rattle.qc_grammar.specs.Parsing.{Refused}

-- the symbol at a place of an alternative, or none at its end
abbrev pub Opens : Table → ℕ → Option Symbol → Type 0
Opens o p None = body_at o p ≡ []
Opens o p (Some x) = body_at o p ≡ x ∷ body_at o (p + 2)

-- by what comes first: the kinds lead to what is left, or they are refused here
abbrev pub After : Rules → Table → List ℕ → ℕ → List ℕ → List ℕ → List Event → Result Top Memory → Type 0
After g o kinds i rest ps es (Ok (Wants k p)) = Reached o kinds (Token k ∷ left o (p ∷ ps)) i rest es
After g o kinds i rest ps es (Ok Ends) = Reached o kinds [] i rest es
After g o kinds i rest ps es (Ok Fails) = Refused (Whole g) kinds i
After g o kinds i rest ps es (Err e) = Unit {0}

-- what leads to the first places leads to what is left of them
abbrev pub Expands : Rules → Table → ℕ → ℕ → List ℕ → List Event → List ℕ → List Event → Result Top Memory → Type 0
Expands g o k i ps es qs fs r =
    (kinds rest : List ℕ) → k ≡ next rest → Reached o kinds (left o ps) i rest es → After g o kinds i rest qs fs r
