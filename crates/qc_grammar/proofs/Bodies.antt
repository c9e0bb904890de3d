-- The alternatives of a table, as the code reads them.
use Rattle.std.proofs.Common.{◌≡◌, ◌<◌, ℕ, ◌+◌, List, [], ◌∷◌, ◌++◌, length, refl, ap, arith}
use Rattle.std.specs.Prelude.{drop}
use Rattle.std.proofs.lemmas.List.{length-drop}
use Rattle.qc_grammar.specs.declared.symbol.Symbol.{Symbol}
use Rattle.qc_grammar.specs.inner.Machine.{Table, body, body_at, left}

short : (steps : List ℕ) → length steps < 2 → body steps ≡ []
short [] h = refl
short (s ∷ []) h = refl
short (s ∷ v ∷ steps) h = absurd (omega arith)

-- fewer than two numbers are no step
pub no_step : (o : Table) (p : ℕ) → length o.steps < p + 2 → body_at o p ≡ []
no_step o p h = short (drop p o.steps) (omega (arith, length-drop p o.steps))

-- a symbol that comes first at a place comes first of what is left
pub opened : (o : Table) (p : ℕ) (ps : List ℕ) (x : Symbol) → body_at o p ≡ x ∷ body_at o (p + 2)
    → left o (p ∷ ps) ≡ x ∷ left o ((p + 2) ∷ ps)
opened o p ps x h = ap (λ z. z ++ left o ps) h
