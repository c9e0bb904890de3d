-- What variables stand for: look-ups, and a value put at a variable.
use Rattle.std.specs.Prelude.{ℕ, ◌==◌, cond, List, [], ◌∷◌, Option, Some, None}

-- the value at the variable: of pairs with one variable the first counts
abbrev pub look : {T : Type 0} → ℕ → List (ℕ × T) → Option T
look x [] = None
look x (p ∷ ps) = cond (p.0 == x) (Some p.1) (look x ps)

-- the value at the variable, in place of the one before or last
abbrev pub put : {T : Type 0} → ℕ → T → List (ℕ × T) → List (ℕ × T)
put x value [] = (x, value) ∷ []
put x value (p ∷ ps) = cond (p.0 == x) ((x, value) ∷ ps) (p ∷ put x value ps)
