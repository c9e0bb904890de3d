-- Where variables stand among pairs.
use Rattle.std.specs.Prelude.{ℕ, suc, ◌==◌, cond, List, [], ◌∷◌}

-- how many pairs stand before the first one of the variable
abbrev pub place_of : {T : Type 0} → ℕ → List (ℕ × T) → ℕ
place_of x [] = 0
place_of x (p ∷ ps) = cond (p.0 == x) 0 (suc (place_of x ps))
