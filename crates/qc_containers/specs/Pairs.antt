-- Pairs of a name and a value: look-ups, and a pair put in its place.
use Rattle.std.specs.Prelude.{ℕ, suc, List, [], ◌∷◌, Option, Some, None, cond}
use Rattle.std.specs.Ordering.{is_lt}
use Rattle.std.specs.Str.{bytes_eq}
use Rattle.qc_containers.specs.Rising.{text_cmp}

-- the value at the name
abbrev pub lookup : {T : Type 0} → List ℕ → List (List ℕ × T) → Option T
lookup name [] = None
lookup name (p ∷ ps) = cond (bytes_eq p.0 name) (Some p.1) (lookup name ps)

-- the value at the name, before the first pair whose name is not below it
abbrev pub put : {T : Type 0} → List ℕ → T → List (List ℕ × T) → List (List ℕ × T)
put name value [] = (name, value) ∷ []
put name value (p ∷ ps) = cond (is_lt (text_cmp p.0 name)) (p ∷ put name value ps) ((name, value) ∷ p ∷ ps)

-- how many names are below the name, from the first on
abbrev pub below : {T : Type 0} → List ℕ → List (List ℕ × T) → ℕ
below name [] = 0
below name (p ∷ ps) = cond (is_lt (text_cmp p.0 name)) (suc (below name ps)) 0
