-- Pairs whose names rise.
use Rattle.std.specs.Prelude.{ℕ, List, [], ◌∷◌, ◌≡◌}
use Rattle.std.specs.Ordering.{nat_cmp}
use Rattle.std.specs.declared.cmp.Ordering.{Ordering}
use Rattle.std.specs.declared.cmp.Ordering.TheVariants.{Less}
use Rattle.std.specs.Cmp.Lexicographic.{slice_cmp}

-- texts by their bytes, which is by their code points
abbrev pub text_cmp : List ℕ → List ℕ → Ordering
text_cmp = slice_cmp nat_cmp

-- the pair, with h applied to its value
abbrev pub on_value : {X Y : Type 0} → (X → Y) → List ℕ × X → List ℕ × Y
on_value h p = (p.0, h p.1)

-- each name of the list comes after n
abbrev pub Above : {T : Type 0} → List ℕ → List (List ℕ × T) → Type 0
Above n [] = Unit {0}
Above n (p ∷ ps) = (text_cmp n p.0 ≡ Less) × Above n ps

-- rising distinct names
abbrev pub Rising : {T : Type 0} → List (List ℕ × T) → Type 0
Rising [] = Unit {0}
Rising (p ∷ ps) = Above p.0 ps × Rising ps
