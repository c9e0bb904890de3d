-- That names rise is a property, and one of the names alone.
use Rattle.std.specs.Prelude.{ℕ, List, [], ◌∷◌, map, refl}
use mathlib.Core.HLevel.{×_prop}
use Rattle.std.specs.Ordering.{Ordering-set}
use Rattle.std.specs.declared.cmp.Ordering.TheVariants.{Less}
use Rattle.qc_containers.specs.Rising.{text_cmp, on_value, Above, Rising}

pub Above-prop : {T : Type 0} (n : List ℕ) (ps : List (List ℕ × T)) → IsProp (Above n ps)
Above-prop n [] = λ x y. refl
Above-prop n (p ∷ ps) = ×_prop (Ordering-set (text_cmp n p.0) Less) (Above-prop n ps)

pub Rising-prop : {T : Type 0} (ps : List (List ℕ × T)) → IsProp (Rising ps)
Rising-prop [] = λ x y. refl
Rising-prop (p ∷ ps) = ×_prop (Above-prop p.0 ps) (Rising-prop ps)

-- names do not change where the values do
pub Above-to : {X Y : Type 0} (h : X → Y) (n : List ℕ) (ps : List (List ℕ × X)) → Above n ps
    → Above n (map (on_value h) ps)
Above-to h n [] r = tt
Above-to h n (p ∷ ps) r = (r.0, Above-to h n ps r.1)

pub Above-from : {X Y : Type 0} (h : X → Y) (n : List ℕ) (ps : List (List ℕ × X)) → Above n (map (on_value h) ps)
    → Above n ps
Above-from h n [] r = tt
Above-from h n (p ∷ ps) r = (r.0, Above-from h n ps r.1)

pub Rising-to : {X Y : Type 0} (h : X → Y) (ps : List (List ℕ × X)) → Rising ps → Rising (map (on_value h) ps)
Rising-to h [] r = tt
Rising-to h (p ∷ ps) r = (Above-to h p.0 ps r.0, Rising-to h ps r.1)

pub Rising-from : {X Y : Type 0} (h : X → Y) (ps : List (List ℕ × X)) → Rising (map (on_value h) ps) → Rising ps
Rising-from h [] r = tt
Rising-from h (p ∷ ps) r = (Above-from h p.0 ps r.0, Rising-from h ps r.1)
