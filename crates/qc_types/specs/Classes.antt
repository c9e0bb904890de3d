-- Lists of classes: who is below whom, and which lists are good.
use Rattle.std.specs.Prelude.{ℕ, Bool, false, ◌||◌, List, [], ◌∷◌, Option, Some, None, cond, is_some, option_map}
use Rattle.std.specs.Str.{bytes_eq}
use Rattle.qc_types.specs.declared.ty.ClassDef.{ClassDef}
use Rattle.qc_types.specs.declared.ty.Ty.{Ty}

-- the classes, the last listed first
abbrev pub Defs : Type 0
Defs = List ClassDef

-- the class of a name
abbrev pub class_of : Defs → List ℕ → Option ClassDef
class_of [] a = None
class_of (d ∷ ds) a = cond (bytes_eq d.name a) (Some d) (class_of ds a)

-- some class has the name
abbrev pub listed : Defs → List ℕ → Bool
listed c a = is_some (class_of c a)

-- what the content of a class's own values fits
abbrev pub shape : Defs → List ℕ → Option Ty
shape c a = option_map (λ d. d.shape) (class_of c a)

-- what f gives of the parent, if there is one
abbrev pub parents : (List ℕ → List (List ℕ)) → Option (List ℕ) → List (List ℕ)
parents f None = []
parents f (Some p) = f p

-- a class and its ancestors, upward; a parent is listed before its children
abbrev pub chain : Defs → List ℕ → List (List ℕ)
chain [] a = []
chain (d ∷ ds) a = cond (bytes_eq d.name a) (a ∷ parents (λ p. chain ds p) d.parent) (chain ds a)

-- the name is one of the names
abbrev pub is_in : List ℕ → List (List ℕ) → Bool
is_in b [] = false
is_in b (a ∷ as') = bytes_eq a b || is_in b as'

-- both are listed, and a is b or b is an ancestor of a
abbrev pub below : Defs → List ℕ → List ℕ → Bool
below c a b = is_in b (chain c a)

-- the first of the names that m is below
abbrev pub first_above : Defs → List ℕ → List (List ℕ) → Option (List ℕ)
first_above c m [] = None
first_above c m (n ∷ ns) = cond (below c m n) (Some n) (first_above c m ns)

-- n where both are n, and else the first from n upward that m is below
abbrev pub common : Defs → List ℕ → List ℕ → Option (List ℕ)
common c n m = cond (bytes_eq n m) (Some n) (first_above c m (chain c n))
