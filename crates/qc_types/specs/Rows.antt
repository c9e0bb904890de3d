-- Rows of named fields, one against another, by look-ups.
use Rattle.std.specs.Prelude.{ℕ, Bool, true, false, ◌&&◌, List, [], ◌∷◌, Option, Some, None}
use Rattle.std.specs.Str.{bytes_eq}
use Rattle.qc_containers.specs.Pairs.{lookup}
use Rattle.qc_types.specs.declared.ty.Width.{Width}
use Rattle.qc_types.specs.declared.ty.Width.TheVariants.{Exact, Wide}

-- the names of a row, in order
abbrev pub names : {T : Type 0} → List (List ℕ × T) → List (List ℕ)
names [] = []
names (p ∷ ps) = p.0 ∷ names ps

-- the same names in the same order
abbrev pub same_names : List (List ℕ) → List (List ℕ) → Bool
same_names [] [] = true
same_names [] (n ∷ ns) = false
same_names (m ∷ ms) [] = false
same_names (m ∷ ms) (n ∷ ns) = bytes_eq m n && same_names ms ns

-- the test holds of each
abbrev pub all_in : {A : Type 0} → (A → Bool) → List A → Bool
all_in p [] = true
all_in p (n ∷ ns) = p n && all_in p ns

-- what a record has at a name against what is wanted there
abbrev pub at_field : {A B : Type 0} → (A → B → Bool) → Option A → Option B → Bool
at_field r x None = true
at_field r None (Some t) = false
at_field r (Some d) (Some t) = r d t

-- each wanted name is there, with a value that r takes
abbrev pub has_fields : {A B : Type 0} → (A → B → Bool) → List (List ℕ × A) → List (List ℕ × B) → Bool
has_fields r fs ts = all_in (λ n. at_field r (lookup n fs) (lookup n ts)) (names ts)

-- each wanted name is there with a value that r takes, and where the width is Exact no other name is
abbrev pub fields_in : {A B : Type 0} → Width → (A → B → Bool) → List (List ℕ × A) → List (List ℕ × B) → Bool
fields_in Exact r fs ts = same_names (names fs) (names ts) && has_fields r fs ts
fields_in Wide r fs ts = has_fields r fs ts
