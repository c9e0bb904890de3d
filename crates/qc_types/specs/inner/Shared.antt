-- Rows of named fields where both have a name, as a walk over one of them tests them.
use Rattle.std.specs.Prelude.{ℕ, Bool, true, List, Option, Some, None}
use Rattle.qc_containers.specs.Pairs.{lookup}
use Rattle.qc_types.specs.Rows.{names, all_in}

-- what a record has at a name against what is wanted there, where both are there
abbrev pub at_shared : {A B : Type 0} → (A → B → Bool) → Option A → Option B → Bool
at_shared r None y = true
at_shared r (Some d) None = true
at_shared r (Some d) (Some t) = r d t

-- each value whose name is wanted is one that r takes
abbrev pub has_shared : {A B : Type 0} → (A → B → Bool) → List (List ℕ × A) → List (List ℕ × B) → Bool
has_shared r fs ts = all_in (λ n. at_shared r (lookup n fs) (lookup n ts)) (names fs)
