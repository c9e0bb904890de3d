-- Look-ups in joined lists.
use Rattle.std.proofs.Common.{◌≡◌, ℕ, true, false, cond, List, [], ◌∷◌, ◌++◌, refl}
use Rattle.std.specs.Prelude.{Some}
use Rattle.std.specs.Str.{bytes_eq}
use Rattle.qc_containers.specs.Pairs.{lookup}
use Rattle.qc_oql_tree.specs.Bindings.{or_else_some}

-- the first list's value, or else the second's
pub lookup_append : {T : Type 0} (name : List ℕ) (xs ys : List (List ℕ × T))
    → lookup name (xs ++ ys) ≡ or_else_some (lookup name xs) (lookup name ys)
lookup_append name [] ys = refl
lookup_append name (x ∷ xs) ys =
    elim (bytes_eq x.0 name) as (λ b. cond b (Some x.1) (lookup name (xs ++ ys))
    ≡ or_else_some (cond b (Some x.1) (lookup name xs)) (lookup name ys))
    [ true ↦ refl | false ↦ lookup_append name xs ys ]
