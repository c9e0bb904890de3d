-- Look-ups in rows of bindings, the last of which is the newest.
use Rattle.std.proofs.Common.{◌≡◌, ℕ, true, false, cond, List, [], ◌∷◌, refl, sym, ap, ◌∙◌}
use Rattle.std.specs.Prelude.{Option, Some, None}
use Rattle.std.specs.Str.{bytes_eq}
use Rattle.qc_containers.specs.Pairs.{lookup}
use Rattle.qc_types.specs.declared.ty.Ty.{Ty}
use Rattle.qc_oql_tree.specs.Bindings.{or_else_some}
use Rattle.qc_oql_tree.specs.FormTypings.{Types}
use Rattle.qc_oql_check.specs.inner.Scopes.{onto}

-- what is found in a row, after what was found before
abbrev pub newest : List ℕ → Option Ty → Types → Option Ty
newest name found [] = found
newest name found (b ∷ bs) = newest name (cond (bytes_eq b.0 name) (Some b.1) found) bs

newest_onto : (name : List ℕ) (row s : Types) → lookup name (onto row s) ≡ newest name (lookup name s) row
newest_onto name [] s = refl
newest_onto name (b ∷ bs) s = newest_onto name bs (b ∷ s)

pub lookup_newest : (name : List ℕ) (row : Types) → lookup name (onto row []) ≡ newest name None row
lookup_newest name row = newest_onto name row []

newest_or : (name : List ℕ) (found o : Option Ty) (row : Types)
    → newest name (or_else_some found o) row ≡ or_else_some (newest name found row) o
newest_or name found o [] = refl
newest_or name found o (b ∷ bs) =
    elim (bytes_eq b.0 name) as (λ t. newest name (cond t (Some b.1) (or_else_some found o)) bs
    ≡ or_else_some (newest name (cond t (Some b.1) found) bs) o)
    [ true ↦ newest_or name (Some b.1) o bs | false ↦ newest_or name found o bs ]

-- the row's own, or else what is bound already
pub lookup_onto : (name : List ℕ) (row s : Types)
    → lookup name (onto row s) ≡ or_else_some (lookup name (onto row [])) (lookup name s)
lookup_onto name row s =
    newest_onto name row s ∙ newest_or name None (lookup name s) row
    ∙ ap (λ o. or_else_some o (lookup name s)) (sym (lookup_newest name row))
