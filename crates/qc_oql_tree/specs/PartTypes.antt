-- What lists of parts give, by their types.
use Rattle.std.specs.Prelude.{ℕ, ◌&&◌, not, cond, List, [], ◌∷◌, Option, Some, None, Result, Ok, Err}
use Rattle.std.specs.Prelude.{option_and_then, is_some}
use Rattle.qc_containers.specs.Name.{is_name}
use Rattle.qc_containers.specs.Pairs.{lookup, put}
use Rattle.qc_types.specs.declared.ty.Ty.{Ty}
use Rattle.qc_types.specs.Classes.{Defs}
use Rattle.qc_types.specs.Joins.{join}

-- the join of types with those before, from left to right
abbrev pub join_all : Defs → Ty → List Ty → Option Ty
join_all c t [] = Some t
join_all c t (u ∷ us) = option_and_then (λ v. join_all c v us) (join c t u)

-- a field of a struct: the place of its label, the label and the type
pub record FieldType : Type 0 where
  pub at : ℕ
  pub label : List ℕ
  pub type : Ty

-- the fields behind a row; a label that is no name, or that an earlier field has, is a fault
abbrev pub row_of : List FieldType → List (List ℕ × Ty) → Result (List (List ℕ × Ty)) ℕ
row_of [] row = Ok row
row_of (f ∷ fs) row =
    cond (is_name f.label && not (is_some (lookup f.label row))) (row_of fs (put f.label f.type row)) (Err f.at)
