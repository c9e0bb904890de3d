-- Fields by name: those at names, and those of two records.
use Rattle.std.specs.Prelude.{ℕ, Bool, true, false, not, ◌&&◌, ◌||◌, cond, List, [], ◌∷◌, Option, Some, None, is_some}
use Rattle.std.specs.List.{list_all}
use Rattle.qc_containers.specs.Pairs.{lookup, put}
use Rattle.qc_types.specs.declared.ty.Width.{Width}
use Rattle.qc_types.specs.declared.ty.Width.TheVariants.{Exact, Wide}
use Rattle.qc_types.specs.declared.ty.Ty.{Ty}
use Rattle.qc_types.specs.declared.ty.Ty.TheOpen.{Ty-F}
use Rattle.qc_types.specs.declared.ty.Ty.TheViews.{out-Ty}
use Rattle.qc_types.specs.declared.ty.Ty.TheVariants as ty
use Rattle.qc_types.specs.Classes.{Defs}
use Rattle.qc_types.specs.Joins.{join}
use Rattle.qc_types.specs.Types.{sub}
use Rattle.qc_ops.specs.Records.{is_among}
use Rattle.qc_typing.specs.Kinds.{when}

-- the row has each of the names
abbrev pub has_names : {T : Type 0} → List (List ℕ) → List (List ℕ × T) → Bool
has_names names row = list_all (λ name. is_some (lookup name row)) names

-- the field put in its place, unless there is one of its name
abbrev pub put_new : {T : Type 0} → List ℕ → T → List (List ℕ × T) → List (List ℕ × T)
put_new name value row = cond (is_some (lookup name row)) row (put name value row)

-- the value that was found, put in the same way
abbrev pub put_found : {T : Type 0} → List ℕ → Option T → List (List ℕ × T) → List (List ℕ × T)
put_found name None row = row
put_found name (Some value) row = put_new name value row

-- the fields at the names
abbrev pub chosen : {T : Type 0} → List (List ℕ) → List (List ℕ × T) → List (List ℕ × T)
chosen [] row = []
chosen (name ∷ names) row = put_found name (lookup name row) (chosen names row)

-- the fields of both, the second's on shared names
abbrev pub over : {T : Type 0} → List (List ℕ × T) → List (List ℕ × T) → List (List ℕ × T)
over [] second = second
over (field ∷ first) second = over first (put_new field.0 field.1 second)

-- the fields of both where the second has no further ones, and else the second's alone
abbrev pub cat_type : Width × List (List ℕ × Ty) → Width × List (List ℕ × Ty) → Ty
cat_type (Exact, ts) (Exact, us) = ty.Rec Exact (over ts us)
cat_type (Wide, ts) (Exact, us) = ty.Rec Wide (over ts us)
cat_type (w, ts) (Wide, us) = ty.Rec Wide us

-- the type has a join with the other, if there is one
abbrev pub joins_at : Defs → Ty → Option Ty → Bool
joins_at c t None = true
joins_at c t (Some u) = is_some (join c t u)

-- the types at shared names join
abbrev pub shared_join : Defs → List (List ℕ × Ty) → List (List ℕ × Ty) → Bool
shared_join c ts us = list_all (λ field. joins_at c field.1 (lookup field.0 us)) ts

-- collections of the fields of both, where neither has further ones and those at shared names join
abbrev pub merge_type : Defs → Width × List (List ℕ × Ty) → Width × List (List ℕ × Ty) → Option Ty
merge_type c (Exact, ts) (Exact, us) = when (shared_join c ts us) (ty.Coll (ty.Rec Exact (over ts us)))
merge_type c (Wide, ts) second = None
merge_type c (Exact, ts) (Wide, us) = None

-- integers, texts or truth values
abbrev pub is_atom : Defs → Ty → Bool
is_atom c t = sub c t ty.Int || (sub c t ty.Text || sub c t ty.Bool)

-- there is a type, of integers, texts or truth values
abbrev pub atom_at : Defs → Option Ty → Bool
atom_at c None = false
atom_at c (Some t) = is_atom c t

-- by the outermost layer of the rows' type
abbrev pub ordered_at : Defs → List (List ℕ × Bool) → Ty-F Ty → Bool
ordered_at c keys Ty-F.Bottom = true
ordered_at c keys (Ty-F.Rec w ts) = list_all (λ key. atom_at c (lookup key.0 ts)) keys
ordered_at c keys _ = false

abbrev pub grouped_at : List ℕ → List (List ℕ) → Ty → Ty-F Ty → Option Ty
grouped_at g names t Ty-F.Bottom = when (not (is_among g names)) (ty.Coll ty.Bottom)
grouped_at g names t (Ty-F.Rec w ts) =
    when (not (is_among g names) && has_names names ts) (ty.Coll (ty.Rec Exact (put g (ty.Coll t) (chosen names ts))))
grouped_at g names t _ = None

-- rows of the type can be ordered by the keys: there are none, or each key is a field of integers, texts or truth
-- values
abbrev pub is_ordered_by : Defs → List (List ℕ × Bool) → Ty → Bool
is_ordered_by c keys t = ordered_at c keys (out-Ty t)

-- the type of groups of rows of the type: the fields at the names, and the rows that have them at g, which is another
-- name
abbrev pub groups_of : List ℕ → List (List ℕ) → Ty → Option Ty
groups_of g names t = grouped_at g names t (out-Ty t)
