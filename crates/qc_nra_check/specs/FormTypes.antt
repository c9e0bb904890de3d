-- The types that the forms of the algebra give, by the types of values and of bodies.
use Rattle.std.specs.Prelude.{◌&&◌, cond, [], Option, None, is_some, option_map, option_and_then}
use Rattle.qc_types.specs.declared.ty.Width.TheVariants.{Wide}
use Rattle.qc_types.specs.declared.ty.Ty.{Ty}
use Rattle.qc_types.specs.declared.ty.Ty.TheVariants as ty
use Rattle.qc_types.specs.Classes.{Defs}
use Rattle.qc_types.specs.Joins.{join}
use Rattle.qc_types.specs.Types.{sub}
use Rattle.qc_ops.specs.declared.op.Binary.TheVariants.{Cat}
use Rattle.qc_typing.specs.Kinds.{when}
use Rattle.qc_typing.specs.Tables.{binary_type, both_below}
use Rattle.qc_typing.specs.Kinds.{bound_by}

-- the type of a tree, if it has one, by the types of its input and its environment
abbrev pub Typing : Type 0
Typing = Ty → Ty → Option Ty

-- map: collections of what the body gives
abbrev pub map_type : Typing → Ty → Ty → Option Ty
map_type a e t = option_and_then (λ x. option_map (λ u. ty.Coll u) (a x e)) (bound_by t)

-- select: collections of the same members, where the body is a truth value
abbrev pub select_type : Defs → Typing → Ty → Ty → Option Ty
select_type c a e t =
    option_and_then (λ x. option_and_then (λ u. when (sub c u ty.Bool) (ty.Coll x)) (a x e)) (bound_by t)

-- collections of records
abbrev pub records : Ty
records = ty.Coll (ty.Rec Wide [])

-- collections of what cat gives of two members
abbrev pub pairs_type : Defs → Ty → Ty → Option Ty
pairs_type c t u =
    option_and_then (λ x. option_and_then (λ y. option_map (λ v. ty.Coll v) (binary_type c Cat x y)) (bound_by u))
    (bound_by t)

-- product: the same of two collections of records
abbrev pub product_type : Defs → Ty → Ty → Option Ty
product_type c t u = cond (both_below c t u records) (pairs_type c t u) None

-- djoin: the same of records and what the body gives for one
abbrev pub join_type : Defs → Typing → Ty → Ty → Option Ty
join_type c a e t = option_and_then (λ x. option_and_then (product_type c t) (a x e)) (bound_by t)

-- default: the join of two collections
abbrev pub default_type : Defs → Ty → Ty → Option Ty
default_type c t u = cond (is_some (bound_by t) && is_some (bound_by u)) (join c t u) None

-- mapenv: collections of what the body gives with a member of the environment
abbrev pub env_map_type : Typing → Ty → Ty → Option Ty
env_map_type a i e = option_and_then (λ x. option_map (λ u. ty.Coll u) (a i x)) (bound_by e)
