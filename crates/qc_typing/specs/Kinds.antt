-- Types by their kind.
use Rattle.std.specs.Prelude.{ℕ, Bool, true, false, cond, List, Option, Some, None, option_and_then}
use Rattle.qc_types.specs.declared.ty.Width.{Width}
use Rattle.qc_types.specs.declared.ty.Ty.{Ty}
use Rattle.qc_types.specs.declared.ty.Ty.TheOpen.{Ty-F}
use Rattle.qc_types.specs.declared.ty.Ty.TheViews.{out-Ty}
use Rattle.qc_types.specs.declared.ty.Ty.TheVariants as ty

-- by the outermost layer of a type
abbrev pub bottom_at : Ty-F Ty → Bool
bottom_at Ty-F.Bottom = true
bottom_at _ = false

abbrev pub members_at : Ty-F Ty → Option Ty
members_at (Ty-F.Coll t) = Some t
members_at _ = None

abbrev pub record_at : Ty-F Ty → Option (Width × List (List ℕ × Ty))
record_at (Ty-F.Rec w ts) = Some (w, ts)
record_at _ = None

abbrev pub class_at : Ty-F Ty → Option (List ℕ)
class_at (Ty-F.Brand n) = Some n
class_at _ = None

abbrev pub bag_at : Ty-F Ty → Option Ty
bag_at Ty-F.Bottom = Some (ty.Coll ty.Bottom)
bag_at (Ty-F.Coll t) = Some (ty.Coll t)
bag_at _ = None

abbrev pub members_bound : Ty-F Ty → Option Ty
members_bound Ty-F.Bottom = Some ty.Bottom
members_bound (Ty-F.Coll t) = Some t
members_bound _ = None

abbrev pub sides_bound : Ty-F Ty → Option (Ty × Ty)
sides_bound Ty-F.Bottom = Some (ty.Bottom, ty.Bottom)
sides_bound (Ty-F.Either t u) = Some (t, u)
sides_bound _ = None

-- the type of no datum
abbrev pub is_bottom : Ty → Bool
is_bottom a = bottom_at (out-Ty a)

-- the members' type of the type of collections that it is
abbrev pub members : Ty → Option Ty
members a = members_at (out-Ty a)

-- the width and the fields of the type of records that it is
abbrev pub record_parts : Ty → Option (Width × List (List ℕ × Ty))
record_parts a = record_at (out-Ty a)

-- the class whose type it is
abbrev pub own_class : Ty → Option (List ℕ)
own_class a = class_at (out-Ty a)

-- the least type of collections above it
abbrev pub bag_above : Ty → Option Ty
bag_above a = bag_at (out-Ty a)

-- the type of the members of a collection, or of no datum
abbrev pub bound_by : Ty → Option Ty
bound_by t = members_bound (out-Ty t)

-- the types of the contents of a left and of a right value, or of no datum
abbrev pub sides_of : Ty → Option (Ty × Ty)
sides_of t = sides_bound (out-Ty t)

-- the type, where the test is true
abbrev pub when : Bool → Ty → Option Ty
when test t = cond test (Some t) None

-- what the members' types of two types of collections give
abbrev pub on_members : (Ty → Ty → Option Ty) → Ty → Ty → Option Ty
on_members f a b = option_and_then (λ t. option_and_then (f t) (members b)) (members a)

-- what the widths and the fields of two types of records give
abbrev pub on_records : (Width × List (List ℕ × Ty) → Width × List (List ℕ × Ty) → Option Ty) → Ty → Ty → Option Ty
on_records f a b = option_and_then (λ r. option_and_then (f r) (record_parts b)) (record_parts a)
