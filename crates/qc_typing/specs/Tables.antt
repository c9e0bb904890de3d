-- The types that operators give. Each line names what an operand is below, and the type; an operand of no datum comes
-- first.
use Rattle.std.specs.Prelude.{Bool, ◌&&◌, ◌||◌, cond, [], ◌∷◌, Option, Some, option_map, option_and_then, is_some}
use Rattle.qc_containers.specs.Pairs.{lookup}
use Rattle.qc_types.specs.declared.ty.Width.TheVariants.{Exact}
use Rattle.qc_types.specs.declared.ty.Ty.{Ty}
use Rattle.qc_types.specs.declared.ty.Ty.TheVariants as ty
use Rattle.qc_types.specs.Classes.{Defs, listed, shape}
use Rattle.qc_types.specs.Joins.{join}
use Rattle.qc_types.specs.Types.{sub}
use Rattle.qc_ops.specs.declared.op.Unary.{Unary}
use Rattle.qc_ops.specs.declared.op.Unary.TheVariants as one
use Rattle.qc_ops.specs.declared.op.Binary.{Binary}
use Rattle.qc_ops.specs.declared.op.Binary.TheVariants as two
use Rattle.qc_typing.specs.Kinds.{is_bottom, members, record_parts, own_class, bag_above, when, on_members, on_records}
use Rattle.qc_typing.specs.FieldTypes.{has_names, chosen, cat_type, merge_type, is_ordered_by, groups_of}

-- an integer, or unit
abbrev pub maybe_int : Ty
maybe_int = ty.Either ty.Int ty.Unit

-- of an operand of no datum: no datum, but a class that an operator names has to be listed
abbrev pub bottom_type : Defs → Unary → Option Ty
bottom_type c (one.Brand name) = when (listed c name) ty.Bottom
bottom_type c (one.Cast name) = when (listed c name) ty.Bottom
bottom_type c op = Some ty.Bottom

-- of any other operand
abbrev pub operand_type : Defs → Unary → Ty → Option Ty
operand_type c one.Not a = when (sub c a ty.Bool) ty.Bool
operand_type c one.Neg a = when (sub c a ty.Int) ty.Int
operand_type c one.Abs a = when (sub c a ty.Int) ty.Int
operand_type c (one.DivBy k) a = when (sub c a ty.Int) ty.Int
operand_type c (one.ModBy k) a = when (sub c a ty.Int) ty.Int
operand_type c one.Count a = option_map (λ t. ty.Int) (members a)
operand_type c one.Sum a = when (sub c a (ty.Coll ty.Int)) ty.Int
operand_type c one.Min a = when (sub c a (ty.Coll ty.Int)) maybe_int
operand_type c one.Max a = when (sub c a (ty.Coll ty.Int)) maybe_int
operand_type c one.Avg a = when (sub c a (ty.Coll ty.Int)) maybe_int
operand_type c one.Element a = option_map (λ t. ty.Either t ty.Unit) (members a)
operand_type c one.Flatten a = option_and_then bag_above (members a)
operand_type c one.Distinct a = option_map (λ t. ty.Coll t) (members a)
operand_type c one.Single a = Some (ty.Coll a)
operand_type c (one.Rec name) a = Some (ty.Rec Exact ((name, a) ∷ []))
operand_type c (one.Dot name) a = option_and_then (λ r. lookup name r.1) (record_parts a)
operand_type c (one.Project names) a =
    option_and_then (λ r. when (has_names names r.1) (ty.Rec Exact (chosen names r.1))) (record_parts a)
operand_type c one.Left a = Some (ty.Either a ty.Bottom)
operand_type c one.Right a = Some (ty.Either ty.Bottom a)
operand_type c (one.Brand name) a = option_and_then (λ t. when (sub c a t) (ty.Brand name)) (shape c name)
operand_type c one.Unbrand a = option_and_then (shape c) (own_class a)
operand_type c (one.Cast name) a =
    option_and_then (λ b. when (listed c name) (ty.Either (ty.Brand name) ty.Unit)) (own_class a)
operand_type c (one.Order keys) a = option_and_then (λ t. when (is_ordered_by c keys t) (ty.Coll t)) (members a)
operand_type c (one.Group g names) a = option_and_then (groups_of g names) (members a)
operand_type c (one.Like pattern) a = when (sub c a ty.Text) ty.Bool

-- the type that an operator gives by the type of its operand, if it gives one
abbrev pub unary_type : Defs → Unary → Ty → Option Ty
unary_type c op a = cond (is_bottom a) (bottom_type c op) (operand_type c op a)

-- both are below the type
abbrev pub both_below : Defs → Ty → Ty → Ty → Bool
both_below c a b t = sub c a t && sub c b t

-- of two operands of which neither is of no datum
abbrev pub operands_type : Defs → Binary → Ty → Ty → Option Ty
operands_type c two.Eq a b = when (is_some (join c a b)) ty.Bool
operands_type c two.Lt a b = when (both_below c a b ty.Int || both_below c a b ty.Text) ty.Bool
operands_type c two.Le a b = when (both_below c a b ty.Int || both_below c a b ty.Text) ty.Bool
operands_type c two.And a b = when (both_below c a b ty.Bool) ty.Bool
operands_type c two.Or a b = when (both_below c a b ty.Bool) ty.Bool
operands_type c two.Add a b = when (both_below c a b ty.Int) ty.Int
operands_type c two.Sub a b = when (both_below c a b ty.Int) ty.Int
operands_type c two.Mul a b = when (both_below c a b ty.Int) ty.Int
operands_type c two.Least a b = when (both_below c a b ty.Int) ty.Int
operands_type c two.Greatest a b = when (both_below c a b ty.Int) ty.Int
operands_type c two.Union a b = on_members (λ t u. option_map (λ v. ty.Coll v) (join c t u)) a b
operands_type c two.Except a b = on_members (λ t u. when (is_some (join c t u)) (ty.Coll t)) a b
operands_type c two.Intersect a b = on_members (λ t u. when (is_some (join c t u)) (ty.Coll t)) a b
operands_type c two.Member a b = option_and_then (λ u. when (is_some (join c a u)) ty.Bool) (members b)
operands_type c two.Cat a b = on_records (λ r s. Some (cat_type r s)) a b
operands_type c two.Merge a b = on_records (merge_type c) a b
operands_type c two.Glue a b = when (both_below c a b ty.Text) ty.Text

-- the type that an operator gives by the types of its operands, if it gives one
abbrev pub binary_type : Defs → Binary → Ty → Ty → Option Ty
binary_type c op a b = cond (is_bottom a || is_bottom b) (Some ty.Bottom) (operands_type c op a b)
