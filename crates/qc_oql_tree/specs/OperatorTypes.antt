-- The types that the operators, the functions and the literals of queries give.
use Rattle.std.specs.Prelude.{ℕ, ℤ, cond, List, Option, None, option_map, option_and_then}
use Rattle.qc_containers.specs.Name.{is_name}
use Rattle.qc_types.specs.declared.ty.Ty.{Ty}
use Rattle.qc_types.specs.declared.ty.Ty.TheVariants as ty
use Rattle.qc_types.specs.Classes.{Defs}
use Rattle.qc_types.specs.Joins.{join}
use Rattle.qc_ops.specs.declared.op.Unary.TheVariants as one
use Rattle.qc_ops.specs.declared.op.Binary.TheVariants as two
use Rattle.qc_typing.specs.Tables.{unary_type, binary_type}
use Rattle.qc_oql_tree.specs.declared.tree.Unary.{Unary}
use Rattle.qc_oql_tree.specs.declared.tree.Unary.TheVariants as oql1
use Rattle.qc_oql_tree.specs.declared.tree.Binary.{Binary}
use Rattle.qc_oql_tree.specs.declared.tree.Binary.TheVariants as oql2
use Rattle.qc_oql_tree.specs.declared.tree.Branding.{Branding}
use Rattle.qc_oql_tree.specs.declared.tree.Constant.{Constant}
use Rattle.qc_oql_tree.specs.declared.tree.Constant.TheVariants.{True, False, Nil}
use Rattle.qc_oql_tree.specs.declared.tree.Division.{Division}
use Rattle.qc_oql_tree.specs.OperatorMeanings.{division, is_divisor, branding}
use Rattle.qc_typing.specs.Kinds.{bound_by, sides_of}

-- the type of `true`, `false` or `nil`
abbrev pub constant_type : Constant → Ty
constant_type True = ty.Bool
constant_type False = ty.Bool
constant_type Nil = ty.Unit

-- whether a collection has a member is a truth value
abbrev pub has_member_type : Ty → Option Ty
has_member_type t = option_map (λ u. ty.Bool) (bound_by t)

-- the type of an operator or a function of one operand
abbrev pub one_type : Defs → Unary → Ty → Option Ty
one_type c oql1.Not = unary_type c one.Not
one_type c oql1.Neg = unary_type c one.Neg
one_type c oql1.Count = unary_type c one.Count
one_type c oql1.Sum = unary_type c one.Sum
one_type c oql1.Min = unary_type c one.Min
one_type c oql1.Max = unary_type c one.Max
one_type c oql1.Avg = unary_type c one.Avg
one_type c oql1.Element = unary_type c one.Element
one_type c oql1.Flatten = unary_type c one.Flatten
one_type c oql1.Distinct = unary_type c one.Distinct
one_type c oql1.Abs = unary_type c one.Abs
one_type c oql1.Left = unary_type c one.Left
one_type c oql1.Right = unary_type c one.Right
one_type c oql1.Unbrand = unary_type c one.Unbrand
one_type c oql1.Exists = has_member_type

-- the negation of an equality
abbrev pub unequal_type : Defs → Ty → Ty → Option Ty
unequal_type c t u = option_and_then (unary_type c one.Not) (binary_type c two.Eq t u)

-- the join of the left side's type and the other operand's
abbrev pub or_else_type : Defs → Ty → Ty → Option Ty
or_else_type c t u = option_and_then (λ sides. join c sides.0 u) (sides_of t)

-- the type of an operator or a function of two operands
abbrev pub two_type : Defs → Binary → Ty → Ty → Option Ty
two_type c oql2.Or = binary_type c two.Or
two_type c oql2.And = binary_type c two.And
two_type c oql2.Eq = binary_type c two.Eq
two_type c oql2.Ne = unequal_type c
two_type c oql2.Lt = binary_type c two.Lt
two_type c oql2.Le = binary_type c two.Le
two_type c oql2.Gt = λ t u. binary_type c two.Lt u t
two_type c oql2.Ge = λ t u. binary_type c two.Le u t
two_type c oql2.Member = binary_type c two.Member
two_type c oql2.Union = binary_type c two.Union
two_type c oql2.Except = binary_type c two.Except
two_type c oql2.Intersect = binary_type c two.Intersect
two_type c oql2.Add = binary_type c two.Add
two_type c oql2.Sub = binary_type c two.Sub
two_type c oql2.Glue = binary_type c two.Glue
two_type c oql2.Mul = binary_type c two.Mul
two_type c oql2.OrElse = or_else_type c
two_type c oql2.Least = binary_type c two.Least
two_type c oql2.Greatest = binary_type c two.Greatest

-- the type of a division by a literal, which is not 0
abbrev pub divided_type : Defs → Division → ℤ → Ty → Option Ty
divided_type c d k t = cond (is_divisor k) (unary_type c (division d k) t) None

-- the type of a field, whose label is a name
abbrev pub field_type : Defs → List ℕ → Ty → Option Ty
field_type c label t = cond (is_name label) (unary_type c (one.Dot label) t) None

-- the type of a function of a class, which is a name
abbrev pub branded_type : Defs → Branding → List ℕ → Ty → Option Ty
branded_type c b class t = cond (is_name class) (unary_type c (branding b class) t) None
