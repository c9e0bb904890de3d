-- How the operators of queries go back to operators on values, as evaluators, checkers and passes have it.
use Rattle.std.specs.Prelude.{Option, Some, None}
use Rattle.qc_data.specs.Outcome.{Mode, Outcome}
use Rattle.qc_data.specs.declared.data.Datum.{Datum}
use Rattle.qc_types.specs.declared.ty.Ty.{Ty}
use Rattle.qc_types.specs.Classes.{Defs}
use Rattle.qc_ops.specs.declared.op.Unary.{Unary as OnOne}
use Rattle.qc_ops.specs.declared.op.Unary.TheVariants as one
use Rattle.qc_ops.specs.declared.op.Binary.TheVariants as two
use Rattle.qc_ops.specs.Operators.{unary, binary}
use Rattle.qc_typing.specs.Tables.{unary_type, binary_type}
use Rattle.qc_oql_tree.specs.declared.tree.Unary.{Unary}
use Rattle.qc_oql_tree.specs.declared.tree.Unary.TheVariants as oql1
use Rattle.qc_oql_tree.specs.declared.tree.Binary.{Binary}
use Rattle.qc_oql_tree.specs.declared.tree.Binary.TheVariants as oql2
use Rattle.qc_oql_tree.specs.declared.pairing.Pairing.{Pairing}
use Rattle.qc_oql_tree.specs.declared.pairing.Pairing.TheVariants as pairing
use Rattle.qc_oql_tree.specs.Bindings.{Meaning}
use Rattle.qc_oql_tree.specs.OperatorMeanings.{has_member, both, unequal, or_else}
use Rattle.qc_oql_tree.specs.OperatorTypes.{has_member_type, unequal_type, or_else_type}

-- the operator on one value that an operator of queries is; `exists` is none
abbrev pub on_one : Unary → Option OnOne
on_one oql1.Not = Some one.Not
on_one oql1.Neg = Some one.Neg
on_one oql1.Count = Some one.Count
on_one oql1.Sum = Some one.Sum
on_one oql1.Min = Some one.Min
on_one oql1.Max = Some one.Max
on_one oql1.Avg = Some one.Avg
on_one oql1.Element = Some one.Element
on_one oql1.Flatten = Some one.Flatten
on_one oql1.Distinct = Some one.Distinct
on_one oql1.Abs = Some one.Abs
on_one oql1.Left = Some one.Left
on_one oql1.Right = Some one.Right
on_one oql1.Unbrand = Some one.Unbrand
on_one oql1.Exists = None

-- the value of an operator, where none is `exists`
abbrev pub at_one : Mode → Defs → Option OnOne → Datum → Outcome Datum
at_one m c None = has_member
at_one m c (Some op) = unary m c op

-- the type of an operator of one operand, where none is `exists`
abbrev pub type_at_one : Defs → Option OnOne → Ty → Option Ty
type_at_one c None = has_member_type
type_at_one c (Some op) = unary_type c op

-- how an operator of two operands goes back to operators on values; `orelse`, whose right operand may not be evaluated,
-- does not
abbrev pub pairing_of : Binary → Option Pairing
pairing_of oql2.Or = Some (pairing.Plain two.Or)
pairing_of oql2.And = Some (pairing.Plain two.And)
pairing_of oql2.Eq = Some (pairing.Plain two.Eq)
pairing_of oql2.Ne = Some pairing.Unequal
pairing_of oql2.Lt = Some (pairing.Plain two.Lt)
pairing_of oql2.Le = Some (pairing.Plain two.Le)
pairing_of oql2.Gt = Some (pairing.Exchanged two.Lt)
pairing_of oql2.Ge = Some (pairing.Exchanged two.Le)
pairing_of oql2.Member = Some (pairing.Plain two.Member)
pairing_of oql2.Union = Some (pairing.Plain two.Union)
pairing_of oql2.Except = Some (pairing.Plain two.Except)
pairing_of oql2.Intersect = Some (pairing.Plain two.Intersect)
pairing_of oql2.Add = Some (pairing.Plain two.Add)
pairing_of oql2.Sub = Some (pairing.Plain two.Sub)
pairing_of oql2.Glue = Some (pairing.Plain two.Glue)
pairing_of oql2.Mul = Some (pairing.Plain two.Mul)
pairing_of oql2.OrElse = None
pairing_of oql2.Least = Some (pairing.Plain two.Least)
pairing_of oql2.Greatest = Some (pairing.Plain two.Greatest)

-- the value of an operator on two operands
abbrev pub paired : Mode → Pairing → Datum → Datum → Outcome Datum
paired m (pairing.Plain op) = binary m op
paired m (pairing.Exchanged op) = λ x y. binary m op y x
paired m pairing.Unequal = unequal

-- an operator of two operands, where no pairing is `orelse`
abbrev pub by_pairing : Mode → Option Pairing → Meaning → Meaning → Meaning
by_pairing m None = or_else
by_pairing m (Some p) = both (paired m p)

-- the type of an operator of two operands, where no pairing is `orelse`
abbrev pub type_by_pairing : Defs → Option Pairing → Ty → Ty → Option Ty
type_by_pairing c None = or_else_type c
type_by_pairing c (Some (pairing.Plain op)) = binary_type c op
type_by_pairing c (Some (pairing.Exchanged op)) = λ t u. binary_type c op u t
type_by_pairing c (Some pairing.Unequal) = unequal_type c
