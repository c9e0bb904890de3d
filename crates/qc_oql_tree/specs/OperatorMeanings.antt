-- What the operators and functions of queries mean, by the meanings of their operands. The first outcome that is no
-- value decides.
use Rattle.std.specs.Prelude.{ℕ, ℤ, pos, Bool, true, false, not, List, [], ◌∷◌}
use Rattle.std.specs.Ordering.{int_eq}
use Rattle.qc_data.specs.Kinds.{as_coll}
use Rattle.qc_containers.specs.Name.{is_name}
use Rattle.qc_data.specs.Outcome.{Mode, Outcome, Value, and_then}
use Rattle.qc_data.specs.declared.data.Datum.{Datum}
use Rattle.qc_data.specs.declared.data.Datum.TheVariants.{Bool as Truth}
use Rattle.qc_types.specs.Classes.{Defs}
use Rattle.qc_ops.specs.declared.op.Unary.{Unary as OnOne}
use Rattle.qc_ops.specs.declared.op.Unary.TheVariants as one
use Rattle.qc_ops.specs.declared.op.Binary.TheVariants as two
use Rattle.qc_ops.specs.Operands.{only_if}
use Rattle.qc_ops.specs.Operators.{unary, binary}
use Rattle.qc_ops.specs.Sameness.{equality}
use Rattle.qc_ops.specs.Sides.{by_side}
use Rattle.qc_ops.specs.Truths.{negation}
use Rattle.qc_oql_tree.specs.declared.tree.Unary.{Unary}
use Rattle.qc_oql_tree.specs.declared.tree.Unary.TheVariants as oql1
use Rattle.qc_oql_tree.specs.declared.tree.Binary.{Binary}
use Rattle.qc_oql_tree.specs.declared.tree.Binary.TheVariants as oql2
use Rattle.qc_oql_tree.specs.declared.tree.Division.{Division}
use Rattle.qc_oql_tree.specs.declared.tree.Division.TheVariants.{DivBy, ModBy}
use Rattle.qc_oql_tree.specs.declared.tree.Branding.{Branding}
use Rattle.qc_oql_tree.specs.declared.tree.Branding.TheVariants.{Cast, Brand}
use Rattle.qc_oql_tree.specs.Bindings.{Bindings, Meaning}

-- ---- one operand

-- an operator of one operand
abbrev pub after : (Datum → Outcome Datum) → Meaning → Meaning
after f a s = and_then (a s) f

-- there is a member
abbrev pub is_some_list : List Datum → Bool
is_some_list [] = false
is_some_list (x ∷ xs) = true

-- whether a collection has a member
abbrev pub has_member : Datum → Outcome Datum
has_member a = and_then (as_coll a) (λ xs. Value (Truth (is_some_list xs)))

-- the value of an operator or a function on its operand's value
abbrev pub one_value : Mode → Defs → Unary → Datum → Outcome Datum
one_value m c oql1.Not = unary m c one.Not
one_value m c oql1.Neg = unary m c one.Neg
one_value m c oql1.Count = unary m c one.Count
one_value m c oql1.Sum = unary m c one.Sum
one_value m c oql1.Min = unary m c one.Min
one_value m c oql1.Max = unary m c one.Max
one_value m c oql1.Avg = unary m c one.Avg
one_value m c oql1.Element = unary m c one.Element
one_value m c oql1.Flatten = unary m c one.Flatten
one_value m c oql1.Distinct = unary m c one.Distinct
one_value m c oql1.Abs = unary m c one.Abs
one_value m c oql1.Left = unary m c one.Left
one_value m c oql1.Right = unary m c one.Right
one_value m c oql1.Unbrand = unary m c one.Unbrand
one_value m c oql1.Exists = has_member

-- ---- two operands

-- an operator of two operands, the left one first
abbrev pub both : (Datum → Datum → Outcome Datum) → Meaning → Meaning → Meaning
both f a b s = and_then (a s) (λ x. and_then (b s) (λ y. f x y))

-- whether two values differ
abbrev pub unequal : Datum → Datum → Outcome Datum
unequal x y = and_then (equality x y) negation

-- the content of a left value; of a right one the other operand, which is evaluated only then
abbrev pub or_else_of : Meaning → Bindings → Datum → Outcome Datum
or_else_of b s x = by_side (λ content. Value content) (λ content. b s) x

-- orelse
abbrev pub or_else : Meaning → Meaning → Meaning
or_else a b s = and_then (a s) (or_else_of b s)

-- an operator or a function of two operands
abbrev pub of_two : Mode → Binary → Meaning → Meaning → Meaning
of_two m oql2.Or = both (binary m two.Or)
of_two m oql2.And = both (binary m two.And)
of_two m oql2.Eq = both (binary m two.Eq)
of_two m oql2.Ne = both unequal
of_two m oql2.Lt = both (binary m two.Lt)
of_two m oql2.Le = both (binary m two.Le)
of_two m oql2.Gt = both (λ x y. binary m two.Lt y x)
of_two m oql2.Ge = both (λ x y. binary m two.Le y x)
of_two m oql2.Member = both (binary m two.Member)
of_two m oql2.Union = both (binary m two.Union)
of_two m oql2.Except = both (binary m two.Except)
of_two m oql2.Intersect = both (binary m two.Intersect)
of_two m oql2.Add = both (binary m two.Add)
of_two m oql2.Sub = both (binary m two.Sub)
of_two m oql2.Glue = both (binary m two.Glue)
of_two m oql2.Mul = both (binary m two.Mul)
of_two m oql2.OrElse = or_else
of_two m oql2.Least = both (binary m two.Least)
of_two m oql2.Greatest = both (binary m two.Greatest)

-- ---- literals and classes

-- a division by k, which is not 0
abbrev pub division : Division → ℤ → OnOne
division DivBy k = one.DivBy k
division ModBy k = one.ModBy k

-- k is not 0
abbrev pub is_divisor : ℤ → Bool
is_divisor k = not (int_eq k (pos 0))

-- a division by a literal
abbrev pub divided : Mode → Defs → Division → ℤ → Datum → Outcome Datum
divided m c d k a = only_if (is_divisor k) (unary m c (division d k) a)

-- a function of a class
abbrev pub branding : Branding → List ℕ → OnOne
branding Cast class = one.Cast class
branding Brand class = one.Brand class

-- a text that is a name
abbrev pub name_of : List ℕ → Outcome (List ℕ)
name_of text = only_if (is_name text) (Value text)

-- a function of a class, which is a name
abbrev pub branded : Mode → Defs → Branding → List ℕ → Datum → Outcome Datum
branded m c b class a = and_then (name_of class) (λ name. unary m c (branding b name) a)
