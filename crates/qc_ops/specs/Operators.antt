-- The operators' values by mode: this table names for each the definition that says its value.
use Rattle.qc_data.specs.Outcome.{Mode, Outcome}
use Rattle.qc_data.specs.declared.data.Datum.{Datum}
use Rattle.qc_types.specs.Classes.{Defs}
use Rattle.qc_ops.specs.declared.op.Unary.{Unary}
use Rattle.qc_ops.specs.declared.op.Unary.TheVariants as one
use Rattle.qc_ops.specs.declared.op.Binary.{Binary}
use Rattle.qc_ops.specs.declared.op.Binary.TheVariants as two
use Rattle.qc_ops.specs.Bags.{bag_of, only_member, flattened, distinct, union, except, intersection, membership}
use Rattle.qc_ops.specs.Grouping.{grouped}
use Rattle.qc_ops.specs.Numbers.{negative, absolute, quotient, remainder, count, sum, minimum, maximum, average}
use Rattle.qc_ops.specs.Numbers.{addition, subtraction, multiplication, lesser, greater}
use Rattle.qc_ops.specs.Records.{record_of, field, projection, concatenation, merger}
use Rattle.qc_ops.specs.Sameness.{equality}
use Rattle.qc_ops.specs.Sides.{on_left, on_right, class_value, content, cast}
use Rattle.qc_ops.specs.Sorting.{ordered}
use Rattle.qc_ops.specs.Texts.{likeness, joined}
use Rattle.qc_ops.specs.Truths.{negation, conjunction, disjunction, is_below, is_not_above}

-- the value of an operator on one operand
abbrev pub unary : Mode → Defs → Unary → Datum → Outcome Datum
unary m c one.Not a = negation a
unary m c one.Neg a = negative m a
unary m c one.Abs a = absolute m a
unary m c (one.DivBy k) a = quotient m k a
unary m c (one.ModBy k) a = remainder m k a
unary m c one.Count a = count m a
unary m c one.Sum a = sum m a
unary m c one.Min a = minimum a
unary m c one.Max a = maximum a
unary m c one.Avg a = average m a
unary m c one.Element a = only_member a
unary m c one.Flatten a = flattened a
unary m c one.Distinct a = distinct a
unary m c one.Single a = bag_of a
unary m c (one.Rec name) a = record_of name a
unary m c (one.Dot name) a = field name a
unary m c (one.Project names) a = projection names a
unary m c one.Left a = on_left a
unary m c one.Right a = on_right a
unary m c (one.Brand name) a = class_value name a
unary m c one.Unbrand a = content a
unary m c (one.Cast name) a = cast c name a
unary m c (one.Order keys) a = ordered keys a
unary m c (one.Group g names) a = grouped g names a
unary m c (one.Like pattern) a = likeness pattern a

-- the value of an operator on two operands
abbrev pub binary : Mode → Binary → Datum → Datum → Outcome Datum
binary m two.Eq a b = equality a b
binary m two.Lt a b = is_below a b
binary m two.Le a b = is_not_above a b
binary m two.And a b = conjunction a b
binary m two.Or a b = disjunction a b
binary m two.Add a b = addition m a b
binary m two.Sub a b = subtraction m a b
binary m two.Mul a b = multiplication m a b
binary m two.Least a b = lesser a b
binary m two.Greatest a b = greater a b
binary m two.Union a b = union a b
binary m two.Except a b = except a b
binary m two.Intersect a b = intersection a b
binary m two.Member a b = membership a b
binary m two.Cat a b = concatenation a b
binary m two.Merge a b = merger a b
binary m two.Glue a b = joined a b
