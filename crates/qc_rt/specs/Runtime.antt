-- The functions' values by mode on all JSON trees: this table names for each the definition that says its value on what
-- is seen in the arguments.
use Rattle.std.specs.Prelude.{ℕ, ℤ, cond, List, [], Some, None, map}
use Rattle.qc_data.specs.Outcome.{Mode, Outcome, Value, and_then}
use Rattle.qc_data.specs.declared.data.Datum.{Datum}
use Rattle.qc_data.specs.declared.data.Datum.TheVariants.{Bool as Truth, Rec}
use Rattle.qc_data.specs.declared.data.Json.{Json}
use Rattle.qc_ops.specs.Bags.{bag_of, only_member, flattened, distinct, union, except, intersection, membership}
use Rattle.qc_ops.specs.Grouping.{grouped}
use Rattle.qc_ops.specs.Numbers.{negative, absolute, quotient, remainder, count, sum, minimum, maximum, average}
use Rattle.qc_ops.specs.Numbers.{addition, subtraction, multiplication, lesser, greater}
use Rattle.qc_ops.specs.Operands.{as_brand, as_text, optional}
use Rattle.qc_ops.specs.Records.{is_among, record_of, field, projection, concatenation, merger}
use Rattle.qc_ops.specs.Sameness.{equality}
use Rattle.qc_ops.specs.Sides.{on_left, on_right, class_value, content}
use Rattle.qc_ops.specs.Sorting.{ordered}
use Rattle.qc_ops.specs.Texts.{likeness, joined}
use Rattle.qc_ops.specs.Truths.{negation, conjunction, disjunction, is_below, is_not_above}
use Rattle.qc_rt.specs.Parameters.{none, one, two, three, as_name, as_names, as_divisor, as_keys, as_side}
use Rattle.qc_rt.specs.Seen.{seen, shown}
use Rattle.qc_rt.specs.declared.function.Rt.{Rt}
use Rattle.qc_rt.specs.declared.function.Rt.TheVariants as rt

-- functions with a parameter before the operand
abbrev pub by_divisor : (ℤ → Datum → Outcome Datum) → Datum → Datum → Outcome Datum
by_divisor f k a = and_then (as_divisor k) (λ n. f n a)

abbrev pub by_name : (List ℕ → Datum → Outcome Datum) → Datum → Datum → Outcome Datum
by_name f n a = and_then (as_name n) (λ name. f name a)

abbrev pub by_names : (List (List ℕ) → Datum → Outcome Datum) → Datum → Datum → Outcome Datum
by_names f ns a = and_then (as_names ns) (λ names. f names a)

abbrev pub by_pattern : (List ℕ → Datum → Outcome Datum) → Datum → Datum → Outcome Datum
by_pattern f p a = and_then (as_text p) (λ pattern. f pattern a)

-- order: two lists before the operand
abbrev pub by_keys : Datum → Datum → Datum → Outcome Datum
by_keys names directions a = and_then (as_keys names directions) (λ keys. ordered keys a)

-- group: a name and a list of names before the operand
abbrev pub by_groups : Datum → Datum → Datum → Outcome Datum
by_groups n ns a = and_then (as_name n) (λ g. and_then (as_names ns) (λ names. grouped g names a))

-- cast: left of a class's value where its class is one of the list, which has the class and all that are below it
abbrev pub cast_among : List (List ℕ) → Datum → Outcome Datum
cast_among classes a =
    and_then (as_brand a) (λ b. Value (optional (cond (is_among b.0 classes) (Some a) None)))

-- isleft and payload
abbrev pub leftness : Datum → Outcome Datum
leftness a = and_then (as_side a) (λ s. Value (Truth s.0))

abbrev pub payload : Datum → Outcome Datum
payload a = and_then (as_side a) (λ s. Value s.1)

-- the value of a function on what is seen in its arguments
abbrev pub value_on : Mode → Rt → List Datum → Outcome Datum
value_on m rt.Not = one negation
value_on m rt.Neg = one (negative m)
value_on m rt.Abs = one (absolute m)
value_on m rt.DivBy = two (by_divisor (quotient m))
value_on m rt.ModBy = two (by_divisor (remainder m))
value_on m rt.Count = one (count m)
value_on m rt.Sum = one (sum m)
value_on m rt.Min = one minimum
value_on m rt.Max = one maximum
value_on m rt.Avg = one (average m)
value_on m rt.Element = one only_member
value_on m rt.Flatten = one flattened
value_on m rt.Distinct = one distinct
value_on m rt.Single = one bag_of
value_on m rt.Rec = two (by_name record_of)
value_on m rt.Dot = two (by_name field)
value_on m rt.Project = two (by_names projection)
value_on m rt.Left = one on_left
value_on m rt.Right = one on_right
value_on m rt.Brand = two (by_name class_value)
value_on m rt.Unbrand = one content
value_on m rt.Cast = two (by_names cast_among)
value_on m rt.Order = three by_keys
value_on m rt.Group = three by_groups
value_on m rt.Like = two (by_pattern likeness)
value_on m rt.Eq = two equality
value_on m rt.Lt = two is_below
value_on m rt.Le = two is_not_above
value_on m rt.And = two conjunction
value_on m rt.Or = two disjunction
value_on m rt.Add = two (addition m)
value_on m rt.Sub = two (subtraction m)
value_on m rt.Mul = two (multiplication m)
value_on m rt.Least = two lesser
value_on m rt.Greatest = two greater
value_on m rt.Union = two union
value_on m rt.Except = two except
value_on m rt.Intersect = two intersection
value_on m rt.Member = two membership
value_on m rt.Cat = two concatenation
value_on m rt.Merge = two merger
value_on m rt.Glue = two joined
value_on m rt.Nothing = none (Value (Rec []))
value_on m rt.IsLeft = one leftness
value_on m rt.Payload = one payload

-- the value of a function on trees, which shows its value on what is seen in them
abbrev pub runtime : Mode → Rt → List Json → Outcome Json
runtime m f args = and_then (value_on m f (map seen args)) (λ d. Value (shown d))
