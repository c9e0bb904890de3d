-- The functions' values at any size and within bounds agree.
use Rattle.std.proofs.Common.{ℤ, List, [], map, refl}
use Rattle.qc_data.specs.Outcome.{Outcome, Value, any_size, within, Agrees}
use Rattle.qc_data.specs.declared.data.Datum.{Datum}
use Rattle.qc_data.specs.declared.data.Json.{Json}
use Rattle.qc_data.proofs.Outcomes.{agrees_same, agrees_then, agrees_after}
use Rattle.qc_ops.specs.Numbers.{negative, absolute, quotient, remainder, count, sum, average}
use Rattle.qc_ops.specs.Numbers.{addition, subtraction, multiplication}
use Rattle.qc_ops.specs.declared.op.Unary.TheVariants as op1
use Rattle.qc_ops.specs.declared.op.Binary.TheVariants as op2
use Rattle.qc_ops.proofs.OperatorLaws.{agrees_unary, agrees_binary}
use Rattle.qc_rt.specs.Parameters.{one, two, the_only, the_two, as_divisor}
use Rattle.qc_rt.specs.Runtime.{by_divisor, runtime, value_on}
use Rattle.qc_rt.specs.Seen.{seen, shown}
use Rattle.qc_rt.specs.declared.function.Rt.{Rt}
use Rattle.qc_rt.specs.declared.function.Rt.TheVariants as rt

on_one : (f g : Datum → Outcome Datum) (args : List Datum) → ((a : Datum) → Agrees (f a) (g a))
    → Agrees (one f args) (one g args)
on_one f g args h = agrees_after (the_only args) f g h

on_two : (f g : Datum → Datum → Outcome Datum) (args : List Datum) → ((a b : Datum) → Agrees (f a b) (g a b))
    → Agrees (two f args) (two g args)
on_two f g args h = agrees_after (the_two args) (λ p. f p.0 p.1) (λ p. g p.0 p.1) (λ p. h p.0 p.1)

on_divisor : (f g : ℤ → Datum → Outcome Datum) (args : List Datum) → ((k : ℤ) (a : Datum) → Agrees (f k a) (g k a))
    → Agrees (two (by_divisor f) args) (two (by_divisor g) args)
on_divisor f g args h =
    on_two (by_divisor f) (by_divisor g) args
    (λ a b. agrees_after (as_divisor a) (λ k. f k b) (λ k. g k b) (λ k. h k b))

agrees_value : (low high : ℤ) (f : Rt) (args : List Datum)
    → Agrees (value_on any_size f args) (value_on (within low high) f args)
agrees_value low high rt.Neg args =
    on_one (negative any_size) (negative (within low high)) args (agrees_unary low high [] op1.Neg)
agrees_value low high rt.Abs args =
    on_one (absolute any_size) (absolute (within low high)) args (agrees_unary low high [] op1.Abs)
agrees_value low high rt.DivBy args =
    on_divisor (quotient any_size) (quotient (within low high)) args (λ k. agrees_unary low high [] (op1.DivBy k))
agrees_value low high rt.ModBy args =
    on_divisor (remainder any_size) (remainder (within low high)) args (λ k. agrees_unary low high [] (op1.ModBy k))
agrees_value low high rt.Count args =
    on_one (count any_size) (count (within low high)) args (agrees_unary low high [] op1.Count)
agrees_value low high rt.Sum args =
    on_one (sum any_size) (sum (within low high)) args (agrees_unary low high [] op1.Sum)
agrees_value low high rt.Avg args =
    on_one (average any_size) (average (within low high)) args (agrees_unary low high [] op1.Avg)
agrees_value low high rt.Add args =
    on_two (addition any_size) (addition (within low high)) args (agrees_binary low high op2.Add)
agrees_value low high rt.Sub args =
    on_two (subtraction any_size) (subtraction (within low high)) args (agrees_binary low high op2.Sub)
agrees_value low high rt.Mul args =
    on_two (multiplication any_size) (multiplication (within low high)) args (agrees_binary low high op2.Mul)
agrees_value low high f args = agrees_same (value_on any_size f args)

pub agrees_runtime : (low high : ℤ) (f : Rt) (args : List Json)
    → Agrees (runtime any_size f args) (runtime (within low high) f args)
agrees_runtime low high f args =
    agrees_then (value_on any_size f (map seen args)) (value_on (within low high) f (map seen args))
    (λ d. Value (shown d)) (λ d. Value (shown d)) (agrees_value low high f (map seen args)) (λ d. refl)
