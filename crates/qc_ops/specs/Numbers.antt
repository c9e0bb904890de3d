-- Integers, one, two and many. Each that an operator makes is bounded by `made`.
use Rattle.std.specs.Prelude.{ℤ, pos, neg_ℤ, unsigned_abs, ◌+ℤ◌, ◌-ℤ◌, ◌*ℤ◌, int_div, int_rem, List, [], ◌∷◌, length}
use Rattle.std.specs.Prelude.{fold, Option, Some, None, option_map}
use Rattle.std.specs.Int.{int_min, int_max}
use Rattle.qc_data.specs.Kinds.{as_int, as_coll, total, made}
use Rattle.qc_data.specs.Outcome.{Mode, Outcome, Value, and_then, each}
use Rattle.qc_data.specs.declared.data.Datum.{Datum}
use Rattle.qc_data.specs.declared.data.Datum.TheVariants.{Int}
use Rattle.qc_ops.specs.Operands.{optional}

-- neg, abs
abbrev pub negative : Mode → Datum → Outcome Datum
negative m a = and_then (as_int a) (λ n. made m (neg_ℤ n))

abbrev pub absolute : Mode → Datum → Outcome Datum
absolute m a = and_then (as_int a) (λ n. made m (pos (unsigned_abs n)))

-- divby, modby: the quotient toward zero, and the remainder with the dividend's sign
abbrev pub quotient : Mode → ℤ → Datum → Outcome Datum
quotient m k a = and_then (as_int a) (λ n. made m (int_div n k))

abbrev pub remainder : Mode → ℤ → Datum → Outcome Datum
remainder m k a = and_then (as_int a) (λ n. made m (int_rem n k))

-- count
abbrev pub count : Mode → Datum → Outcome Datum
count m a = and_then (as_coll a) (λ xs. made m (pos (length xs)))

-- the members of a collection of integers
abbrev pub as_ints : Datum → Outcome (List ℤ)
as_ints a = and_then (as_coll a) (λ xs. each as_int xs)

-- sum: only the total is bounded
abbrev pub sum : Mode → Datum → Outcome Datum
sum m a = and_then (as_ints a) (λ ns. made m (total ns))

-- the least and the greatest of some integers
abbrev pub least_of : List ℤ → Option ℤ
least_of [] = None
least_of (n ∷ ns) = Some (fold int_min n ns)

abbrev pub greatest_of : List ℤ → Option ℤ
greatest_of [] = None
greatest_of (n ∷ ns) = Some (fold int_max n ns)

-- min, max
abbrev pub minimum : Datum → Outcome Datum
minimum a = and_then (as_ints a) (λ ns. Value (optional (option_map Int (least_of ns))))

abbrev pub maximum : Datum → Outcome Datum
maximum a = and_then (as_ints a) (λ ns. Value (optional (option_map Int (greatest_of ns))))

-- the total, which is not bounded itself, by the number of integers, toward zero
abbrev pub mean_of : Mode → List ℤ → Outcome Datum
mean_of m [] = Value (optional None)
mean_of m (n ∷ ns) =
    and_then (made m (int_div (total (n ∷ ns)) (pos (length (n ∷ ns))))) (λ d. Value (optional (Some d)))

-- avg
abbrev pub average : Mode → Datum → Outcome Datum
average m a = and_then (as_ints a) (mean_of m)

-- what two integers give
abbrev pub on_ints : (ℤ → ℤ → Outcome Datum) → Datum → Datum → Outcome Datum
on_ints f a b = and_then (as_int a) (λ x. and_then (as_int b) (f x))

-- add, sub, mul
abbrev pub addition : Mode → Datum → Datum → Outcome Datum
addition m = on_ints (λ x y. made m (x +ℤ y))

abbrev pub subtraction : Mode → Datum → Datum → Outcome Datum
subtraction m = on_ints (λ x y. made m (x -ℤ y))

abbrev pub multiplication : Mode → Datum → Datum → Outcome Datum
multiplication m = on_ints (λ x y. made m (x *ℤ y))

-- least, greatest
abbrev pub lesser : Datum → Datum → Outcome Datum
lesser = on_ints (λ x y. Value (Int (int_min x y)))

abbrev pub greater : Datum → Datum → Outcome Datum
greater = on_ints (λ x y. Value (Int (int_max x y)))
