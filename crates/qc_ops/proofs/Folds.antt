-- A collection of integers, gone through once.
use Rattle.std.proofs.Common.{◌≡◌, ℤ, pos, ◌+ℤ◌, List, [], ◌∷◌, ◌++◌, Option, Some, None, refl, ◌∙◌, arith, ℕ, ◌+◌, ◌<◌}
use Rattle.std.proofs.Common.{length, get_or, drop, add-one, drop-cons}
use Rattle.std.specs.List.{fold}
use Rattle.std.specs.Int.{int_min, int_max}
use Rattle.std.proofs.lemmas.Int.{ints}
use Rattle.qc_data.specs.Kinds.{as_int, total}
use Rattle.qc_data.specs.Outcome.{Outcome, Value, Halts, and_then, each, alone}
use Rattle.qc_data.specs.declared.data.Datum.{Datum}
use Rattle.qc_ops.specs.Numbers.{least_of, greatest_of}

-- what the integers make of z one after another, where f takes the next
abbrev pub fold_ints : {B : Type 0} → (B → ℤ → B) → B → List Datum → Outcome B
fold_ints f z [] = Value z
fold_ints f z (x ∷ xs) = and_then (as_int x) (λ n. fold_ints f (f z n) xs)

first_int : {B : Type 0} (f : B → ℤ → B) (z : B) (o : Outcome ℤ) (rest : Outcome (List ℤ))
    → and_then (and_then (alone o) (λ ys. and_then rest (λ zs. Value (ys ++ zs)))) (λ ns. Value (fold f z ns))
    ≡ and_then o (λ n. and_then rest (λ ns. Value (fold f (f z n) ns)))
first_int f z (Value n) (Value ns) = refl
first_int f z (Value n) (Halts why) = refl
first_int f z (Halts why) rest = refl

pub fold_ints_is : {B : Type 0} (f : B → ℤ → B) (z : B) (xs : List Datum)
    → and_then (each as_int xs) (λ ns. Value (fold f z ns)) ≡ fold_ints f z xs
fold_ints_is f z [] = refl
fold_ints_is f z (x ∷ xs) =
    first_int f z (as_int x) (each as_int xs) ∙ (λ i. and_then (as_int x) (λ n. fold_ints_is f (f z n) xs i))

-- one integer more
pub fold_more : {B : Type 0} (f : B → ℤ → B) (xs : List Datum) (x : Datum) (i : ℕ) (z : B) (n : ℤ) (next : B)
    → x ≡ get_or xs i x → as_int x ≡ Value n → i < length xs → next ≡ f z n
    → fold_ints f z (drop i xs) ≡ fold_ints f next (drop (i + 1) xs)
fold_more f xs x i z n next at is lt e = rw (add-one, drop-cons xs i x, ← at, is, e) refl

-- ---- totals

abbrev pub plus : ℤ → ℤ → ℤ
plus x y = x +ℤ y

total_from : (z : ℤ) (ns : List ℤ) → z +ℤ total ns ≡ fold plus z ns
total_from z [] = omega (arith, ints)
total_from z (n ∷ ns) =
    let e : z +ℤ (n +ℤ total ns) ≡ (z +ℤ n) +ℤ total ns = omega (arith, ints) in e ∙ total_from (z +ℤ n) ns

total_is : (ns : List ℤ) → total ns ≡ fold plus (pos 0) ns
total_is ns = let e : total ns ≡ pos 0 +ℤ total ns = omega (arith, ints) in e ∙ total_from (pos 0) ns

pub totals : (xs : List Datum) → and_then (each as_int xs) (λ ns. Value (total ns)) ≡ fold_ints plus (pos 0) xs
totals xs = (λ i. and_then (each as_int xs) (λ ns. Value (total_is ns i))) ∙ fold_ints_is plus (pos 0) xs

-- ---- extremes

abbrev pub extreme : (ℤ → ℤ → ℤ) → Option ℤ → ℤ → Option ℤ
extreme f None n = Some n
extreme f (Some m) n = Some (f m n)

extreme_from : (f : ℤ → ℤ → ℤ) (m : ℤ) (ns : List ℤ) → Some (fold f m ns) ≡ fold (extreme f) (Some m) ns
extreme_from f m [] = refl
extreme_from f m (n ∷ ns) = extreme_from f (f m n) ns

least_is : (ns : List ℤ) → least_of ns ≡ fold (extreme int_min) None ns
least_is [] = refl
least_is (n ∷ ns) = extreme_from int_min n ns

greatest_is : (ns : List ℤ) → greatest_of ns ≡ fold (extreme int_max) None ns
greatest_is [] = refl
greatest_is (n ∷ ns) = extreme_from int_max n ns

pub leasts : (xs : List Datum) → and_then (each as_int xs) (λ ns. Value (least_of ns))
    ≡ fold_ints (extreme int_min) None xs
leasts xs = (λ i. and_then (each as_int xs) (λ ns. Value (least_is ns i))) ∙ fold_ints_is (extreme int_min) None xs

pub greatests : (xs : List Datum) → and_then (each as_int xs) (λ ns. Value (greatest_of ns))
    ≡ fold_ints (extreme int_max) None xs
greatests xs =
    (λ i. and_then (each as_int xs) (λ ns. Value (greatest_is ns i))) ∙ fold_ints_is (extreme int_max) None xs
