-- What holds of an operator at any size and within bounds agrees.
use Rattle.std.proofs.Common.{ℤ, pos, neg_ℤ, unsigned_abs, int_div, int_rem, ◌+ℤ◌, ◌-ℤ◌, ◌*ℤ◌, List, [], ◌∷◌, length}
use Rattle.std.proofs.Common.{Some, refl}
use Rattle.qc_data.specs.Kinds.{as_coll, as_int, made, total}
use Rattle.qc_data.specs.Outcome.{Outcome, Value, Halts, Stuck, any_size, within, and_then, Agrees}
use Rattle.qc_data.specs.declared.data.Datum.{Datum}
use Rattle.qc_data.specs.declared.data.Datum.TheOpen.{Datum-F}
use Rattle.qc_data.specs.declared.data.Datum.TheViews.{out-Datum}
use Rattle.qc_data.proofs.KindLaws.{agrees_made}
use Rattle.qc_data.proofs.Outcomes.{agrees_same, agrees_then, agrees_after}
use Rattle.qc_types.specs.Classes.{Defs}
use Rattle.qc_ops.specs.Numbers.{as_ints, mean_of}
use Rattle.qc_ops.specs.Operands.{optional}
use Rattle.qc_ops.specs.Operators.{unary, binary}
use Rattle.qc_ops.specs.Sides.{side_at, by_side}
use Rattle.qc_ops.specs.declared.op.Unary.{Unary}
use Rattle.qc_ops.specs.declared.op.Unary.TheVariants as one
use Rattle.qc_ops.specs.declared.op.Binary.{Binary}
use Rattle.qc_ops.specs.declared.op.Binary.TheVariants as two

agrees_mean : (low high : ℤ) (ns : List ℤ) → Agrees (mean_of any_size ns) (mean_of (within low high) ns)
agrees_mean low high [] = refl
agrees_mean low high (n ∷ ns) =
    agrees_then (made any_size (int_div (total (n ∷ ns)) (pos (length (n ∷ ns)))))
    (made (within low high) (int_div (total (n ∷ ns)) (pos (length (n ∷ ns))))) (λ d. Value (optional (Some d)))
    (λ d. Value (optional (Some d)))
    (agrees_made low high (int_div (total (n ∷ ns)) (pos (length (n ∷ ns))))) (λ d. refl)

-- an integer made of one, or of two
on_one : (low high : ℤ) (f : ℤ → ℤ) (a : Datum)
    → Agrees (and_then (as_int a) (λ n. made any_size (f n))) (and_then (as_int a) (λ n. made (within low high) (f n)))
on_one low high f a =
    agrees_after (as_int a) (λ n. made any_size (f n)) (λ n. made (within low high) (f n))
    (λ n. agrees_made low high (f n))

on_two : (low high : ℤ) (f : ℤ → ℤ → ℤ) (a b : Datum)
    → Agrees (and_then (as_int a) (λ x. and_then (as_int b) (λ y. made any_size (f x y))))
    (and_then (as_int a) (λ x. and_then (as_int b) (λ y. made (within low high) (f x y))))
on_two low high f a b = agrees_after (as_int a) _ _ (λ x. on_one low high (f x) b)

pub agrees_unary : (low high : ℤ) (c : Defs) (op : Unary) (a : Datum)
    → Agrees (unary any_size c op a) (unary (within low high) c op a)
agrees_unary low high c one.Neg a = on_one low high neg_ℤ a
agrees_unary low high c one.Abs a = on_one low high (λ n. pos (unsigned_abs n)) a
agrees_unary low high c (one.DivBy k) a = on_one low high (λ n. int_div n k) a
agrees_unary low high c (one.ModBy k) a = on_one low high (λ n. int_rem n k) a
agrees_unary low high c one.Count a = agrees_after (as_coll a) _ _ (λ xs. agrees_made low high (pos (length xs)))
agrees_unary low high c one.Sum a = agrees_after (as_ints a) _ _ (λ ns. agrees_made low high (total ns))
agrees_unary low high c one.Avg a =
    agrees_after (as_ints a) (mean_of any_size) (mean_of (within low high)) (agrees_mean low high)
agrees_unary low high c op a = agrees_same (unary any_size c op a)

pub agrees_binary : (low high : ℤ) (op : Binary) (a b : Datum)
    → Agrees (binary any_size op a b) (binary (within low high) op a b)
agrees_binary low high two.Add a b = on_two low high (λ x y. x +ℤ y) a b
agrees_binary low high two.Sub a b = on_two low high (λ x y. x -ℤ y) a b
agrees_binary low high two.Mul a b = on_two low high (λ x y. x *ℤ y) a b
agrees_binary low high op a b = agrees_same (binary any_size op a b)

agrees_at : {A : Type 0} (f g h k : Datum → Outcome A) → ((x : Datum) → Agrees (f x) (h x))
    → ((x : Datum) → Agrees (g x) (k x)) → (d : Datum-F Datum) → Agrees (side_at f g d) (side_at h k d)
agrees_at f g h k p q (Datum-F.Left d) = p d
agrees_at f g h k p q (Datum-F.Right d) = q d
agrees_at {A = A} f g h k p q _ = agrees_same {A = A} (Halts Stuck)

pub agrees_side : {A : Type 0} (f g h k : Datum → Outcome A) → ((x : Datum) → Agrees (f x) (h x))
    → ((x : Datum) → Agrees (g x) (k x)) → (d : Datum) → Agrees (by_side f g d) (by_side h k d)
agrees_side f g h k p q d = agrees_at f g h k p q (out-Datum d)
