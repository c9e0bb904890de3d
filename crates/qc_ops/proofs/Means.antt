-- The mean of a collection's integers, by their total and number.
use Rattle.std.proofs.Common.{◌≡◌, ◌≢◌, ℕ, suc, ℤ, pos, int_div, List, [], ◌∷◌, ◌++◌, length, Some, refl, sym, ap, ◌∙◌}
use Rattle.qc_data.specs.Kinds.{as_coll, as_int, total, made}
use Rattle.qc_data.specs.Outcome.{Mode, Outcome, Value, Halts, and_then, each, alone}
use Rattle.qc_data.specs.declared.data.Datum.{Datum}
use Rattle.qc_ops.specs.Numbers.{as_ints, average, mean_of}
use Rattle.qc_ops.specs.Operands.{optional}

one_longer : {B : Type 0} (o : Outcome B) (rest : Outcome (List B)) (ys : List B) (n : ℕ)
    → ((zs : List B) → rest ≡ Value zs → length zs ≡ n)
    → and_then (alone o) (λ x. and_then rest (λ zs. Value (x ++ zs))) ≡ Value ys → length ys ≡ suc n
one_longer (Value y) (Value zs) ys n h e = let same : ys ≡ y ∷ zs = cc in ap length same ∙ ap suc (h zs refl)
one_longer (Value y) (Halts why) ys n h e = absurd (cc)
one_longer (Halts why) rest ys n h e = absurd (cc)

-- as many values as members
pub length-each : {A B : Type 0} (f : A → Outcome B) (xs : List A) (ys : List B) → each f xs ≡ Value ys
    → length ys ≡ length xs
length-each f [] ys e = let same : ys ≡ [] = cc in ap length same
length-each f (x ∷ xs) ys e = one_longer (f x) (each f xs) ys (length xs) (λ zs. length-each f xs zs) e

mean_at : (m : Mode) (o : Outcome (List ℤ)) (t : ℤ) (n : ℕ) → ((ns : List ℤ) → o ≡ Value ns → length ns ≡ n) → n ≢ 0
    → and_then o (λ ns. Value (total ns)) ≡ Value t
    → and_then o (mean_of m) ≡ and_then (made m (int_div t (pos n))) (λ d. Value (optional (Some d)))
mean_at m (Value []) t n h some e = absurd (some (sym (h [] refl)))
mean_at m (Value (k ∷ ks)) t n h some e =
    let same : total (k ∷ ks) ≡ t = cc in
    λ i. and_then (made m (int_div (same i) (pos (h (k ∷ ks) refl i)))) (λ d. Value (optional (Some d)))
mean_at m (Halts why) t n h some e = absurd (cc)

-- the average of a collection that is not empty
pub average_is : (m : Mode) (a : Datum) (items xs : List Datum) (t : ℤ) (n : ℕ) → as_coll a ≡ Value items → xs ≡ items
    → n ≡ length items → n ≢ 0 → and_then (each as_int xs) (λ ns. Value (total ns)) ≡ Value t
    → average m a ≡ and_then (made m (int_div t (pos n))) (λ d. Value (optional (Some d)))
average_is m a items xs t n is same count some e =
    let there : as_ints a ≡ each as_int xs = rw (is, same) refl in
    rw there (mean_at m (each as_int xs) t n (λ ns h. length-each as_int xs ns h ∙ ap length same ∙ sym count) some e)
