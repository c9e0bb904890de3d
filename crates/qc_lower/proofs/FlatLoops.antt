-- A loop of collections, and their members as one collection.
use Rattle.std.proofs.Common.{◌≡◌, List, [], ◌∷◌, ◌++◌, refl, ap, ◌∙◌}
use Rattle.qc_data.specs.Kinds.{as_coll}
use Rattle.qc_data.specs.Outcome.{Outcome, Value, Halts, and_then, gather, each, alone}
use Rattle.qc_data.specs.declared.data.Datum.{Datum}
use Rattle.qc_data.specs.declared.data.Datum.TheVariants.{Coll}
use Rattle.qc_data.proofs.KindLaws.{as_coll-Coll}
use Rattle.qc_ops.specs.Bags.{flattened}
use Rattle.qc_ops.specs.Operands.{bag}

member_first : (l zs : List Datum) (o : Outcome (List Datum)) → o ≡ Value l
    → and_then o (λ ys. and_then (gather as_coll zs) (λ ws. Value (ys ++ ws)))
    ≡ and_then (gather as_coll zs) (λ ws. Value (l ++ ws))
member_first l zs o e = rw e refl

flat_step : (l : List Datum) (o g : Outcome (List Datum)) → and_then o (λ rs. gather as_coll rs) ≡ g
    → and_then (and_then o (λ zs. Value (Coll l ∷ zs))) (λ rs. gather as_coll rs) ≡ and_then g (λ ws. Value (l ++ ws))
flat_step l (Value zs) g h =
    member_first l zs (as_coll (Coll l)) (as_coll-Coll l)
    ∙ ap (λ (o : Outcome (List Datum)). and_then o (λ ws. Value (l ++ ws))) h
flat_step l (Halts w) g h = rw (← h) refl

flat_more : (l : Outcome (List Datum)) (o g : Outcome (List Datum)) → and_then o (λ rs. gather as_coll rs) ≡ g
    → and_then (and_then (alone (bag l)) (λ ys. and_then o (λ zs. Value (ys ++ zs)))) (λ rs. gather as_coll rs)
    ≡ and_then l (λ ys. and_then g (λ ws. Value (ys ++ ws)))
flat_more (Value l) o g h = flat_step l o g h
flat_more (Halts w) o g h = refl

flat_all : {A : Type 0} (h : A → Outcome (List Datum)) (xs : List A)
    → and_then (each (λ x. bag (h x)) xs) (λ rs. gather as_coll rs) ≡ gather h xs
flat_all h [] = refl
flat_all h (x ∷ xs) = flat_more (h x) (each (λ x. bag (h x)) xs) (gather h xs) (flat_all h xs)

whole_coll : (rs : List Datum) (o : Outcome (List Datum)) → o ≡ Value rs
    → and_then o (λ xs. bag (gather as_coll xs)) ≡ bag (gather as_coll rs)
whole_coll rs o e = rw e refl

flat_end : (o g : Outcome (List Datum)) → and_then o (λ rs. gather as_coll rs) ≡ g → and_then (bag o) flattened ≡ bag g
flat_end (Value rs) g h = whole_coll rs (as_coll (Coll rs)) (as_coll-Coll rs) ∙ ap bag h
flat_end (Halts w) g h = rw (← h) refl

pub flat_each : {A : Type 0} (h : A → Outcome (List Datum)) (xs : List A)
    → and_then (bag (each (λ x. bag (h x)) xs)) flattened ≡ bag (gather h xs)
flat_each h xs = flat_end (each (λ x. bag (h x)) xs) (gather h xs) (flat_all h xs)
