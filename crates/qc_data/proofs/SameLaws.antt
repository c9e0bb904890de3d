-- Sameness is an equivalence that collections, records and sides keep.
use Rattle.std.proofs.Common.{◌≡◌, ℕ, List, [], ◌∷◌, map, refl, sym, ap, ◌∙◌}
use Rattle.std.specs.List.Sorted.{IsPermutation}
use Rattle.std.proofs.lemmas.List.Sorted.{IsPermutation-map}
use Rattle.qc_data.specs.Order.{cmp, canon, sort_by, Same}
use Rattle.qc_containers.specs.Rising.{on_value}
use Rattle.qc_data.specs.declared.data.Datum.{Datum}
use Rattle.qc_data.specs.declared.data.Datum.TheVariants as D
use Rattle.qc_data.proofs.CanonLaws.{canon-canon, canon-Coll, canon-Rec, canon-Left, canon-Right, canon-Brand}
use Rattle.qc_data.proofs.SortLaws.{sort-permuted}
use Rattle.qc_data.proofs.Ties.{cmp_only}
use Rattle.qc_data.proofs.Total.{cmp_total}

-- two lists of the same data, place by place
abbrev pub AllSame : List Datum → List Datum → Type 0
AllSame [] [] = Unit {0}
AllSame [] (y ∷ ys) = ⊥
AllSame (x ∷ xs) [] = ⊥
AllSame (x ∷ xs) (y ∷ ys) = Same x y × AllSame xs ys

-- two lists of the same names and the same data, place by place
abbrev pub FieldsSame : List (List ℕ × Datum) → List (List ℕ × Datum) → Type 0
FieldsSame [] [] = Unit {0}
FieldsSame [] (q ∷ qs) = ⊥
FieldsSame (p ∷ ps) [] = ⊥
FieldsSame (p ∷ ps) (q ∷ qs) = (p.0 ≡ q.0) × Same p.1 q.1 × FieldsSame ps qs

pub Same-refl : (a : Datum) → Same a a
Same-refl a = refl

pub Same-sym : (a b : Datum) → Same a b → Same b a
Same-sym a b h = sym h

pub Same-trans : (a b c : Datum) → Same a b → Same b c → Same a c
Same-trans a b c h k = h ∙ k

-- a datum is the same as its canon
pub Same-canon : (d : Datum) → Same d (canon d)
Same-canon d = sym (canon-canon d)

canons : (xs ys : List Datum) → AllSame xs ys → map canon xs ≡ map canon ys
canons [] [] h = refl
canons [] (y ∷ ys) h = absurd h
canons (x ∷ xs) [] h = absurd h
canons (x ∷ xs) (y ∷ ys) h = λ i. h.0 i ∷ canons xs ys h.1 i

-- collections whose members are the same, place by place
pub Same-Coll : (xs ys : List Datum) → AllSame xs ys → Same (D.Coll xs) (D.Coll ys)
Same-Coll xs ys h = canon-Coll xs ∙ ap (λ l. D.Coll (sort_by cmp l)) (canons xs ys h) ∙ sym (canon-Coll ys)

-- collections of the same members in another order
pub Same-permuted : (xs ys : List Datum) → IsPermutation xs ys → Same (D.Coll xs) (D.Coll ys)
Same-permuted xs ys moved =
    canon-Coll xs ∙ ap D.Coll (sort-permuted cmp cmp_only cmp_total (map canon xs) (map canon ys)
    (IsPermutation-map canon xs ys moved)) ∙ sym (canon-Coll ys)

field_canons : (ps qs : List (List ℕ × Datum)) → FieldsSame ps qs → map (on_value canon) ps ≡ map (on_value canon) qs
field_canons [] [] h = refl
field_canons [] (q ∷ qs) h = absurd h
field_canons (p ∷ ps) [] h = absurd h
field_canons (p ∷ ps) (q ∷ qs) h = λ i. (h.0 i, h.1 i) ∷ field_canons ps qs h.2 i

-- records of the same names, whose values are the same
pub Same-Rec : (ps qs : List (List ℕ × Datum)) → FieldsSame ps qs → Same (D.Rec ps) (D.Rec qs)
Same-Rec ps qs h = canon-Rec ps ∙ ap D.Rec (field_canons ps qs h) ∙ sym (canon-Rec qs)

pub Same-Left : (a b : Datum) → Same a b → Same (D.Left a) (D.Left b)
Same-Left a b h = canon-Left a ∙ ap D.Left h ∙ sym (canon-Left b)

pub Same-Right : (a b : Datum) → Same a b → Same (D.Right a) (D.Right b)
Same-Right a b h = canon-Right a ∙ ap D.Right h ∙ sym (canon-Right b)

pub Same-Brand : (name : List ℕ) (a b : Datum) → Same a b → Same (D.Brand name a) (D.Brand name b)
Same-Brand name a b h = canon-Brand name a ∙ ap (D.Brand name) h ∙ sym (canon-Brand name b)
