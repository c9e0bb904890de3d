-- The order that is derived is the one that is defined, so it is total.
use Rattle.std.proofs.Common.{◌≡◌, List, Ordering, Equal, refl, sym, ap, subst, ◌∙◌}
use Rattle.std.specs.Cmp.{IsTotalOrder}
use Rattle.std.specs.List.Sorted.{IsSorted, IsStable}
use denote.Hole.Compared.{compared, compared_is}
use Rattle.qc_data.specs.Order.{cmp, sort_by, layer_cmp}
use Rattle.qc_data.specs.declared.data.Datum.{Datum}
use Rattle.qc_data.specs.declared.data.Datum.TheOpen.{Datum-F}
use Rattle.qc_data.specs.declared.data.Datum.TheViews.{out-Datum, roll-Datum}
use Rattle.qc_data.specs.declared.data.Datum.TheFolds.{map-Datum, ind-Datum}
use Rattle.qc_data.specs.declared.data.Datum.TheBlock as B
use Rattle.qc_data.specs.contracts.data.DatumOrd.TheImpl as I
use Rattle.qc_data.specs.contracts.data.DatumOrd.TheImpl.Laws as L
use Rattle.qc_data.proofs.Layers.{out-roll, map-same, list_cmp-map, pairs_cmp-map}
use Rattle.qc_data.proofs.OrderLaws.{cmp-layers}
use Rattle.qc_data.proofs.Sorting.{sorted_is}

abbrev own : Datum → Datum → Ordering
own = I.ghosts.cmp

one_step : (x y : Datum) → own x y ≡ I.the_step
    (compared B.the_members B.the_family B.the_depth Ordering Equal I.the_step) B.member-Datum x y
one_step x y = compared_is B.the_members B.the_family B.the_depth Ordering Equal I.the_step L.local B.member-Datum x y

by_layers : (x y : Datum) (a b : Datum-F Datum) → out-Datum x ≡ a → out-Datum y ≡ b
    → own x y ≡ layer_cmp (map-Datum Datum (Datum → Ordering) own a) b
by_layers x y Datum-F.Unit Datum-F.Unit p q = one_step x y ∙ rw (p, q) refl
by_layers x y (Datum-F.Bool b) (Datum-F.Bool c) p q = one_step x y ∙ rw (p, q) refl
by_layers x y (Datum-F.Int n) (Datum-F.Int m) p q = one_step x y ∙ rw (p, q) refl
by_layers x y (Datum-F.Text s) (Datum-F.Text t) p q = one_step x y ∙ rw (p, q) refl
by_layers x y (Datum-F.Coll xs) (Datum-F.Coll ys) p q = one_step x y ∙ rw (p, q) (list_cmp-map own xs ys)
by_layers x y (Datum-F.Rec xs) (Datum-F.Rec ys) p q = one_step x y ∙ rw (p, q) (pairs_cmp-map own xs ys)
by_layers x y (Datum-F.Left d) (Datum-F.Left e) p q = one_step x y ∙ rw (p, q) refl
by_layers x y (Datum-F.Right d) (Datum-F.Right e) p q = one_step x y ∙ rw (p, q) refl
by_layers x y (Datum-F.Brand n d) (Datum-F.Brand m e) p q = one_step x y ∙ rw (p, q) refl
by_layers x y a b p q = one_step x y ∙ rw (p, q) refl

abbrev Alike : Datum → Type 0
Alike x = own x ≡ cmp x

same-step : (x : Datum-F Datum) (w : Datum-F ((d : Datum) × Alike d))
    → map-Datum ((d : Datum) × Alike d) Datum (λ e. e.0) w ≡ x → (y : Datum)
    → own (roll-Datum x) y ≡ cmp (roll-Datum x) y
same-step x w is y =
    let ours : cmp (roll-Datum x) y ≡ layer_cmp (map-Datum Datum (Datum → Ordering) cmp x) (out-Datum y) = cmp-layers
    (roll-Datum x) y ∙ ap (λ (l : Datum-F Datum). layer_cmp (map-Datum Datum (Datum → Ordering) cmp l) (out-Datum y))
    (out-roll x) in
    by_layers (roll-Datum x) y x (out-Datum y) (out-roll x) refl
    ∙ ap (λ (l : Datum-F (Datum → Ordering)). layer_cmp l (out-Datum y))
    (map-same Alike (Datum → Ordering) own cmp (λ d h. h) w x is)
    ∙ sym ours

same : (x : Datum) → Alike x
same = ind-Datum Alike (λ x w is. λ i y. same-step x w is y i)

-- the order is total
pub cmp_total : IsTotalOrder cmp
cmp_total = subst IsTotalOrder (λ i x. same x i) L.total-law

-- the derived order is the one that is defined
pub own_is : own ≡ cmp
own_is = λ i x. same x i

-- what the derived order sorts to
pub sorted_own : (xs ys : List Datum) → IsSorted own ys → IsStable own xs ys → ys ≡ sort_by cmp xs
sorted_own xs ys s t = sorted_is own L.total-law xs ys s t ∙ ap (λ (R : Datum → Datum → Ordering). sort_by R xs) own_is
