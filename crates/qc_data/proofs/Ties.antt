-- Only equal data tie in the order.
use Rattle.std.proofs.Common.{◌≡◌, ℕ, ℤ, List, [], ◌∷◌, map, Bool, true, false, IsTrue, ◌↔◌, Ordering, Less, Equal}
use Rattle.std.proofs.Common.{Greater, refl, sym, ap, ◌∙◌}
use Rattle.std.specs.Cmp.{int_ranked, tied_itself}
use Rattle.std.specs.Ordering.{ordering_then, bool_cmp, is_eq}
use Rattle.std.proofs.lemmas.Map.Text.{is_eq-slice_cmp}
use Rattle.std.proofs.lemmas.Slice.Eq.{bytes_eq-Decides}
use Rattle.qc_data.specs.Order.{cmp, layer_cmp, list_cmp, pairs_cmp}
use Rattle.qc_containers.specs.Rising.{on_value, text_cmp}
use Rattle.qc_data.specs.contracts.data.DatumPartialEq.TheImpl as Eqs
use Rattle.qc_data.specs.contracts.data.DatumOrd.TheImpl.Laws as L
use Rattle.qc_data.specs.declared.data.Datum.{Datum}
use Rattle.qc_data.specs.declared.data.Datum.TheOpen.{Datum-F}
use Rattle.qc_data.specs.declared.data.Datum.TheViews.{out-Datum, roll-Datum}
use Rattle.qc_data.specs.declared.data.Datum.TheFolds.{map-Datum, ind-Datum}
use Rattle.qc_data.proofs.Layers.{out-roll, roll-out, map-twice}
use Rattle.qc_data.proofs.OrderLaws.{cmp-layers}
use Rattle.qc_data.proofs.Total.{cmp_total, own_is}
use Rattle.qc_containers.proofs.Truth.{is_Equal}

abbrev Only : Datum → Type 0
Only x = (y : Datum) → cmp x y ≡ Equal → x ≡ y

abbrev Sure : Type 0
Sure = (d : Datum) × Only d

then_Equal : (r s : Ordering) → ordering_then r s ≡ Equal → (r ≡ Equal) × (s ≡ Equal)
then_Equal Less s e = absurd (cc)
then_Equal Equal s e = (refl, e)
then_Equal Greater s e = absurd (cc)

text_equal : (s t : List ℕ) → text_cmp s t ≡ Equal → s ≡ t
text_equal s t e = (bytes_eq-Decides s t).0 (sym (is_eq-slice_cmp s t) ∙ ap is_eq e)

list_equal : (ws : List Sure) (ys : List Datum) → list_cmp (map (λ e. cmp e.0) ws) ys ≡ Equal → map (λ e. e.0) ws ≡ ys
list_equal [] [] e = refl
list_equal [] (y ∷ ys) e = absurd (cc)
list_equal (w ∷ ws) [] e = absurd (cc)
list_equal (w ∷ ws) (y ∷ ys) e = let t = then_Equal (cmp w.0 y) (list_cmp (map (λ e. cmp e.0) ws) ys) e in
    λ i. w.1 y t.0 i ∷ list_equal ws ys t.1 i

pairs_equal : (ws : List (List ℕ × Sure)) (ys : List (List ℕ × Datum))
    → pairs_cmp (map (on_value (λ e. cmp e.0)) ws) ys ≡ Equal → map (on_value (λ e. e.0)) ws ≡ ys
pairs_equal [] [] e = refl
pairs_equal [] (y ∷ ys) e = absurd (cc)
pairs_equal (w ∷ ws) [] e = absurd (cc)
pairs_equal (w ∷ ws) (y ∷ ys) e =
    let t = then_Equal (ordering_then (text_cmp w.0 y.0) (cmp w.1.0 y.1))
    (pairs_cmp (map (on_value (λ e. cmp e.0)) ws) ys) e in
    let u = then_Equal (text_cmp w.0 y.0) (cmp w.1.0 y.1) t.0 in
    λ i. (text_equal w.0 y.0 u.0 i, w.1.1 y.1 u.1 i) ∷ pairs_equal ws ys t.1 i

bool_equal : (p q : Bool) → bool_cmp p q ≡ Equal → p ≡ q
bool_equal true true e = refl
bool_equal true false e = absurd (cc)
bool_equal false true e = absurd (cc)
bool_equal false false e = refl

layer_equal : (w : Datum-F Sure) (b : Datum-F Datum)
    → layer_cmp (map-Datum Sure (Datum → Ordering) (λ e. cmp e.0) w) b ≡ Equal → map-Datum Sure Datum (λ e. e.0) w ≡ b
layer_equal Datum-F.Unit Datum-F.Unit e = refl
layer_equal (Datum-F.Bool p) (Datum-F.Bool q) e = ap (λ (b : Bool). Datum-F.Bool b) (bool_equal p q e)
layer_equal (Datum-F.Int m) (Datum-F.Int n) e = ap (λ (n : ℤ). Datum-F.Int n) (int_ranked m n Equal (sym e))
layer_equal (Datum-F.Text s) (Datum-F.Text t) e = ap (λ (s : List ℕ). Datum-F.Text s) (text_equal s t e)
layer_equal (Datum-F.Coll ws) (Datum-F.Coll ys) e = ap (λ (l : List Datum). Datum-F.Coll l) (list_equal ws ys e)
layer_equal (Datum-F.Rec ws) (Datum-F.Rec ys) e =
    ap (λ (l : List (List ℕ × Datum)). Datum-F.Rec l) (pairs_equal ws ys e)
layer_equal (Datum-F.Left w) (Datum-F.Left y) e = ap (λ (d : Datum). Datum-F.Left d) (w.1 y e)
layer_equal (Datum-F.Right w) (Datum-F.Right y) e = ap (λ (d : Datum). Datum-F.Right d) (w.1 y e)
layer_equal (Datum-F.Brand n w) (Datum-F.Brand m y) e =
    let t = then_Equal (text_cmp n m) (cmp w.0 y) e in λ i. Datum-F.Brand (text_equal n m t.0 i) (w.1 y t.1 i)
layer_equal w b e = absurd (cc)

only-step : (x : Datum-F Datum) (w : Datum-F Sure) → map-Datum Sure Datum (λ e. e.0) w ≡ x → (y : Datum)
    → cmp (roll-Datum x) y ≡ Equal → roll-Datum x ≡ y
only-step x w is y e =
    let at : layer_cmp (map-Datum Datum (Datum → Ordering) cmp x) (out-Datum y) ≡ Equal
    = ap (λ (l : Datum-F Datum). layer_cmp (map-Datum Datum (Datum → Ordering) cmp l) (out-Datum y)) (sym (out-roll x))
    ∙ sym (cmp-layers (roll-Datum x) y) ∙ e in
    let mapped : map-Datum Datum (Datum → Ordering) cmp x ≡ map-Datum Sure (Datum → Ordering) (λ e. cmp e.0) w
    = ap (map-Datum Datum (Datum → Ordering) cmp) (sym is) ∙ map-twice Sure Datum (Datum → Ordering) (λ e. e.0) cmp w in
    ap roll-Datum (sym is ∙ layer_equal w (out-Datum y)
    (ap (λ (l : Datum-F (Datum → Ordering)). layer_cmp l (out-Datum y)) (sym mapped) ∙ at)) ∙ roll-out y

-- data that tie are one
pub cmp_only : (x y : Datum) → cmp x y ≡ Equal → x ≡ y
cmp_only = ind-Datum Only only-step

from-test : (r : Bool) (o : Ordering) → r ≡ is_eq o → IsTrue r → o ≡ Equal
from-test r o e t = is_Equal o (sym e ∙ t)

to-test : (r : Bool) (o : Ordering) → r ≡ is_eq o → o ≡ Equal → IsTrue r
to-test r o e p = e ∙ ap is_eq p

-- what the derived `==` says
pub equal_is : (x y a b : Datum) (r : Bool) → r ≡ Eqs.ghosts.eq x y → x ≡ a → y ≡ b → IsTrue r ↔ (a ≡ b)
equal_is x y a b r e p q =
    let tested : r ≡ is_eq (cmp x y) = e ∙ L.matches_eq-law x y
    ∙ ap (λ (R : Datum → Datum → Ordering). is_eq (R x y)) own_is in (
      λ t. sym p ∙ cmp_only x y (from-test r (cmp x y) tested t)
          ∙ q,
      λ k. to-test r (cmp x y) tested (ap (cmp x) (sym (p ∙ k ∙ sym q)) ∙ tied_itself cmp_total x),
    )
