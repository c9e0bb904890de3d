-- What the order is at each kind.
use Rattle.std.proofs.Common.{◌≡◌, ℕ, ℤ, Bool, List, Ordering, Equal, refl, sym, ap, ◌∙◌}
use Rattle.std.specs.Cmp.Lexicographic.{slice_cmp}
use Rattle.std.specs.Ordering.{ordering_then, bool_cmp, int_cmp, nat_cmp}
use Rattle.qc_data.specs.Order.{cmp, cmp_step, layer_cmp, pair_cmp, rank}
use Rattle.qc_containers.specs.Rising.{text_cmp}
use Rattle.qc_data.specs.declared.data.Datum.{Datum}
use Rattle.qc_data.specs.declared.data.Datum.TheOpen.{Datum-F}
use Rattle.qc_data.specs.declared.data.Datum.TheViews.{out-Datum}
use Rattle.qc_data.specs.declared.data.Datum.TheFolds.{map-Datum, fold_out-Datum}
use Rattle.qc_data.specs.declared.data.Datum.TheVariants as D
use Rattle.qc_data.proofs.KindLaws.{out-Coll, out-Rec}
use Rattle.qc_data.proofs.Layers.{list_cmp-map, pairs_cmp-map}

-- one layer against another
pub cmp-layers : (a b : Datum) → cmp a b
    ≡ layer_cmp (map-Datum Datum (Datum → Ordering) cmp (out-Datum a)) (out-Datum b)
cmp-layers a b = ap (λ (f : Datum → Ordering). f b) (fold_out-Datum (Datum → Ordering) cmp_step a)

pub cmp-Unit : cmp D.Unit D.Unit ≡ Equal
cmp-Unit = cmp-layers D.Unit D.Unit ∙ rw D.outs-Unit refl

pub cmp-Bool : (a b : Bool) → cmp (D.Bool a) (D.Bool b) ≡ bool_cmp a b
cmp-Bool a b = cmp-layers (D.Bool a) (D.Bool b) ∙ rw (D.outs-Bool a, D.outs-Bool b) refl

pub cmp-Int : (m n : ℤ) → cmp (D.Int m) (D.Int n) ≡ int_cmp m n
cmp-Int m n = cmp-layers (D.Int m) (D.Int n) ∙ rw (D.outs-Int m, D.outs-Int n) refl

pub cmp-Text : (s t : List ℕ) → cmp (D.Text s) (D.Text t) ≡ text_cmp s t
cmp-Text s t = cmp-layers (D.Text s) (D.Text t) ∙ rw (D.outs-Text s, D.outs-Text t) refl

pub cmp-Coll : (xs ys : List Datum) → cmp (D.Coll xs) (D.Coll ys) ≡ slice_cmp cmp xs ys
cmp-Coll xs ys = cmp-layers (D.Coll xs) (D.Coll ys) ∙ rw (out-Coll xs, out-Coll ys) (sym (list_cmp-map cmp xs ys))

pub cmp-Rec : (ps qs : List (List ℕ × Datum)) → cmp (D.Rec ps) (D.Rec qs) ≡ slice_cmp pair_cmp ps qs
cmp-Rec ps qs = cmp-layers (D.Rec ps) (D.Rec qs) ∙ rw (out-Rec ps, out-Rec qs) (sym (pairs_cmp-map cmp ps qs))

pub cmp-Left : (a b : Datum) → cmp (D.Left a) (D.Left b) ≡ cmp a b
cmp-Left a b = cmp-layers (D.Left a) (D.Left b) ∙ rw (D.outs-Left a, D.outs-Left b) refl

pub cmp-Right : (a b : Datum) → cmp (D.Right a) (D.Right b) ≡ cmp a b
cmp-Right a b = cmp-layers (D.Right a) (D.Right b) ∙ rw (D.outs-Right a, D.outs-Right b) refl

pub cmp-Brand : (m n : List ℕ) (a b : Datum) → cmp (D.Brand m a) (D.Brand n b) ≡ ordering_then (text_cmp m n) (cmp a b)
cmp-Brand m n a b = cmp-layers (D.Brand m a) (D.Brand n b) ∙ rw (D.outs-Brand m a, D.outs-Brand n b) refl

ranked : (x y : Datum-F Datum) → (rank x ≡ rank y → ⊥)
    → layer_cmp (map-Datum Datum (Datum → Ordering) cmp x) y ≡ nat_cmp (rank x) (rank y)
ranked Datum-F.Unit Datum-F.Unit h = absurd (h refl)
ranked (Datum-F.Bool a) (Datum-F.Bool b) h = absurd (h refl)
ranked (Datum-F.Int m) (Datum-F.Int n) h = absurd (h refl)
ranked (Datum-F.Text s) (Datum-F.Text t) h = absurd (h refl)
ranked (Datum-F.Coll xs) (Datum-F.Coll ys) h = absurd (h refl)
ranked (Datum-F.Rec ps) (Datum-F.Rec qs) h = absurd (h refl)
ranked (Datum-F.Left a) (Datum-F.Left b) h = absurd (h refl)
ranked (Datum-F.Right a) (Datum-F.Right b) h = absurd (h refl)
ranked (Datum-F.Brand m a) (Datum-F.Brand n b) h = absurd (h refl)
ranked x y h = refl

-- data of two kinds are in the order of the kinds
pub cmp-kinds : (a b : Datum) → (rank (out-Datum a) ≡ rank (out-Datum b) → ⊥)
    → cmp a b ≡ nat_cmp (rank (out-Datum a)) (rank (out-Datum b))
cmp-kinds a b h = cmp-layers a b ∙ ranked (out-Datum a) (out-Datum b) h
