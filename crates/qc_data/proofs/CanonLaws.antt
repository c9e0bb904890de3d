-- What the canon is at each kind, and that it is its own canon.
use Rattle.std.proofs.Common.{◌≡◌, ℕ, ℤ, Bool, List, [], ◌∷◌, map, refl, sym, ap, ◌∙◌}
use Rattle.std.specs.List.{AllByRecursion}
use Rattle.qc_data.specs.Order.{cmp, canon, canon_step, sort_by}
use Rattle.qc_containers.specs.Rising.{on_value}
use Rattle.qc_data.specs.declared.data.Datum.{Datum}
use Rattle.qc_data.specs.declared.data.Datum.TheOpen.{Datum-F}
use Rattle.qc_data.specs.declared.data.Datum.TheViews.{roll-Datum}
use Rattle.qc_data.specs.declared.data.Datum.TheFolds.{map-Datum, fold-roll-Datum}
use Rattle.qc_data.specs.declared.data.Datum.TheVariants as D
use Rattle.qc_data.proofs.Induction.{every_datum}
use Rattle.qc_data.proofs.SortLaws.{all-sort, sort-sort}
use Rattle.qc_data.proofs.Total.{cmp_total}

canon-roll : (x : Datum-F Datum) → canon (roll-Datum x) ≡ canon_step (map-Datum Datum Datum canon x)
canon-roll x = fold-roll-Datum Datum canon_step x

pub canon-Unit : canon D.Unit ≡ D.Unit
canon-Unit = ap canon (sym D.rolls-Unit) ∙ canon-roll Datum-F.Unit ∙ D.rolls-Unit

pub canon-Bool : (b : Bool) → canon (D.Bool b) ≡ D.Bool b
canon-Bool b = ap canon (sym (D.rolls-Bool b)) ∙ canon-roll (Datum-F.Bool b) ∙ D.rolls-Bool b

pub canon-Int : (n : ℤ) → canon (D.Int n) ≡ D.Int n
canon-Int n = ap canon (sym (D.rolls-Int n)) ∙ canon-roll (Datum-F.Int n) ∙ D.rolls-Int n

pub canon-Text : (text : List ℕ) → canon (D.Text text) ≡ D.Text text
canon-Text text = ap canon (sym (D.rolls-Text text)) ∙ canon-roll (Datum-F.Text text) ∙ D.rolls-Text text

pub canon-Coll : (items : List Datum) → canon (D.Coll items) ≡ D.Coll (sort_by cmp (map canon items))
canon-Coll items = ap canon (sym (D.rolls-Coll items)) ∙ canon-roll (Datum-F.Coll items)

pub canon-Rec : (fields : List (List ℕ × Datum)) → canon (D.Rec fields) ≡ D.Rec (map (on_value canon) fields)
canon-Rec fields =
    ap canon (sym (D.rolls-Rec fields)) ∙ canon-roll (Datum-F.Rec fields) ∙ D.rolls-Rec (map (on_value canon) fields)

pub canon-Left : (d : Datum) → canon (D.Left d) ≡ D.Left (canon d)
canon-Left d = ap canon (sym (D.rolls-Left d)) ∙ canon-roll (Datum-F.Left d) ∙ D.rolls-Left (canon d)

pub canon-Right : (d : Datum) → canon (D.Right d) ≡ D.Right (canon d)
canon-Right d = ap canon (sym (D.rolls-Right d)) ∙ canon-roll (Datum-F.Right d) ∙ D.rolls-Right (canon d)

pub canon-Brand : (name : List ℕ) (d : Datum) → canon (D.Brand name d) ≡ D.Brand name (canon d)
canon-Brand name d =
    ap canon (sym (D.rolls-Brand name d)) ∙ canon-roll (Datum-F.Brand name d) ∙ D.rolls-Brand name (canon d)

-- ---- twice is once

abbrev Settled : Datum → Type 0
Settled d = canon (canon d) ≡ canon d

settled : (xs : List Datum) → AllByRecursion Settled xs → AllByRecursion (λ x. canon x ≡ x) (map canon xs)
settled [] all = tt
settled (x ∷ xs) all = (all.0, settled xs all.1)

unmoved : (xs : List Datum) → AllByRecursion (λ x. canon x ≡ x) xs → map canon xs ≡ xs
unmoved [] all = refl
unmoved (x ∷ xs) all = λ i. all.0 i ∷ unmoved xs all.1 i

values_twice : (ps : List (List ℕ × Datum)) → AllByRecursion (λ p. Settled p.1) ps
    → map (on_value canon) (map (on_value canon) ps) ≡ map (on_value canon) ps
values_twice [] all = refl
values_twice (p ∷ ps) all = λ i. (p.0, all.0 i) ∷ values_twice ps all.1 i

items_twice : (xs : List Datum) → AllByRecursion Settled xs
    → sort_by cmp (map canon (sort_by cmp (map canon xs))) ≡ sort_by cmp (map canon xs)
items_twice xs all =
    ap (sort_by cmp) (unmoved (sort_by cmp (map canon xs))
    (all-sort cmp (λ x. canon x ≡ x) (map canon xs) (settled xs all))) ∙ sort-sort cmp cmp_total (map canon xs)

-- the canon is its own canon
pub canon-canon : (d : Datum) → canon (canon d) ≡ canon d
canon-canon = every_datum Settled record {
  unit = ap canon canon-Unit;
  bool = λ b. ap canon (canon-Bool b);
  int = λ n. ap canon (canon-Int n);
  text = λ text. ap canon (canon-Text text);
  coll = λ xs all. ap canon (canon-Coll xs) ∙ canon-Coll (sort_by cmp (map canon xs)) ∙ ap D.Coll (items_twice xs all)
      ∙ sym (canon-Coll xs);
  rec = λ ps all. ap canon (canon-Rec ps) ∙ canon-Rec (map (on_value canon) ps) ∙ ap D.Rec (values_twice ps all)
      ∙ sym (canon-Rec ps);
  left = λ d h. ap canon (canon-Left d) ∙ canon-Left (canon d) ∙ ap D.Left h ∙ sym (canon-Left d);
  right = λ d h. ap canon (canon-Right d) ∙ canon-Right (canon d) ∙ ap D.Right h ∙ sym (canon-Right d);
  brand = λ name d h. ap canon (canon-Brand name d) ∙ canon-Brand name (canon d) ∙ ap (D.Brand name) h
      ∙ sym (canon-Brand name d);
}
