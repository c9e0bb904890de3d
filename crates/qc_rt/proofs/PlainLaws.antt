-- What `plain` is at each kind.
use Rattle.std.proofs.Common.{◌≡◌, ℕ, ℤ, Bool, true, false, List, [], ◌∷◌, map, refl, sym, ap, ◌∙◌}
use Rattle.std.specs.Prelude.{◌&&◌, ◌||◌, not}
use Rattle.std.specs.List.{AllByRecursion}
use Rattle.qc_containers.specs.Name.{is_marker, is_name}
use Rattle.qc_containers.specs.Rising.{on_value}
use Rattle.qc_containers.proofs.Truth.{and_parts, and_both, not_true, or_none}
use Rattle.qc_data.specs.Facts.{named, all_true, all_named, all_values}
use Rattle.qc_data.specs.declared.data.Datum.{Datum}
use Rattle.qc_data.specs.declared.data.Datum.TheOpen.{Datum-F}
use Rattle.qc_data.specs.declared.data.Datum.TheViews.{roll-Datum}
use Rattle.qc_data.specs.declared.data.Datum.TheFolds.{map-Datum, fold-roll-Datum}
use Rattle.qc_data.specs.declared.data.Datum.TheVariants as D
use Rattle.qc_data.proofs.FactLaws.{named-Coll, named-Rec, named-Left, named-Right, named-Brand}
use Rattle.qc_data.proofs.Induction.{every_datum}
use Rattle.qc_rt.specs.Laws.{plain, plain_step}
use Rattle.qc_rt.specs.Seen.{has_marker}

pub plain-roll : (x : Datum-F Datum) → plain (roll-Datum x) ≡ plain_step (map-Datum Datum Bool plain x)
plain-roll x = fold-roll-Datum Bool plain_step x

pub plain-Unit : plain D.Unit ≡ true
plain-Unit = ap plain (sym D.rolls-Unit) ∙ plain-roll Datum-F.Unit

pub plain-Bool : (b : Bool) → plain (D.Bool b) ≡ true
plain-Bool b = ap plain (sym (D.rolls-Bool b)) ∙ plain-roll (Datum-F.Bool b)

pub plain-Int : (n : ℤ) → plain (D.Int n) ≡ true
plain-Int n = ap plain (sym (D.rolls-Int n)) ∙ plain-roll (Datum-F.Int n)

pub plain-Text : (text : List ℕ) → plain (D.Text text) ≡ true
plain-Text text = ap plain (sym (D.rolls-Text text)) ∙ plain-roll (Datum-F.Text text)

pub plain-Coll : (ds : List Datum) → plain (D.Coll ds) ≡ all_true (map plain ds)
plain-Coll ds = ap plain (sym (D.rolls-Coll ds)) ∙ plain-roll (Datum-F.Coll ds)

pub plain-Rec : (fs : List (List ℕ × Datum)) → plain (D.Rec fs) ≡ plain_step (Datum-F.Rec (map (on_value plain) fs))
plain-Rec fs = ap plain (sym (D.rolls-Rec fs)) ∙ plain-roll (Datum-F.Rec fs)

pub plain-Left : (d : Datum) → plain (D.Left d) ≡ plain d
plain-Left d = ap plain (sym (D.rolls-Left d)) ∙ plain-roll (Datum-F.Left d)

pub plain-Right : (d : Datum) → plain (D.Right d) ≡ plain d
plain-Right d = ap plain (sym (D.rolls-Right d)) ∙ plain-roll (Datum-F.Right d)

pub plain-Brand : (name : List ℕ) (d : Datum) → plain (D.Brand name d) ≡ plain d
plain-Brand name d = ap plain (sym (D.rolls-Brand name d)) ∙ plain-roll (Datum-F.Brand name d)

-- ---- fields one by one

-- the first field and the rest
pub record IsFirst (n : List ℕ) (b : Bool) (ps : List (List ℕ × Bool)) : Type 0 where
  pub name : is_marker n ≡ false
  pub value : b ≡ true
  pub rest : plain_step (Datum-F.Rec ps) ≡ true

pub plain_first : (n : List ℕ) (b : Bool) (ps : List (List ℕ × Bool))
    → plain_step (Datum-F.Rec ((n, b) ∷ ps)) ≡ true → IsFirst n b ps
plain_first n b ps h =
    let p = and_parts (not (is_marker n || has_marker ps)) (b && all_values ps) h in
    let names = or_none (is_marker n) (has_marker ps) (not_true (is_marker n || has_marker ps) p.0) in
    let values = and_parts b (all_values ps) p.1 in
    record { name = names.0; value = values.0; rest = rw (names.1) values.1 }

pub plain_fields : (n : List ℕ) (b : Bool) (ps : List (List ℕ × Bool)) → is_marker n ≡ false → b ≡ true
    → plain_step (Datum-F.Rec ps) ≡ true → plain_step (Datum-F.Rec ((n, b) ∷ ps)) ≡ true
plain_fields n b ps e v h = rw (e, v) h

-- ---- where all names are names

-- a name is no marker
pub name_unmarked : (n : List ℕ) → is_name n ≡ true → is_marker n ≡ false
name_unmarked n h =
    let p = and_parts _ _ h in
    let q = and_parts _ (not (is_marker n)) p.1 in
    not_true (is_marker n) q.1

abbrev IsPlain : Datum → Type 0
IsPlain d = named d ≡ true → plain d ≡ true

items_plain : (ds : List Datum) → AllByRecursion IsPlain ds → all_true (map named ds) ≡ true
    → all_true (map plain ds) ≡ true
items_plain [] h n = refl
items_plain (d ∷ ds) h n =
    let p = and_parts (named d) (all_true (map named ds)) n in
    and_both (plain d) (all_true (map plain ds)) (h.0 p.0) (items_plain ds h.1 p.1)

fields_plain : (fs : List (List ℕ × Datum)) → AllByRecursion (λ f. IsPlain f.1) fs
    → all_named (map (on_value named) fs) ≡ true → plain_step (Datum-F.Rec (map (on_value plain) fs)) ≡ true
fields_plain [] h n = refl
fields_plain (f ∷ fs) h n =
    let p = and_parts (is_name f.0) (named f.1 && all_named (map (on_value named) fs)) n in
    let q = and_parts (named f.1) (all_named (map (on_value named) fs)) p.1 in
    plain_fields f.0 (plain f.1) (map (on_value plain) fs) (name_unmarked f.0 p.0) (h.0 q.0) (fields_plain fs h.1 q.1)

-- a datum whose names are names is plain
pub named_plain : (d : Datum) → named d ≡ true → plain d ≡ true
named_plain = every_datum IsPlain record {
  unit = λ n. plain-Unit;
  bool = λ b n. plain-Bool b;
  int = λ k n. plain-Int k;
  text = λ s n. plain-Text s;
  coll = λ ds h n. plain-Coll ds ∙ items_plain ds h (sym (named-Coll ds) ∙ n);
  rec = λ fs h n. plain-Rec fs ∙ fields_plain fs h (sym (named-Rec fs) ∙ n);
  left = λ d h n. plain-Left d ∙ h (sym (named-Left d) ∙ n);
  right = λ d h n. plain-Right d ∙ h (sym (named-Right d) ∙ n);
  brand = λ c d h n. plain-Brand c d ∙ h (and_parts (is_name c) (named d) (sym (named-Brand c d) ∙ n)).1;
}
