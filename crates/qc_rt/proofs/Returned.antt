-- What operators see in the encoding of a datum is the datum.
use Rattle.std.proofs.Common.{◌≡◌, ℕ, true, false, List, [], ◌∷◌, map}
use Rattle.std.proofs.Common.{Some, refl, sym, ap, ◌∙◌}
use Rattle.std.specs.Prelude.{codes}
use Rattle.std.specs.List.{AllByRecursion}
use Rattle.qc_containers.specs.Rising.{on_value}
use Rattle.qc_containers.proofs.Truth.{and_parts, not_true}
use Rattle.qc_data.specs.Decoding.{dec}
use Rattle.qc_data.specs.Encoding.{enc}
use Rattle.qc_data.specs.Facts.{all_true, all_values}
use Rattle.qc_data.specs.declared.data.Datum.{Datum}
use Rattle.qc_data.specs.declared.data.Datum.TheOpen.{Datum-F}
use Rattle.qc_data.specs.declared.data.Datum.TheVariants as D
use Rattle.qc_data.specs.declared.data.Json.{Json}
use Rattle.qc_data.specs.declared.data.Json.TheVariants as J
use Rattle.qc_data.proofs.Encoded.{enc-Unit, enc-Bool, enc-Int, enc-Text, enc-Coll, enc-Rec, enc-Left, enc-Right}
use Rattle.qc_data.proofs.Encoded.{enc-Brand}
use Rattle.qc_data.proofs.Induction.{every_datum}
use Rattle.qc_data.proofs.Inverses.{enc-dec}
use Rattle.qc_rt.specs.Laws.{plain, plain_step}
use Rattle.qc_rt.specs.Seen.{has_marker, object_seen, seen}
use Rattle.qc_rt.specs.Seen.{fields_seen}
use Rattle.qc_rt.proofs.Markers.{has_marker-map}
use Rattle.qc_rt.proofs.PlainLaws.{named_plain, plain-Coll, plain-Rec, plain-Left, plain-Right, plain-Brand}
use Rattle.qc_rt.proofs.PlainLaws.{plain_first}
use Rattle.qc_rt.proofs.SeenLaws.{seen-Null, seen-Bool, seen-Int, seen-Text, seen-Array, seen-Object, seen-plain}

-- what is seen in the object of a class's value
pub class_seen : (n : List ℕ) (j : Json)
    → seen (J.Object ((codes "$class", J.Text n) ∷ (codes "$data", j) ∷ [])) ≡ D.Brand n (seen j)
class_seen n j =
    seen-Object ((codes "$class", J.Text n) ∷ (codes "$data", j) ∷ [])
    ∙ ap (λ d. object_seen ((codes "$class", d) ∷ (codes "$data", seen j) ∷ [])) (seen-Text n)
    ∙ rw (D.outs-Text n) refl

abbrev Back : Datum → Type 0
Back d = plain d ≡ true → seen (enc d) ≡ d

items_back : (ds : List Datum) → AllByRecursion Back ds → all_true (map plain ds) ≡ true
    → map seen (map enc ds) ≡ ds
items_back [] h n = refl
items_back (d ∷ ds) h n =
    let p = and_parts (plain d) (all_true (map plain ds)) n in
    λ i. h.0 p.0 i ∷ items_back ds h.1 p.1 i

fields_back : (fs : List (List ℕ × Datum)) → AllByRecursion (λ f. Back f.1) fs
    → plain_step (Datum-F.Rec (map (on_value plain) fs)) ≡ true → fields_seen (map (on_value enc) fs) ≡ fs
fields_back [] h n = refl
fields_back (f ∷ fs) h n =
    let p = plain_first f.0 (plain f.1) (map (on_value plain) fs) n in
    λ i. (f.0, h.0 p.value i) ∷ fields_back fs h.1 p.rest i

unmarked : (fs : List (List ℕ × Datum)) → plain_step (Datum-F.Rec (map (on_value plain) fs)) ≡ true
    → has_marker (map (on_value enc) fs) ≡ false
unmarked fs n =
    has_marker-map enc fs ∙ sym (has_marker-map plain fs)
    ∙ not_true (has_marker (map (on_value plain) fs)) (and_parts _ (all_values (map (on_value plain) fs)) n).0

pub seen-enc : (d : Datum) → plain d ≡ true → seen (enc d) ≡ d
seen-enc = every_datum Back record {
  unit = λ n. ap seen enc-Unit ∙ seen-Null;
  bool = λ b n. ap seen (enc-Bool b) ∙ seen-Bool b;
  int = λ k n. ap seen (enc-Int k) ∙ seen-Int k;
  text = λ s n. ap seen (enc-Text s) ∙ seen-Text s;
  coll = λ ds h n. ap seen (enc-Coll ds) ∙ seen-Array (map enc ds)
      ∙ ap D.Coll (items_back ds h (sym (plain-Coll ds) ∙ n));
  rec = λ fs h n. ap seen (enc-Rec fs)
      ∙ seen-plain (map (on_value enc) fs) (unmarked fs (sym (plain-Rec fs) ∙ n))
      ∙ ap D.Rec (fields_back fs h (sym (plain-Rec fs) ∙ n));
  left = λ d h n. ap seen (enc-Left d) ∙ seen-Object ((codes "$left", enc d) ∷ [])
      ∙ ap D.Left (h (sym (plain-Left d) ∙ n));
  right = λ d h n. ap seen (enc-Right d) ∙ seen-Object ((codes "$right", enc d) ∷ [])
      ∙ ap D.Right (h (sym (plain-Right d) ∙ n));
  brand = λ c d h n. ap seen (enc-Brand c d) ∙ class_seen c (enc d)
      ∙ ap (D.Brand c) (h (sym (plain-Brand c d) ∙ n));
}

-- what is seen in a tree that encodes a datum is the datum
pub seen-dec : (j : Json) (d : Datum) → dec j ≡ Some d → seen j ≡ d
seen-dec j d e = let p = enc-dec j d e in ap seen (sym p.0) ∙ seen-enc d (named_plain d p.1)

pub dec_seen : (j : Json) (d : Datum) → Some d ≡ dec j → seen j ≡ d
dec_seen j d e = seen-dec j d (sym e)
