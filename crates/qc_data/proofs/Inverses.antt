-- Decoding is the inverse of encoding.
use Rattle.std.proofs.Common.{unwrap_or, ◌≡◌, ℕ, List, [], ◌∷◌, map, Bool, true, false, cond, Option, Some, None}
use Rattle.std.proofs.Common.{option_map, option_and_then, IsTrue, ◌↔◌, refl, sym, ap, subst, ◌∙◌}
use Rattle.std.specs.Prelude.{codes, ◌&&◌}
use Rattle.std.specs.Str.{bytes_eq}
use Rattle.std.proofs.lemmas.Slice.Eq.{bytes_eq-Decides}
use Rattle.qc_containers.specs.Name.{is_name}
use Rattle.qc_containers.specs.Rising.{on_value}
use Rattle.qc_data.specs.Encoding.{enc, enc_step}
use Rattle.qc_data.specs.Decoding.{text_layer, dec, dec_step, items_of, fields_of, object_of, plain, branded, name_of}
use Rattle.qc_data.specs.Decoding.{text_of}
use Rattle.qc_data.specs.Facts.{named, named_step, all_true, all_named}
use Rattle.qc_data.specs.declared.data.Datum.{Datum}
use Rattle.qc_data.specs.declared.data.Datum.TheOpen.{Datum-F}
use Rattle.qc_data.specs.declared.data.Datum.TheViews.{out-Datum, roll-Datum}
use Rattle.qc_data.specs.declared.data.Datum.TheFolds.{map-Datum}
use Rattle.qc_data.specs.declared.data.Datum.TheVariants as D
use Rattle.qc_data.specs.declared.data.Json.{Json}
use Rattle.qc_data.specs.declared.data.Json.TheOpen.{Json-F}
use Rattle.qc_data.specs.declared.data.Json.TheViews.{roll-Json}
use Rattle.qc_data.specs.declared.data.Json.TheFolds.{map-Json, ind-Json}
use Rattle.qc_data.specs.declared.data.Json.TheVariants as J
use Rattle.qc_data.proofs.DecodingLaws.{dec-roll}
use Rattle.qc_data.proofs.Encoded.{enc-roll, enc-Text}
use Rattle.qc_data.proofs.FactLaws.{named-roll}
use Rattle.qc_data.proofs.Layers.{roll-out}
use Rattle.qc_data.proofs.Returning.{dec-enc}
use Rattle.qc_containers.proofs.Truth.{and_parts, and_both}

abbrev Back : Json → Type 0
Back j = (d : Datum) → dec j ≡ Some d → (enc d ≡ j) × (named d ≡ true)

abbrev Seen : Type 0
Seen = (j : Json) × Back j

some_same : {A : Type 0} (a b : A) → Some a ≡ Some b → a ≡ b
some_same a b e = ap (λ o. unwrap_or o a) e

map_some : {A B : Type 0} (f : A → B) (o : Option A) (b : B) → option_map f o ≡ Some b
    → (a : A) × (o ≡ Some a) × (f a ≡ b)
map_some f None b e = absurd (cc)
map_some f (Some a) b e = (a, refl, some_same (f a) b e)

and_then_some : {A B : Type 0} (f : A → Option B) (o : Option A) (b : B) → option_and_then f o ≡ Some b
    → (a : A) × (o ≡ Some a) × (f a ≡ Some b)
and_then_some f None b e = absurd (cc)
and_then_some f (Some a) b e = (a, refl, e)

cond_true : {A : Type 0} (c : Bool) (o : Option A) (a : A) → cond c o None ≡ Some a → (c ≡ true) × (o ≡ Some a)
cond_true true o a e = (refl, e)
cond_true false o a e = absurd (cc)

-- what a layer gives, where it is decoded
made : (x : Datum-F Datum) (d : Datum) (j : Json) → roll-Datum x ≡ d → enc_step (map-Datum Datum Json enc x) ≡ j
    → named_step (map-Datum Datum Bool named x) ≡ true → (enc d ≡ j) × (named d ≡ true)
made x d j s p q = (ap enc (sym s) ∙ enc-roll x ∙ p, ap named (sym s) ∙ named-roll x ∙ q)

items_back : (ws : List Seen) (ds : List Datum) → items_of (map dec (map (λ e. e.0) ws)) ≡ Some ds
    → (map enc ds ≡ map (λ e. e.0) ws) × (all_true (map named ds) ≡ true)
items_back [] ds e = let s = some_same [] ds e in (ap (map enc) (sym s), ap (λ l. all_true (map named l)) (sym s))
items_back (w ∷ ws) ds e =
    let p = and_then_some (λ d. option_map (λ ds. d ∷ ds) (items_of (map dec (map (λ e. e.0) ws)))) (dec w.0) ds e in
    let q = map_some (λ ds. p.0 ∷ ds) (items_of (map dec (map (λ e. e.0) ws))) ds p.2 in
    let h = w.1 p.0 p.1 in
    let r = items_back ws q.0 q.1 in (
      ap (map enc) (sym q.2) ∙ (λ i. h.0 i ∷ r.0 i),
      ap (λ l. all_true (map named l)) (sym q.2)
          ∙ and_both (named p.0) (all_true (map named q.0)) h.1 r.1,
    )

fields_back : (ws : List (List ℕ × Seen)) (fs : List (List ℕ × Datum))
    → fields_of (map (on_value dec) (map (on_value (λ e. e.0)) ws)) ≡ Some fs
    → (map (on_value enc) fs ≡ map (on_value (λ e. e.0)) ws) × (all_named (map (on_value named) fs) ≡ true)
fields_back [] fs e =
    let s = some_same [] fs e in (ap (map (on_value enc)) (sym s), ap (λ l. all_named (map (on_value named) l)) (sym s))
fields_back (w ∷ ws) fs e =
    let rest = fields_of (map (on_value dec) (map (on_value (λ e. e.0)) ws)) in
    let c = cond_true (is_name w.0) (option_and_then (λ d. option_map (λ fs. (w.0, d) ∷ fs) rest) (dec w.1.0)) fs e in
    let p = and_then_some (λ d. option_map (λ fs. (w.0, d) ∷ fs) rest) (dec w.1.0) fs c.1 in
    let q = map_some (λ fs. (w.0, p.0) ∷ fs) rest fs p.2 in
    let h = w.1.1 p.0 p.1 in
    let r = fields_back ws q.0 q.1 in (
      ap (map (on_value enc)) (sym q.2) ∙ (λ i. (w.0, h.0 i) ∷ r.0 i),
      ap (λ l. all_named (map (on_value named) l)) (sym q.2)
          ∙ and_both (is_name w.0) _ c.0 (and_both (named p.0) (all_named (map (on_value named) q.0)) h.1 r.1),
    )

abbrev Right : List (List ℕ × Json) → Datum → Type 0
Right ms d = (enc d ≡ J.Object ms) × (named d ≡ true)

plain_back : (ws : List (List ℕ × Seen)) (d : Datum)
    → plain (map (on_value dec) (map (on_value (λ e. e.0)) ws)) ≡ Some d → Right (map (on_value (λ e. e.0)) ws) d
plain_back ws d e =
    let p = map_some D.Rec (fields_of (map (on_value dec) (map (on_value (λ e. e.0)) ws))) d e in
    let r = fields_back ws p.0 p.1 in
    made (Datum-F.Rec p.0) d _ (D.rolls-Rec p.0 ∙ p.2) (ap J.Object r.0) r.1

same_text : (s t : List ℕ) → bytes_eq s t ≡ true → s ≡ t
same_text s t e = (bytes_eq-Decides s t).0 e

one_back : (b c : Bool) (w : List ℕ × Seen) (d : Datum) → bytes_eq w.0 (codes "$left") ≡ b
    → bytes_eq w.0 (codes "$right") ≡ c
    → cond b (option_map D.Left (dec w.1.0)) (cond c (option_map D.Right (dec w.1.0)) (plain ((w.0, dec w.1.0) ∷ [])))
    ≡ Some d → Right ((w.0, w.1.0) ∷ []) d
one_back true c w d l r e =
    let p = map_some D.Left (dec w.1.0) d e in
    let h = w.1.1 p.0 p.1 in
    let n = sym (same_text w.0 (codes "$left") l) in
    made (Datum-F.Left p.0) d _ (D.rolls-Left p.0 ∙ p.2) (λ i. J.Object ((n i, h.0 i) ∷ [])) h.1
one_back false true w d l r e =
    let p = map_some D.Right (dec w.1.0) d e in
    let h = w.1.1 p.0 p.1 in
    let n = sym (same_text w.0 (codes "$right") r) in
    made (Datum-F.Right p.0) d _ (D.rolls-Right p.0 ∙ p.2) (λ i. J.Object ((n i, h.0 i) ∷ [])) h.1
one_back false false w d l r e = plain_back (w ∷ []) d e

text_is : (x : Datum-F Datum) (m : List ℕ) → text_layer x ≡ Some m → x ≡ Datum-F.Text m
text_is (Datum-F.Text s) m e = ap (λ (t : List ℕ). Datum-F.Text t) (some_same s m e)
text_is x m e = absurd (cc)

-- the text that a datum spells
spelled : (c : Datum) (n : List ℕ) → name_of c ≡ Some n → (c ≡ D.Text n) × (is_name n ≡ true)
spelled c n e =
    let p = and_then_some (λ n. cond (is_name n) (Some n) None) (text_of c) n e in
    let q = cond_true (is_name p.0) (Some p.0) n p.2 in
    let s = some_same p.0 n q.1 in (
      sym (roll-out c) ∙ ap roll-Datum (text_is (out-Datum c) p.0 p.1) ∙ D.rolls-Text p.0
          ∙ ap D.Text s,
      ap is_name (sym s) ∙ q.0,
    )

two_back : (b : Bool) (w v : List ℕ × Seen) (d : Datum)
    → (bytes_eq w.0 (codes "$class") && bytes_eq v.0 (codes "$data")) ≡ b
    → cond b (branded (dec w.1.0) (dec v.1.0)) (plain ((w.0, dec w.1.0) ∷ (v.0, dec v.1.0) ∷ [])) ≡ Some d
    → Right ((w.0, w.1.0) ∷ (v.0, v.1.0) ∷ []) d
two_back true w v d t e =
    let u = and_parts (bytes_eq w.0 (codes "$class")) (bytes_eq v.0 (codes "$data")) t in
    let first = sym (same_text w.0 (codes "$class") u.0) in
    let second = sym (same_text v.0 (codes "$data") u.1) in
    let p = and_then_some (λ n. option_map (D.Brand n) (dec v.1.0)) (option_and_then name_of (dec w.1.0)) d e in
    let c = and_then_some name_of (dec w.1.0) p.0 p.1 in
    let s = spelled c.0 p.0 c.2 in
    let q = map_some (D.Brand p.0) (dec v.1.0) d p.2 in
    let h = v.1.1 q.0 q.1 in
    let k : J.Text p.0 ≡ w.1.0 = sym (enc-Text p.0) ∙ ap enc (sym s.0) ∙ (w.1.1 c.0 c.1).0 in
    made (Datum-F.Brand p.0 q.0) d _ (D.rolls-Brand p.0 q.0 ∙ q.2)
    (λ i. J.Object ((first i, k i) ∷ (second i, h.0 i) ∷ [])) (and_both (is_name p.0) (named q.0) s.1 h.1)
two_back false w v d t e = plain_back (w ∷ v ∷ []) d e

object_back : (ws : List (List ℕ × Seen)) (d : Datum)
    → object_of (map (on_value dec) (map (on_value (λ e. e.0)) ws)) ≡ Some d → Right (map (on_value (λ e. e.0)) ws) d
object_back [] d e = plain_back [] d e
object_back (w ∷ []) d e = one_back _ _ w d refl refl e
object_back (w ∷ v ∷ []) d e = two_back _ w v d refl e
object_back (w ∷ v ∷ u ∷ ws) d e = plain_back (w ∷ v ∷ u ∷ ws) d e

layer_back : (w : Json-F Seen) (d : Datum)
    → dec_step (map-Json Json (Option Datum) dec (map-Json Seen Json (λ e. e.0) w)) ≡ Some d
    → (enc d ≡ roll-Json (map-Json Seen Json (λ e. e.0) w)) × (named d ≡ true)
layer_back Json-F.Null d e = made Datum-F.Unit d _ (D.rolls-Unit ∙ some_same _ d e) (sym J.rolls-Null) refl
layer_back (Json-F.Bool b) d e =
    made (Datum-F.Bool b) d _ (D.rolls-Bool b ∙ some_same _ d e) (sym (J.rolls-Bool b)) refl
layer_back (Json-F.Int n) d e = made (Datum-F.Int n) d _ (D.rolls-Int n ∙ some_same _ d e) (sym (J.rolls-Int n)) refl
layer_back (Json-F.Text s) d e =
    made (Datum-F.Text s) d _ (D.rolls-Text s ∙ some_same _ d e) (sym (J.rolls-Text s)) refl
layer_back (Json-F.Array ws) d e =
    let p = map_some D.Coll (items_of (map dec (map (λ e. e.0) ws))) d e in
    let r = items_back ws p.0 p.1 in
    made (Datum-F.Coll p.0) d _ (D.rolls-Coll p.0 ∙ p.2) (ap J.Array r.0 ∙ sym (J.rolls-Array _)) r.1
layer_back (Json-F.Object ws) d e = let r = object_back ws d e in (r.0 ∙ sym (J.rolls-Object _), r.1)

back-step : (x : Json-F Json) (w : Json-F Seen) → map-Json Seen Json (λ e. e.0) w ≡ x → Back (roll-Json x)
back-step x w is d e =
    subst (λ y. dec_step (map-Json Json (Option Datum) dec y) ≡ Some d → (enc d ≡ roll-Json y) × (named d ≡ true)) is
    (layer_back w d) (sym (dec-roll x) ∙ e)

pub enc-dec : (j : Json) (d : Datum) → dec j ≡ Some d → (enc d ≡ j) × IsTrue (named d)
enc-dec = ind-Json Back back-step

-- each is the other's inverse
pub inverse : (j : Json) (d : Datum) → (dec j ≡ Some d) ↔ ((enc d ≡ j) × IsTrue (named d))
inverse j d = (enc-dec j d, λ h. ap dec (sym h.0) ∙ dec-enc d h.1)

pub enc-one : (a b : Datum) → IsTrue (named a) → IsTrue (named b) → enc a ≡ enc b → a ≡ b
enc-one a b p q e = some_same a b (sym (dec-enc a p) ∙ ap dec e ∙ dec-enc b q)
