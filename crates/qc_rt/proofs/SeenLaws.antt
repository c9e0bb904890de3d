-- What operators see in each kind of tree.
use Rattle.std.proofs.Common.{◌≡◌, ℕ, ℤ, Bool, true, false, cond, List, [], ◌∷◌, map, refl, sym, ap, ◌∙◌, true≢false}
use Rattle.std.specs.Prelude.{◌&&◌, not, codes, Option, Some, None}
use Rattle.std.specs.Str.{bytes_eq}
use Rattle.qc_containers.specs.Name.{is_marker}
use Rattle.qc_containers.specs.Rising.{on_value}
use Rattle.qc_containers.proofs.Truth.{and_parts}
use Rattle.qc_data.specs.Decoding.{text_of, text_layer}
use Rattle.qc_data.specs.Kinds.{as_int, as_coll, int_at, coll_at, json_int, json_array, number_at, array_at}
use Rattle.qc_data.specs.Outcome.{Outcome, Value, Halts, Stuck, and_then}
use Rattle.qc_data.specs.declared.data.Datum.{Datum}
use Rattle.qc_data.specs.declared.data.Datum.TheOpen.{Datum-F}
use Rattle.qc_data.specs.declared.data.Datum.TheViews.{out-Datum}
use Rattle.qc_data.specs.declared.data.Datum.TheVariants as D
use Rattle.qc_data.specs.declared.data.Json.{Json}
use Rattle.qc_data.specs.declared.data.Json.TheOpen.{Json-F}
use Rattle.qc_data.specs.declared.data.Json.TheViews.{out-Json, roll-Json}
use Rattle.qc_data.specs.declared.data.Json.TheFolds.{map-Json, fold-roll-Json, fold_out-Json}
use Rattle.qc_data.specs.declared.data.Json.TheVariants as J
use Rattle.qc_ops.specs.Operands.{as_bool, as_text, as_rec, as_brand, bool_at, rec_at, only_if}
use Rattle.qc_ops.specs.Operands.{text_at as datum_text_at}
use Rattle.qc_rt.specs.Parameters.{as_side}
use Rattle.qc_rt.specs.Seen.{fields_seen, has_marker, odd, classed, marked, object_seen, seen, seen_step, is_odd}
use Rattle.qc_rt.specs.Seen.{is_odd_at}
use Rattle.qc_rt.specs.JsonKinds.{truth_at, text_at, members_at, json_bool, json_text, json_class}
use Rattle.qc_rt.specs.JsonKinds.{json_side, plain_members, class_in, side_in}
use Rattle.qc_rt.proofs.Markers.{has_marker-map, left_is, right_is, class_is}

-- ---- by the outermost layer

pub seen-roll : (x : Json-F Json) → seen (roll-Json x) ≡ seen_step (map-Json Json Datum seen x)
seen-roll x = fold-roll-Json Datum seen_step x

pub seen_layers : (j : Json) → seen j ≡ seen_step (map-Json Json Datum seen (out-Json j))
seen_layers j = fold_out-Json Datum seen_step j

pub seen-Null : seen J.Null ≡ D.Unit
seen-Null = ap seen (sym J.rolls-Null) ∙ seen-roll Json-F.Null

pub seen-Bool : (b : Bool) → seen (J.Bool b) ≡ D.Bool b
seen-Bool b = ap seen (sym (J.rolls-Bool b)) ∙ seen-roll (Json-F.Bool b)

pub seen-Int : (n : ℤ) → seen (J.Int n) ≡ D.Int n
seen-Int n = ap seen (sym (J.rolls-Int n)) ∙ seen-roll (Json-F.Int n)

pub seen-Text : (text : List ℕ) → seen (J.Text text) ≡ D.Text text
seen-Text text = ap seen (sym (J.rolls-Text text)) ∙ seen-roll (Json-F.Text text)

pub seen-Array : (items : List Json) → seen (J.Array items) ≡ D.Coll (map seen items)
seen-Array items = ap seen (sym (J.rolls-Array items)) ∙ seen-roll (Json-F.Array items)

pub seen-Object : (members : List (List ℕ × Json)) → seen (J.Object members) ≡ object_seen (fields_seen members)
seen-Object members = ap seen (sym (J.rolls-Object members)) ∙ seen-roll (Json-F.Object members)

-- a plain object
pub seen-plain : (members : List (List ℕ × Json)) → has_marker members ≡ false
    → seen (J.Object members) ≡ D.Rec (fields_seen members)
seen-plain members h =
    seen-Object members ∙ ap (λ b. cond b (marked (fields_seen members)) (D.Rec (fields_seen members)))
    (has_marker-map seen members ∙ h)

pub ruleset plain_forms = (seen-plain)

pub ruleset forms = (seen-Null, seen-Bool, seen-Int, seen-Text, seen-Array, seen-Object)

-- ---- objects are records, sides or class's values

cond_case : {C : Type 0} (g : Datum → C) (c : C) (b : Bool) (d e : Datum) → g d ≡ c → g e ≡ c → g (cond b d e) ≡ c
cond_case g c true d e p q = p
cond_case g c false d e p q = q

module _ {C : Type 0} (g : Datum-F Datum → C) (c : C) (left : (d : Datum) → g (Datum-F.Left d) ≡ c)
    (right : (d : Datum) → g (Datum-F.Right d) ≡ c) (brand : (n : List ℕ) (d : Datum) → g (Datum-F.Brand n d) ≡ c) where
  abbrev at : Datum → C
  at d = g (out-Datum d)

  at_left : (d : Datum) → at (D.Left d) ≡ c
  at_left d = ap g (D.outs-Left d) ∙ left d

  at_right : (d : Datum) → at (D.Right d) ≡ c
  at_right d = ap g (D.outs-Right d) ∙ right d

  at_class : (o : Option (List ℕ)) (d : Datum) (ps : List (List ℕ × Datum)) → at (classed o d ps) ≡ c
  at_class None d ps = at_left (D.Rec ps)
  at_class (Some n) d ps = ap g (D.outs-Brand n d) ∙ brand n d

  pub marked_case : (ps : List (List ℕ × Datum)) → at (marked ps) ≡ c
  marked_case [] = at_left (D.Rec [])
  marked_case (p ∷ []) =
      cond_case at c (bytes_eq p.0 (codes "$left")) (D.Left p.1) _ (at_left p.1)
      (cond_case at c (bytes_eq p.0 (codes "$right")) (D.Right p.1) (odd (p ∷ [])) (at_right p.1)
      (at_left (D.Rec (p ∷ []))))
  marked_case (p ∷ q ∷ []) =
      cond_case at c (bytes_eq p.0 (codes "$class") && bytes_eq q.0 (codes "$data"))
      (classed (text_of p.1) q.1 (p ∷ q ∷ [])) (odd (p ∷ q ∷ [])) (at_class (text_of p.1) q.1 (p ∷ q ∷ []))
      (at_left (D.Rec (p ∷ q ∷ [])))
  marked_case (p ∷ q ∷ r ∷ ps) = at_left (D.Rec (p ∷ q ∷ r ∷ ps))

  pub object_case : ((fs : List (List ℕ × Datum)) → g (Datum-F.Rec fs) ≡ c) → (ps : List (List ℕ × Datum))
      → at (object_seen ps) ≡ c
  object_case rec ps =
      cond_case at c (has_marker ps) (marked ps) (D.Rec ps) (marked_case ps) (ap g (D.outs-Rec ps) ∙ rec ps)

-- ---- the kinds that are no objects

truth_layer : (x : Json-F Json) → as_bool (seen_step (map-Json Json Datum seen x)) ≡ truth_at x
truth_layer Json-F.Null = rw D.outs-Unit refl
truth_layer (Json-F.Bool b) = rw (D.outs-Bool b) refl
truth_layer (Json-F.Int n) = rw (D.outs-Int n) refl
truth_layer (Json-F.Text s) = rw (D.outs-Text s) refl
truth_layer (Json-F.Array js) = rw (D.outs-Coll (map seen js)) refl
truth_layer (Json-F.Object ms) =
    object_case bool_at (Halts Stuck) (λ d. refl) (λ d. refl) (λ n d. refl) (λ fs. refl) (fields_seen ms)

pub as_bool-seen : (j : Json) → as_bool (seen j) ≡ json_bool j
as_bool-seen j = ap as_bool (seen_layers j) ∙ truth_layer (out-Json j)

int_layer : (x : Json-F Json) → as_int (seen_step (map-Json Json Datum seen x)) ≡ number_at x
int_layer Json-F.Null = rw D.outs-Unit refl
int_layer (Json-F.Bool b) = rw (D.outs-Bool b) refl
int_layer (Json-F.Int n) = rw (D.outs-Int n) refl
int_layer (Json-F.Text s) = rw (D.outs-Text s) refl
int_layer (Json-F.Array js) = rw (D.outs-Coll (map seen js)) refl
int_layer (Json-F.Object ms) =
    object_case int_at (Halts Stuck) (λ d. refl) (λ d. refl) (λ n d. refl) (λ fs. refl) (fields_seen ms)

pub as_int-seen : (j : Json) → as_int (seen j) ≡ json_int j
as_int-seen j = ap as_int (seen_layers j) ∙ int_layer (out-Json j)

text_layers : (x : Json-F Json) → as_text (seen_step (map-Json Json Datum seen x)) ≡ text_at x
text_layers Json-F.Null = rw D.outs-Unit refl
text_layers (Json-F.Bool b) = rw (D.outs-Bool b) refl
text_layers (Json-F.Int n) = rw (D.outs-Int n) refl
text_layers (Json-F.Text s) = rw (D.outs-Text s) refl
text_layers (Json-F.Array js) = rw (D.outs-Coll (map seen js)) refl
text_layers (Json-F.Object ms) =
    object_case datum_text_at (Halts Stuck) (λ d. refl) (λ d. refl) (λ n d. refl) (λ fs. refl) (fields_seen ms)

pub as_text-seen : (j : Json) → as_text (seen j) ≡ json_text j
as_text-seen j = ap as_text (seen_layers j) ∙ text_layers (out-Json j)

array_layer : (x : Json-F Json)
    → as_coll (seen_step (map-Json Json Datum seen x)) ≡ and_then (array_at x) (λ js. Value (map seen js))
array_layer Json-F.Null = rw D.outs-Unit refl
array_layer (Json-F.Bool b) = rw (D.outs-Bool b) refl
array_layer (Json-F.Int n) = rw (D.outs-Int n) refl
array_layer (Json-F.Text s) = rw (D.outs-Text s) refl
array_layer (Json-F.Array js) = rw (D.outs-Coll (map seen js)) refl
array_layer (Json-F.Object ms) =
    object_case coll_at (Halts Stuck) (λ d. refl) (λ d. refl) (λ n d. refl) (λ fs. refl) (fields_seen ms)

pub as_coll-seen : (j : Json) → as_coll (seen j) ≡ and_then (json_array j) (λ js. Value (map seen js))
as_coll-seen j = ap as_coll (seen_layers j) ∙ array_layer (out-Json j)

-- what a tree is, by its kind
pub bool_value : (j : Json) (b : Bool) → j ≡ J.Bool b → as_bool (seen j) ≡ Value b
bool_value j b is = ap as_bool (ap seen is ∙ seen-Bool b) ∙ ap bool_at (D.outs-Bool b)

pub int_value : (j : Json) (n : ℤ) → j ≡ J.Int n → as_int (seen j) ≡ Value n
int_value j n is = ap as_int (ap seen is ∙ seen-Int n) ∙ ap int_at (D.outs-Int n)

pub text_value : (j : Json) (s : List ℕ) → j ≡ J.Text s → as_text (seen j) ≡ Value s
text_value j s is = ap as_text (ap seen is ∙ seen-Text s) ∙ ap datum_text_at (D.outs-Text s)

pub items_value : (j : Json) (items : List Json) → j ≡ J.Array items → as_coll (seen j) ≡ Value (map seen items)
items_value j items is = ap as_coll (ap seen is ∙ seen-Array items) ∙ ap coll_at (D.outs-Coll (map seen items))

-- ---- plain objects

rec_by : (b : Bool) (ps : List (List ℕ × Datum)) → as_rec (cond b (marked ps) (D.Rec ps)) ≡ only_if (not b) (Value ps)
rec_by true ps = marked_case rec_at (Halts Stuck) (λ d. refl) (λ d. refl) (λ n d. refl) ps
rec_by false ps = rw (D.outs-Rec ps) refl

seen_only : (b : Bool) (ms : List (List ℕ × Json))
    → only_if b (Value (fields_seen ms)) ≡ and_then (only_if b (Value ms)) (λ ms. Value (fields_seen ms))
seen_only true ms = refl
seen_only false ms = refl

pub object_fields : (ms : List (List ℕ × Json)) → as_rec (object_seen (fields_seen ms))
    ≡ and_then (only_if (not (has_marker ms)) (Value ms)) (λ ms. Value (fields_seen ms))
object_fields ms =
    rec_by (has_marker (fields_seen ms)) (fields_seen ms)
    ∙ ap (λ b. only_if (not b) (Value (fields_seen ms))) (has_marker-map seen ms)
    ∙ seen_only (not (has_marker ms)) ms

rec_layer : (x : Json-F Json) → as_rec (seen_step (map-Json Json Datum seen x))
    ≡ and_then (and_then (members_at x) (λ ms. only_if (not (has_marker ms)) (Value ms))) (λ ms. Value (fields_seen ms))
rec_layer Json-F.Null = rw D.outs-Unit refl
rec_layer (Json-F.Bool b) = rw (D.outs-Bool b) refl
rec_layer (Json-F.Int n) = rw (D.outs-Int n) refl
rec_layer (Json-F.Text s) = rw (D.outs-Text s) refl
rec_layer (Json-F.Array js) = rw (D.outs-Coll (map seen js)) refl
rec_layer (Json-F.Object ms) = object_fields ms

pub as_rec-seen : (j : Json) → as_rec (seen j) ≡ and_then (plain_members j) (λ ms. Value (fields_seen ms))
as_rec-seen j = ap as_rec (seen_layers j) ∙ rec_layer (out-Json j)

-- ---- class's values

-- a class and a tree, and what is seen in them
abbrev pub with_content : Json → List ℕ → Outcome (List ℕ × Json)
with_content j name = Value (name, j)

abbrev pub content_seen : List ℕ × Json → Outcome (List ℕ × Datum)
content_seen b = Value (b.0, seen b.1)

-- what a member of the class is, where the first of two members is a text
class_layer : (x : Json-F Json) (j : Json) (ps : List (List ℕ × Datum))
    → as_brand (classed (text_of (seen_step (map-Json Json Datum seen x))) (seen j) ps)
    ≡ and_then (and_then (text_at x) (with_content j)) content_seen
class_layer Json-F.Null j ps = rw (D.outs-Unit, D.outs-Left (D.Rec ps)) refl
class_layer (Json-F.Bool b) j ps = rw (D.outs-Bool b, D.outs-Left (D.Rec ps)) refl
class_layer (Json-F.Int n) j ps = rw (D.outs-Int n, D.outs-Left (D.Rec ps)) refl
class_layer (Json-F.Text s) j ps = rw (D.outs-Text s, D.outs-Brand s (seen j)) refl
class_layer (Json-F.Array js) j ps = rw (D.outs-Coll (map seen js), D.outs-Left (D.Rec ps)) refl
class_layer (Json-F.Object ms) j ps =
    ap (λ o. as_brand (classed o (seen j) ps))
    (object_case text_layer None (λ d. refl) (λ d. refl) (λ n d. refl) (λ fs. refl) (fields_seen ms))
    ∙ rw (D.outs-Left (D.Rec ps)) refl

class_text : (i j : Json) (ps : List (List ℕ × Datum)) → as_brand (classed (text_of (seen i)) (seen j) ps)
    ≡ and_then (and_then (json_text i) (with_content j)) content_seen
class_text i j ps =
    ap (λ d. as_brand (classed (text_of d) (seen j) ps)) (seen_layers i) ∙ class_layer (out-Json i) j ps

seen_if : {A B : Type 0} (f : A → Outcome B) (t : Bool) (o : Outcome A)
    → only_if t (and_then o f) ≡ and_then (only_if t o) f
seen_if f true o = refl
seen_if f false o = refl

class_two : (t h : Bool) (d : Datum) (ps : List (List ℕ × Datum)) (o : Outcome (List ℕ × Datum))
    → (t ≡ true → h ≡ true) → as_brand d ≡ o → as_brand (cond h (cond t d (odd ps)) (D.Rec ps)) ≡ only_if t o
class_two true true d ps o m e = e
class_two true false d ps o m e = absurd (true≢false (sym (m refl)))
class_two false true d ps o m e = rw (D.outs-Left (D.Rec ps)) refl
class_two false false d ps o m e = rw (D.outs-Rec ps) refl

-- with the two names of a class's value there is a marker
class_marked : (p q : List ℕ × Datum) (ps : List (List ℕ × Datum))
    → (bytes_eq p.0 (codes "$class") && bytes_eq q.0 (codes "$data")) ≡ true → has_marker (p ∷ q ∷ ps) ≡ true
class_marked p q ps e =
    let m : is_marker p.0 ≡ true =
    class_is p.0 (and_parts (bytes_eq p.0 (codes "$class")) (bytes_eq q.0 (codes "$data")) e).0 in
    rw m refl

no_brand : (b : Bool) (d e : Datum) → as_brand d ≡ Halts Stuck → as_brand e ≡ Halts Stuck
    → as_brand (cond b d e) ≡ Halts Stuck
no_brand b d e p q = cond_case as_brand (Halts Stuck) b d e p q

class_object : (ms : List (List ℕ × Json))
    → as_brand (object_seen (fields_seen ms)) ≡ and_then (class_in ms) content_seen
class_object [] = rw (D.outs-Rec []) refl
class_object (p ∷ []) =
    let ps : List (List ℕ × Datum) = fields_seen (p ∷ []) in
    no_brand (has_marker ps) (marked ps) (D.Rec ps) (no_brand (bytes_eq p.0 (codes "$left")) (D.Left (seen p.1)) _
    (rw (D.outs-Left (seen p.1)) refl) (no_brand (bytes_eq p.0 (codes "$right")) (D.Right (seen p.1)) (odd ps)
    (rw (D.outs-Right (seen p.1)) refl) (rw (D.outs-Left (D.Rec ps)) refl))) (rw (D.outs-Rec ps) refl)
class_object (p ∷ q ∷ []) =
    let ps : List (List ℕ × Datum) = fields_seen (p ∷ q ∷ []) in
    class_two (bytes_eq p.0 (codes "$class") && bytes_eq q.0 (codes "$data")) (has_marker ps)
    (classed (text_of (seen p.1)) (seen q.1) ps) ps _ (class_marked (on_value seen p) (on_value seen q) [])
    (class_text p.1 q.1 ps)
    ∙ seen_if content_seen (bytes_eq p.0 (codes "$class") && bytes_eq q.0 (codes "$data"))
    (and_then (json_text p.1) (with_content q.1))
class_object (p ∷ q ∷ r ∷ ms) =
    let ps : List (List ℕ × Datum) = fields_seen (p ∷ q ∷ r ∷ ms) in
    no_brand (has_marker ps) (odd ps) (D.Rec ps) (rw (D.outs-Left (D.Rec ps)) refl) (rw (D.outs-Rec ps) refl)

brand_layer : (x : Json-F Json) → as_brand (seen_step (map-Json Json Datum seen x))
    ≡ and_then (and_then (members_at x) class_in) content_seen
brand_layer Json-F.Null = rw D.outs-Unit refl
brand_layer (Json-F.Bool b) = rw (D.outs-Bool b) refl
brand_layer (Json-F.Int n) = rw (D.outs-Int n) refl
brand_layer (Json-F.Text s) = rw (D.outs-Text s) refl
brand_layer (Json-F.Array js) = rw (D.outs-Coll (map seen js)) refl
brand_layer (Json-F.Object ms) = class_object ms

pub as_brand-seen : (j : Json) → as_brand (seen j) ≡ and_then (json_class j) content_seen
as_brand-seen j = ap as_brand (seen_layers j) ∙ brand_layer (out-Json j)

-- ---- sides

-- what is seen on a side
abbrev pub on_side_seen : Bool × Json → Outcome (Bool × Datum)
on_side_seen s = Value (s.0, seen s.1)

-- no tree is seen as the members of an object of no kind
odd_by : (b : Bool) (ps : List (List ℕ × Datum)) → has_marker ps ≡ b → is_odd (cond b (marked ps) (D.Rec ps)) ≡ false
odd_by true ps h = marked_case is_odd_at false (λ d. refl) (λ d. refl) (λ n d. refl) ps
odd_by false ps h = rw (D.outs-Rec ps, h) refl

odd_layer : (x : Json-F Json) → is_odd (seen_step (map-Json Json Datum seen x)) ≡ false
odd_layer Json-F.Null = rw D.outs-Unit refl
odd_layer (Json-F.Bool b) = rw (D.outs-Bool b) refl
odd_layer (Json-F.Int n) = rw (D.outs-Int n) refl
odd_layer (Json-F.Text s) = rw (D.outs-Text s) refl
odd_layer (Json-F.Array js) = rw (D.outs-Coll (map seen js)) refl
odd_layer (Json-F.Object ms) = odd_by (has_marker (fields_seen ms)) (fields_seen ms) refl

pub is_odd-seen : (j : Json) → is_odd (seen j) ≡ false
is_odd-seen j = ap is_odd (seen_layers j) ∙ odd_layer (out-Json j)

side_left : (j : Json) → as_side (D.Left (seen j)) ≡ Value (true, seen j)
side_left j = rw (D.outs-Left (seen j), is_odd-seen j) refl

side_odd : (ps : List (List ℕ × Datum)) → has_marker ps ≡ true → as_side (odd ps) ≡ Halts Stuck
side_odd ps h = rw (D.outs-Left (D.Rec ps), D.outs-Rec ps, h) refl

side_one : (l r h : Bool) (j : Json) (ps : List (List ℕ × Datum)) → has_marker ps ≡ h → (l ≡ true → h ≡ true)
    → (r ≡ true → h ≡ true)
    → as_side (cond h (cond l (D.Left (seen j)) (cond r (D.Right (seen j)) (odd ps))) (D.Rec ps))
    ≡ and_then (cond l (Value (true, j)) (cond r (Value (false, j)) (Halts Stuck))) on_side_seen
side_one true r true j ps e p q = side_left j
side_one true r false j ps e p q = absurd (true≢false (sym (p refl)))
side_one false true true j ps e p q = rw (D.outs-Right (seen j)) refl
side_one false true false j ps e p q = absurd (true≢false (sym (q refl)))
side_one false false true j ps e p q = side_odd ps e
side_one false false false j ps e p q = rw (D.outs-Rec ps) refl

one_marked : (p : List ℕ × Datum) → is_marker p.0 ≡ true → has_marker (p ∷ []) ≡ true
one_marked p e = rw e refl

no_side : (b : Bool) (ps : List (List ℕ × Datum)) (d : Datum) → has_marker ps ≡ b
    → (has_marker ps ≡ true → as_side d ≡ Halts Stuck) → as_side (cond b d (D.Rec ps)) ≡ Halts Stuck
no_side true ps d e h = h e
no_side false ps d e h = rw (D.outs-Rec ps) refl

no_side_two : (o : Option (List ℕ)) (t : Bool) (d : Datum) (ps : List (List ℕ × Datum)) → has_marker ps ≡ true
    → as_side (cond t (classed o d ps) (odd ps)) ≡ Halts Stuck
no_side_two o false d ps e = side_odd ps e
no_side_two None true d ps e = side_odd ps e
no_side_two (Some n) true d ps e = rw (D.outs-Brand n d) refl

side_object : (ms : List (List ℕ × Json))
    → as_side (object_seen (fields_seen ms)) ≡ and_then (side_in ms) on_side_seen
side_object [] = rw (D.outs-Rec []) refl
side_object (p ∷ []) =
    let ps : List (List ℕ × Datum) = fields_seen (p ∷ []) in
    side_one (bytes_eq p.0 (codes "$left")) (bytes_eq p.0 (codes "$right")) (has_marker ps) p.1 ps refl
    (λ e. one_marked (on_value seen p) (left_is p.0 e)) (λ e. one_marked (on_value seen p) (right_is p.0 e))
side_object (p ∷ q ∷ []) =
    let ps : List (List ℕ × Datum) = fields_seen (p ∷ q ∷ []) in
    no_side (has_marker ps) ps (marked ps) refl
    (no_side_two (text_of (seen p.1)) (bytes_eq p.0 (codes "$class") && bytes_eq q.0 (codes "$data")) (seen q.1) ps)
side_object (p ∷ q ∷ r ∷ ms) =
    let ps : List (List ℕ × Datum) = fields_seen (p ∷ q ∷ r ∷ ms) in
    no_side (has_marker ps) ps (odd ps) refl (side_odd ps)

side_layer : (x : Json-F Json) → as_side (seen_step (map-Json Json Datum seen x))
    ≡ and_then (and_then (members_at x) side_in) on_side_seen
side_layer Json-F.Null = rw D.outs-Unit refl
side_layer (Json-F.Bool b) = rw (D.outs-Bool b) refl
side_layer (Json-F.Int n) = rw (D.outs-Int n) refl
side_layer (Json-F.Text s) = rw (D.outs-Text s) refl
side_layer (Json-F.Array js) = rw (D.outs-Coll (map seen js)) refl
side_layer (Json-F.Object ms) = side_object ms

pub as_side-seen : (j : Json) → as_side (seen j) ≡ and_then (json_side j) on_side_seen
as_side-seen j = ap as_side (seen_layers j) ∙ side_layer (out-Json j)

pub ruleset kinds =
    (as_bool-seen, as_int-seen, as_text-seen, as_coll-seen, as_rec-seen, as_brand-seen, as_side-seen)
