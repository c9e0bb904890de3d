-- What is seen in a tree is shown as the tree.
use Rattle.std.proofs.Common.{◌≡◌, ℕ, ℤ, Bool, true, false, cond, List, [], ◌∷◌, map, Option, Some, None, refl, sym, ap}
use Rattle.std.proofs.Common.{◌∙◌}
use Rattle.std.specs.Prelude.{◌&&◌, codes, unwrap_or}
use Rattle.std.specs.List.{AllByRecursion}
use Rattle.std.specs.Str.{bytes_eq}
use Rattle.std.proofs.lemmas.Slice.Eq.{bytes_eq-Decides}
use Rattle.qc_containers.specs.Rising.{on_value}
use Rattle.qc_containers.proofs.Truth.{and_parts}
use Rattle.qc_data.specs.Decoding.{text_of, text_layer}
use Rattle.qc_data.specs.declared.data.Datum.{Datum}
use Rattle.qc_data.specs.declared.data.Datum.TheOpen.{Datum-F}
use Rattle.qc_data.specs.declared.data.Datum.TheViews.{out-Datum, roll-Datum}
use Rattle.qc_data.specs.declared.data.Datum.TheFolds.{map-Datum, fold-roll-Datum, fold_out-Datum}
use Rattle.qc_data.specs.declared.data.Datum.TheVariants as D
use Rattle.qc_data.specs.declared.data.Json.{Json}
use Rattle.qc_data.specs.declared.data.Json.TheOpen.{Json-F}
use Rattle.qc_data.specs.declared.data.Json.TheViews.{out-Json, roll-Json, the_lemmas}
use Rattle.qc_data.specs.declared.data.Json.TheFolds.{map-Json}
use Rattle.qc_data.specs.declared.data.Json.TheVariants as J
use Rattle.qc_data.proofs.Induction.{every_json}
use Rattle.qc_data.proofs.Layers.{map-map}
use Rattle.qc_rt.specs.Seen.{has_marker, odd, classed, marked, object_seen, seen, seen_step, is_odd, is_odd_at}
use Rattle.qc_rt.specs.Seen.{shown, shown_both, shown_step}
use Rattle.qc_rt.specs.Seen.{fields_seen}
use Rattle.qc_rt.proofs.Markers.{has_marker-map}
use Rattle.qc_rt.proofs.SeenLaws.{seen-Null, seen-Bool, seen-Int, seen-Text, seen-Array, seen-Object, seen_layers}
use Rattle.qc_rt.proofs.SeenLaws.{is_odd-seen, object_case}
use Rattle.std.proofs.Common.{rules}

-- ---- what shows data, by their kind

both-roll : (x : Datum-F Datum) → shown_both (roll-Datum x) ≡ shown_step (map-Datum Datum (Bool × Json) shown_both x)
both-roll x = fold-roll-Datum (Bool × Json) shown_step x

abbrev second : Bool × Json → Json
second p = p.1

pub shown-Unit : shown D.Unit ≡ J.Null
shown-Unit = ap shown (sym D.rolls-Unit) ∙ ap second (both-roll Datum-F.Unit)

pub shown-Bool : (b : Bool) → shown (D.Bool b) ≡ J.Bool b
shown-Bool b = ap shown (sym (D.rolls-Bool b)) ∙ ap second (both-roll (Datum-F.Bool b))

pub shown-Int : (n : ℤ) → shown (D.Int n) ≡ J.Int n
shown-Int n = ap shown (sym (D.rolls-Int n)) ∙ ap second (both-roll (Datum-F.Int n))

pub shown-Text : (s : List ℕ) → shown (D.Text s) ≡ J.Text s
shown-Text s = ap shown (sym (D.rolls-Text s)) ∙ ap second (both-roll (Datum-F.Text s))

pub shown-Coll : (ds : List Datum) → shown (D.Coll ds) ≡ J.Array (map shown ds)
shown-Coll ds =
    ap shown (sym (D.rolls-Coll ds)) ∙ ap second (both-roll (Datum-F.Coll ds))
    ∙ ap J.Array (map-map shown_both second ds)

pub shown-Rec : (ps : List (List ℕ × Datum)) → shown (D.Rec ps) ≡ J.Object (map (on_value shown) ps)
shown-Rec ps =
    ap shown (sym (D.rolls-Rec ps)) ∙ ap second (both-roll (Datum-F.Rec ps))
    ∙ ap J.Object (map-map (on_value shown_both) (on_value second) ps)

-- whether a datum is the members of an object of no kind is told beside its tree
odd_both_at : (x : Datum-F Datum) → (shown_step (map-Datum Datum (Bool × Json) shown_both x)).0 ≡ is_odd_at x
odd_both_at Datum-F.Unit = refl
odd_both_at (Datum-F.Bool b) = refl
odd_both_at (Datum-F.Int n) = refl
odd_both_at (Datum-F.Text s) = refl
odd_both_at (Datum-F.Coll ds) = refl
odd_both_at (Datum-F.Rec ps) = has_marker-map shown_both ps
odd_both_at (Datum-F.Left d) = refl
odd_both_at (Datum-F.Right d) = refl
odd_both_at (Datum-F.Brand n d) = refl

odd_both : (d : Datum) → (shown_both d).0 ≡ is_odd d
odd_both d = ap (λ p. p.0) (fold_out-Datum (Bool × Json) shown_step d) ∙ odd_both_at (out-Datum d)

pub shown-Left : (d : Datum)
    → shown (D.Left d) ≡ cond (is_odd d) (shown d) (J.Object ((codes "$left", shown d) ∷ []))
shown-Left d =
    ap shown (sym (D.rolls-Left d)) ∙ ap second (both-roll (Datum-F.Left d))
    ∙ ap (λ b. cond b (shown d) (J.Object ((codes "$left", shown d) ∷ []))) (odd_both d)

pub shown-Right : (d : Datum) → shown (D.Right d) ≡ J.Object ((codes "$right", shown d) ∷ [])
shown-Right d = ap shown (sym (D.rolls-Right d)) ∙ ap second (both-roll (Datum-F.Right d))

pub shown-Brand : (n : List ℕ) (d : Datum)
    → shown (D.Brand n d) ≡ J.Object ((codes "$class", J.Text n) ∷ (codes "$data", shown d) ∷ [])
shown-Brand n d = ap shown (sym (D.rolls-Brand n d)) ∙ ap second (both-roll (Datum-F.Brand n d))

-- ---- objects

abbrev Raw : Type 0
Raw = List (List ℕ × Json)

abbrev Back : Json → Type 0
Back j = shown (seen j) ≡ j

items_back : (js : List Json) → AllByRecursion Back js → map shown (map seen js) ≡ js
items_back [] h = refl
items_back (j ∷ js) h = λ i. h.0 i ∷ items_back js h.1 i

members_back : (ms : Raw) → AllByRecursion (λ p. Back p.1) ms → map (on_value shown) (fields_seen ms) ≡ ms
members_back [] h = refl
members_back (p ∷ ms) h = λ i. (p.0, h.0 i) ∷ members_back ms h.1 i

-- an object of no kind
odd_back : (ms : Raw) → AllByRecursion (λ p. Back p.1) ms → has_marker (fields_seen ms) ≡ true
    → shown (odd (fields_seen ms)) ≡ J.Object ms
odd_back ms h e =
    shown-Left (D.Rec (fields_seen ms)) ∙ rw (D.outs-Rec (fields_seen ms), e) (shown-Rec (fields_seen ms)
    ∙ ap J.Object (members_back ms h))

left_back : (j : Json) → Back j → shown (D.Left (seen j)) ≡ J.Object ((codes "$left", j) ∷ [])
left_back j h =
    shown-Left (seen j) ∙ rw (is_odd-seen j) (ap (λ k. J.Object ((codes "$left", k) ∷ [])) h)

right_back : (j : Json) → Back j → shown (D.Right (seen j)) ≡ J.Object ((codes "$right", j) ∷ [])
right_back j h = shown-Right (seen j) ∙ ap (λ k. J.Object ((codes "$right", k) ∷ [])) h

named_one : (n m : List ℕ) (j : Json) → bytes_eq n m ≡ true → J.Object ((m, j) ∷ []) ≡ J.Object ((n, j) ∷ [])
named_one n m j e = ap (λ k. J.Object ((k, j) ∷ [])) (sym ((bytes_eq-Decides n m).0 e))

one_back : (l r : Bool) (p : List ℕ × Json) → AllByRecursion (λ q. Back q.1) (p ∷ [])
    → has_marker (fields_seen (p ∷ [])) ≡ true
    → bytes_eq p.0 (codes "$left") ≡ l → bytes_eq p.0 (codes "$right") ≡ r
    → shown (cond l (D.Left (seen p.1)) (cond r (D.Right (seen p.1)) (odd (fields_seen (p ∷ [])))))
    ≡ J.Object (p ∷ [])
one_back true r p h m e e' = left_back p.1 h.0 ∙ named_one p.0 (codes "$left") p.1 e
one_back false true p h m e e' = right_back p.1 h.0 ∙ named_one p.0 (codes "$right") p.1 e'
one_back false false p h m e e' = odd_back (p ∷ []) h m

none_some : {A : Type 0} (o : Option A) (a : A) → o ≡ None → o ≡ Some a → ⊥
none_some o a p q = let e : None ≡ Some a = sym p ∙ q in absurd (cc)

some_same : {A : Type 0} (a b : A) → Some a ≡ Some b → a ≡ b
some_same a b e = ap (λ o. unwrap_or o a) e

-- a tree in which a text is seen is the text
text_seen_at : (x : Json-F Json) (n : List ℕ) → text_of (seen_step (map-Json Json Datum seen x)) ≡ Some n
    → x ≡ Json-F.Text n
text_seen_at Json-F.Null n e = absurd (none_some (text_of D.Unit) n (rw D.outs-Unit refl) e)
text_seen_at (Json-F.Bool b) n e = absurd (none_some (text_of (D.Bool b)) n (rw (D.outs-Bool b) refl) e)
text_seen_at (Json-F.Int k) n e = absurd (none_some (text_of (D.Int k)) n (rw (D.outs-Int k) refl) e)
text_seen_at (Json-F.Text s) n e =
    ap (λ t. Json-F.Text t) (some_same s n (sym (ap text_layer (D.outs-Text s)) ∙ e))
text_seen_at (Json-F.Array js) n e =
    absurd (none_some (text_of (D.Coll (map seen js))) n (rw (D.outs-Coll (map seen js)) refl) e)
text_seen_at (Json-F.Object ms) n e =
    absurd (none_some (text_of (object_seen (fields_seen ms))) n
    (object_case text_layer None (λ d. refl) (λ d. refl) (λ n d. refl) (λ fs. refl) (fields_seen ms)) e)

roll-out : (j : Json) → roll-Json (out-Json j) ≡ j
roll-out j = search (rules, the_lemmas)

text_seen : (j : Json) (n : List ℕ) → text_of (seen j) ≡ Some n → j ≡ J.Text n
text_seen j n e =
    sym (roll-out j) ∙ ap roll-Json (text_seen_at (out-Json j) n (sym (ap text_of (seen_layers j)) ∙ e))
    ∙ J.rolls-Text n

class_back : (o : Option (List ℕ)) (p q : List ℕ × Json) → AllByRecursion (λ m. Back m.1) (p ∷ q ∷ [])
    → has_marker (fields_seen (p ∷ q ∷ [])) ≡ true → p.0 ≡ codes "$class" → q.0 ≡ codes "$data"
    → text_of (seen p.1) ≡ o
    → shown (classed o (seen q.1) (fields_seen (p ∷ q ∷ []))) ≡ J.Object (p ∷ q ∷ [])
class_back None p q h m e e' is = odd_back (p ∷ q ∷ []) h m
class_back (Some n) p q h m e e' is =
    shown-Brand n (seen q.1)
    ∙ (λ i. J.Object ((sym e i, sym (text_seen p.1 n is) i) ∷ (sym e' i, h.1.0 i) ∷ []))

two_back : (t : Bool) (p q : List ℕ × Json) → AllByRecursion (λ m. Back m.1) (p ∷ q ∷ [])
    → has_marker (fields_seen (p ∷ q ∷ [])) ≡ true
    → (bytes_eq p.0 (codes "$class") && bytes_eq q.0 (codes "$data")) ≡ t
    → shown (cond t (classed (text_of (seen p.1)) (seen q.1) (fields_seen (p ∷ q ∷ [])))
    (odd (fields_seen (p ∷ q ∷ []))))
    ≡ J.Object (p ∷ q ∷ [])
two_back true p q h m e =
    let names = and_parts (bytes_eq p.0 (codes "$class")) (bytes_eq q.0 (codes "$data")) e in
    class_back (text_of (seen p.1)) p q h m ((bytes_eq-Decides p.0 (codes "$class")).0 names.0)
    ((bytes_eq-Decides q.0 (codes "$data")).0 names.1) refl
two_back false p q h m e = odd_back (p ∷ q ∷ []) h m

marked_back : (ms : Raw) → AllByRecursion (λ p. Back p.1) ms → has_marker (fields_seen ms) ≡ true
    → shown (marked (fields_seen ms)) ≡ J.Object ms
marked_back [] h m = odd_back [] h m
marked_back (p ∷ []) h m =
    one_back (bytes_eq p.0 (codes "$left")) (bytes_eq p.0 (codes "$right")) p h m refl refl
marked_back (p ∷ q ∷ []) h m = two_back (bytes_eq p.0 (codes "$class") && bytes_eq q.0 (codes "$data")) p q h m refl
marked_back (p ∷ q ∷ r ∷ ms) h m = odd_back (p ∷ q ∷ r ∷ ms) h m

object_back : (b : Bool) (ms : Raw) → AllByRecursion (λ p. Back p.1) ms → has_marker (fields_seen ms) ≡ b
    → shown (cond b (marked (fields_seen ms)) (D.Rec (fields_seen ms))) ≡ J.Object ms
object_back true ms h e = marked_back ms h e
object_back false ms h e = shown-Rec (fields_seen ms) ∙ ap J.Object (members_back ms h)

-- the tree in which a datum is seen shows the datum
pub shown-seen : (j : Json) → shown (seen j) ≡ j
shown-seen = every_json Back record {
  null = ap shown seen-Null ∙ shown-Unit;
  bool = λ b. ap shown (seen-Bool b) ∙ shown-Bool b;
  int = λ n. ap shown (seen-Int n) ∙ shown-Int n;
  text = λ s. ap shown (seen-Text s) ∙ shown-Text s;
  array = λ js h. ap shown (seen-Array js) ∙ shown-Coll (map seen js) ∙ ap J.Array (items_back js h);
  object = λ ms h. ap shown (seen-Object ms) ∙ object_back (has_marker (fields_seen ms)) ms h refl;
}
