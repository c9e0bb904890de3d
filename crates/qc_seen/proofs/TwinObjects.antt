-- What is seen in objects that have a marker, as private functions tell it by their members.
use Rattle.std.proofs.Common.{◌≡◌, ℕ, ◌+◌, ◌<◌, true, false, cond, List, [], ◌∷◌, ◌++◌, map, get_or, length}
use Rattle.std.proofs.Common.{drop}
use Rattle.std.proofs.Common.{Option, Some, None, refl, sym, ap, subst, ◌∙◌, arith, append_assoc, add-one, drop-cons}
use Rattle.std.proofs.Common.{rules, take}
use Rattle.std.proofs.Math.Seq.{take-suc}
use Rattle.std.proofs.lemmas.List.{map-append}
use Rattle.std.specs.Prelude.{◌&&◌, codes, zip, IfSome}
use Rattle.std.specs.Str.{bytes_eq}
use Rattle.qc_containers.specs.Rising.{on_value}
use Rattle.qc_data.specs.Decoding.{text_layer, text_of}
use Rattle.qc_data.specs.declared.data.Datum.{Datum}
use Rattle.qc_data.specs.declared.data.Datum.TheVariants as D
use Rattle.qc_data.specs.declared.data.Json.{Json}
use Rattle.qc_data.specs.declared.data.Json.TheOpen.{Json-F}
use Rattle.qc_data.specs.declared.data.Json.TheViews.{out-Json, roll-Json, the_lemmas}
use Rattle.qc_data.specs.declared.data.Json.TheFolds.{map-Json}
use Rattle.qc_data.specs.declared.data.Json.TheVariants as J
use Rattle.qc_rt.specs.Seen.{classed, has_marker, marked, object_seen, odd, seen, seen_step}
use Rattle.qc_rt.specs.Seen.{fields_seen}
use Rattle.qc_seen.specs.Twins.{mark, member_twin, numbered, twin, Marks}
use Rattle.qc_rt.proofs.Markers.{has_marker-map}
use Rattle.qc_rt.proofs.SeenLaws.{object_case, seen-Text, seen_layers}

abbrev Raw : Type 0
Raw = List (List ℕ × Json)

-- ---- objects by whether they have a marker

pub object_marked : (ms : Raw) → has_marker ms ≡ true → object_seen (fields_seen ms) ≡ marked (fields_seen ms)
object_marked ms h =
    ap (λ b. cond b (marked (fields_seen ms)) (D.Rec (fields_seen ms))) (has_marker-map seen ms ∙ h)

pub object_plain : (ms : Raw) → has_marker ms ≡ false → object_seen (fields_seen ms) ≡ D.Rec (fields_seen ms)
object_plain ms h =
    ap (λ b. cond b (marked (fields_seen ms)) (D.Rec (fields_seen ms))) (has_marker-map seen ms ∙ h)

-- ---- one member

pub side_left : (ps ms : Raw) (d e : List ℕ × Json) (s : List ℕ) → ps ≡ ms → length ms ≡ 1 → s ≡ (get_or ps 0 d).0
    → bytes_eq s (codes "$left") ≡ true → marked (fields_seen ms) ≡ D.Left (seen (get_or ps 0 e).1)
side_left [] ms d e s is n p a = absurd (omega (arith, ap length is))
side_left (m ∷ []) ms d e s is n p a =
    let a' : bytes_eq m.0 (codes "$left") ≡ true = ap (λ w. bytes_eq w (codes "$left")) (sym p) ∙ a in
    rw (← is) (rw a' refl)
side_left (m ∷ k ∷ ps) ms d e s is n p a = absurd (omega (arith, ap length is))

pub side_right : (ps ms : Raw) (d e f : List ℕ × Json) (s t : List ℕ) → ps ≡ ms → length ms ≡ 1
    → s ≡ (get_or ps 0 d).0 → t ≡ (get_or ps 0 e).0 → bytes_eq s (codes "$left") ≡ false
    → bytes_eq t (codes "$right") ≡ true → marked (fields_seen ms) ≡ D.Right (seen (get_or ps 0 f).1)
side_right [] ms d e f s t is n p q a b = absurd (omega (arith, ap length is))
side_right (m ∷ []) ms d e f s t is n p q a b =
    let a' : bytes_eq m.0 (codes "$left") ≡ false = ap (λ w. bytes_eq w (codes "$left")) (sym p) ∙ a in
    let b' : bytes_eq m.0 (codes "$right") ≡ true = ap (λ w. bytes_eq w (codes "$right")) (sym q) ∙ b in
    rw (← is) (rw (a', b') refl)
side_right (m ∷ k ∷ ps) ms d e f s t is n p q a b = absurd (omega (arith, ap length is))

pub side_none : (ps ms : Raw) (d e : List ℕ × Json) (s t : List ℕ) → ps ≡ ms → length ms ≡ 1
    → s ≡ (get_or ps 0 d).0 → t ≡ (get_or ps 0 e).0 → bytes_eq s (codes "$left") ≡ false
    → bytes_eq t (codes "$right") ≡ false → marked (fields_seen ms) ≡ odd (fields_seen ms)
side_none [] ms d e s t is n p q a b = absurd (omega (arith, ap length is))
side_none (m ∷ []) ms d e s t is n p q a b =
    let a' : bytes_eq m.0 (codes "$left") ≡ false = ap (λ w. bytes_eq w (codes "$left")) (sym p) ∙ a in
    let b' : bytes_eq m.0 (codes "$right") ≡ false = ap (λ w. bytes_eq w (codes "$right")) (sym q) ∙ b in
    rw (← is) (rw (a', b') refl)
side_none (m ∷ k ∷ ps) ms d e s t is n p q a b = absurd (omega (arith, ap length is))

-- ---- two members

pub class_none : (ps ms : Raw) (d e : List ℕ × Json) (s t : List ℕ) → ps ≡ ms → length ms ≡ 2
    → s ≡ (get_or ps 0 d).0 → t ≡ (get_or ps 1 e).0
    → (bytes_eq s (codes "$class") && bytes_eq t (codes "$data")) ≡ false
    → marked (fields_seen ms) ≡ odd (fields_seen ms)
class_none [] ms d e s t is n p q a = absurd (omega (arith, ap length is))
class_none (m ∷ []) ms d e s t is n p q a = absurd (omega (arith, ap length is))
class_none (m ∷ l ∷ []) ms d e s t is n p q a =
    let a' : (bytes_eq m.0 (codes "$class") && bytes_eq l.0 (codes "$data"))
    ≡ false = ap (λ w. bytes_eq w (codes "$class") && bytes_eq l.0 (codes "$data")) (sym p)
    ∙ ap (λ w. bytes_eq s (codes "$class") && bytes_eq w (codes "$data")) (sym q) ∙ a in
    rw (← is) (rw a' refl)
class_none (m ∷ l ∷ k ∷ ps) ms d e s t is n p q a = absurd (omega (arith, ap length is))

pub class_some : (ps ms : Raw) (d e f g : List ℕ × Json) (s t : List ℕ) → ps ≡ ms → length ms ≡ 2
    → s ≡ (get_or ps 0 d).0 → t ≡ (get_or ps 1 e).0
    → (bytes_eq s (codes "$class") && bytes_eq t (codes "$data")) ≡ true
    → marked (fields_seen ms)
    ≡ classed (text_of (seen (get_or ps 0 f).1)) (seen (get_or ps 1 g).1) (fields_seen ms)
class_some [] ms d e f g s t is n p q a = absurd (omega (arith, ap length is))
class_some (m ∷ []) ms d e f g s t is n p q a = absurd (omega (arith, ap length is))
class_some (m ∷ l ∷ []) ms d e f g s t is n p q a =
    let a' : (bytes_eq m.0 (codes "$class") && bytes_eq l.0 (codes "$data"))
    ≡ true = ap (λ w. bytes_eq w (codes "$class") && bytes_eq l.0 (codes "$data")) (sym p)
    ∙ ap (λ w. bytes_eq s (codes "$class") && bytes_eq w (codes "$data")) (sym q) ∙ a in
    rw (← is) (rw a' refl)
class_some (m ∷ l ∷ k ∷ ps) ms d e f g s t is n p q a = absurd (omega (arith, ap length is))

pub class_text : (j k : Json) (n : List ℕ) (ps : List (List ℕ × Datum)) → j ≡ J.Text n
    → classed (text_of (seen j)) (seen k) ps ≡ D.Brand n (seen k)
class_text j k n ps e = ap (λ i. classed (text_of i) (seen k) ps) (ap seen e ∙ seen-Text n) ∙ rw (D.outs-Text n) refl

-- what is seen in a tree that is no text is none
untold : (x : Json-F Json) → ((n : List ℕ) → x ≡ Json-F.Text n → ⊥)
    → text_of (seen_step (map-Json Json Datum seen x)) ≡ None
untold Json-F.Null h = rw D.outs-Unit refl
untold (Json-F.Bool b) h = rw (D.outs-Bool b) refl
untold (Json-F.Int n) h = rw (D.outs-Int n) refl
untold (Json-F.Text s) h = absurd (h s refl)
untold (Json-F.Array js) h = rw (D.outs-Coll (map seen js)) refl
untold (Json-F.Object ms) h =
    object_case text_layer None (λ d. refl) (λ d. refl) (λ n d. refl) (λ fs. refl) (fields_seen ms)

roll-out : (j : Json) → roll-Json (out-Json j) ≡ j
roll-out j = search (rules, the_lemmas)

pub class_untold : (j : Json) (d : Datum) (ps : List (List ℕ × Datum))
    → ((n : List ℕ) → j ≡ J.Text n → ⊥) → classed (text_of (seen j)) d ps ≡ odd ps
class_untold j d ps h =
    ap (λ o. classed o d ps) (ap text_of (seen_layers j)
    ∙ untold (out-Json j) (λ n e. h n (sym (roll-out j) ∙ ap roll-Json e ∙ J.rolls-Text n)))

-- ---- other numbers of members

pub many_odd : (ms : Raw) → (length ms ≡ 1 → ⊥) → (length ms ≡ 2 → ⊥) → marked (fields_seen ms) ≡ odd (fields_seen ms)
many_odd [] a b = refl
many_odd (p ∷ []) a b = absurd (a (omega arith))
many_odd (p ∷ q ∷ []) a b = absurd (b (omega arith))
many_odd (p ∷ q ∷ r ∷ ps) a b = refl

-- ---- one more of what is gone through

-- one twin more
pub numbered_more : (ms : Raw) (i : ℕ) (p : List ℕ × Json) (all next : List Datum) (whole : List Datum)
    → whole ≡ all ++ numbered i (map (on_value twin) (fields_seen (drop i ms))) → i < length ms → p ≡ get_or ms i p
    → next ≡ all ++ member_twin i p.0 (twin (seen p.1)) ∷ []
    → whole ≡ next ++ numbered (i + 1) (map (on_value twin) (fields_seen (drop (i + 1) ms)))
numbered_more ms i p all next whole so_far lt at e =
    let behind : drop i ms ≡ p ∷ drop (i + 1) ms =
    drop-cons ms i p lt ∙ (λ k. sym at k ∷ drop (sym (add-one i) k) ms) in
    let rest : List Datum = numbered (i + 1) (map (on_value twin) (fields_seen (drop (i + 1) ms))) in
    so_far
    ∙ ap (λ l. all ++ l) (ap (λ l. numbered i (map (on_value twin) (fields_seen l))) behind
    ∙ (λ k. member_twin i p.0 (twin (seen p.1))
    ∷ numbered (sym (add-one i) k) (map (on_value twin) (fields_seen (drop (i + 1) ms)))))
    ∙ sym (append_assoc all (member_twin i p.0 (twin (seen p.1)) ∷ []) rest) ∙ ap (λ l. l ++ rest) (sym e)

-- one pair more
pub zip_more : {A B : Type 0} (xs : List A) (ys : List B) (all next : List (A × B)) (i : ℕ) (x : A) (y : B)
    → zip xs ys ≡ all ++ zip (drop i xs) (drop i ys) → i < length xs → i < length ys → x ≡ get_or xs i x
    → y ≡ get_or ys i y → next ≡ all ++ (x, y) ∷ []
    → zip xs ys ≡ next ++ zip (drop (i + 1) xs) (drop (i + 1) ys)
zip_more xs ys all next i x y so_far lt lt' at at' e =
    let mine : drop i xs ≡ x ∷ drop (i + 1) xs = drop-cons xs i x lt ∙ (λ k. sym at k ∷ drop (sym (add-one i) k) xs) in
    let theirs : drop i ys ≡ y ∷ drop (i + 1) ys =
    drop-cons ys i y lt' ∙ (λ k. sym at' k ∷ drop (sym (add-one i) k) ys) in
    let rest = zip (drop (i + 1) xs) (drop (i + 1) ys) in
    so_far ∙ ap (λ l. all ++ l) (λ k. zip (mine k) (theirs k)) ∙ sym (append_assoc all ((x, y) ∷ []) rest)
    ∙ ap (λ l. l ++ rest) (sym e)

-- one of what is made of each more
pub made_more : {A B C : Type 0} (g : B → C) (f : A → B) (xs : List A) (all next : List C) (i : ℕ) (x : A) (y : C)
    → all ≡ map g (map f (take i xs)) → i < length xs → x ≡ get_or xs i x → y ≡ g (f x) → next ≡ all ++ y ∷ []
    → next ≡ map g (map f (take (i + 1) xs))
made_more g f xs all next i x y so_far lt at is e =
    let ahead : take (i + 1) xs ≡ take i xs ++ x ∷ [] =
    ap (λ k. take k xs) (add-one i) ∙ take-suc xs i x lt ∙ ap (λ y. take i xs ++ y ∷ []) (sym at) in
    e ∙ (λ k. so_far k ++ is k ∷ []) ∙ sym (map-append g (map f (take i xs)) (f x ∷ []))
    ∙ ap (map g) (sym (map-append f (take i xs) (x ∷ []))) ∙ ap (λ l. map g (map f l)) (sym ahead)

-- one twin of an item more
pub twins_more : (js : List Json) (all next : List Datum) (i : ℕ) (j : Json) (d : Datum)
    → all ≡ map twin (map seen (take i js)) → i < length js → j ≡ get_or js i j → d ≡ twin (seen j)
    → next ≡ all ++ d ∷ [] → next ≡ map twin (map seen (take (i + 1) js))
twins_more js all next i j d so_far lt at is e = made_more twin seen js all next i j d so_far lt at is e

-- ---- marks

marks_stay : (ds : List Datum) → map (mark true) ds ≡ ds
marks_stay [] = refl
marks_stay (d ∷ ds) = ap (λ l. d ∷ l) (marks_stay ds)

-- what is seen, of what was decoded
pub found_seen : (o : Option (List Datum)) (xs ds : List Datum) → o ≡ Some xs → IfSome o (λ found. found ≡ ds) → xs ≡ ds
found_seen o xs ds e h = subst (λ p. IfSome p (λ found. found ≡ ds)) e h

-- one of what is seen more
pub seen_more : (js : List Json) (all next : List Datum) (i : ℕ) (j : Json) (d : Datum) → all ≡ map seen (take i js)
    → i < length js → j ≡ get_or js i j → seen j ≡ d → next ≡ all ++ d ∷ [] → next ≡ map seen (take (i + 1) js)
seen_more js all next i j d so_far lt at is e =
    made_more (mark true) seen js all next i j d (so_far ∙ sym (marks_stay (map seen (take i js)))) lt at (sym is) e
    ∙ marks_stay (map seen (take (i + 1) js))

-- marks that are what is seen
pub seen_marks : (xs ys : List Datum) (js ks : List Json) → xs ≡ map seen js → ys ≡ map seen ks → Marks xs js ys ks
seen_marks xs ys js ks p q = (true, p ∙ sym (marks_stay (map seen js)), q ∙ sym (marks_stay (map seen ks)))

-- marks that are twins
pub twin_marks : (xs ys : List Datum) (js ks : List Json) → xs ≡ map twin (map seen js) → ys ≡ map twin (map seen ks)
    → Marks xs js ys ks
twin_marks xs ys js ks p q = (false, p, q)
