-- What decoding is at each kind of tree, and of names among it.
use Rattle.std.proofs.Common.{◌≡◌, ℕ, ℤ, List, [], ◌∷◌, map, Bool, true, false, Option, Some, option_map, refl, sym, ap}
use Rattle.std.proofs.Common.{◌∙◌}
use Rattle.std.specs.Prelude.{codes, not}
use Rattle.std.specs.Str.{bytes_eq}
use Rattle.qc_containers.specs.Name.{is_name, is_marker}
use Rattle.qc_containers.specs.Rising.{on_value}
use Rattle.qc_data.specs.Decoding.{dec, dec_step, items_of, object_of, plain, name_of}
use Rattle.qc_data.specs.declared.data.Datum.{Datum}
use Rattle.qc_data.specs.declared.data.Datum.TheVariants as D
use Rattle.qc_data.specs.declared.data.Json.{Json}
use Rattle.qc_data.specs.declared.data.Json.TheOpen.{Json-F}
use Rattle.qc_data.specs.declared.data.Json.TheViews.{roll-Json}
use Rattle.qc_data.specs.declared.data.Json.TheFolds.{map-Json, fold-roll-Json}
use Rattle.qc_data.specs.declared.data.Json.TheVariants as J
use Rattle.qc_containers.proofs.Truth.{and_parts, or_none, not_true}

pub dec-roll : (x : Json-F Json) → dec (roll-Json x) ≡ dec_step (map-Json Json (Option Datum) dec x)
dec-roll x = fold-roll-Json (Option Datum) dec_step x

pub dec-Null : dec J.Null ≡ Some D.Unit
dec-Null = ap dec (sym J.rolls-Null) ∙ dec-roll Json-F.Null

pub dec-Bool : (b : Bool) → dec (J.Bool b) ≡ Some (D.Bool b)
dec-Bool b = ap dec (sym (J.rolls-Bool b)) ∙ dec-roll (Json-F.Bool b)

pub dec-Int : (n : ℤ) → dec (J.Int n) ≡ Some (D.Int n)
dec-Int n = ap dec (sym (J.rolls-Int n)) ∙ dec-roll (Json-F.Int n)

pub dec-Text : (text : List ℕ) → dec (J.Text text) ≡ Some (D.Text text)
dec-Text text = ap dec (sym (J.rolls-Text text)) ∙ dec-roll (Json-F.Text text)

pub dec-Array : (items : List Json) → dec (J.Array items) ≡ option_map D.Coll (items_of (map dec items))
dec-Array items = ap dec (sym (J.rolls-Array items)) ∙ dec-roll (Json-F.Array items)

pub dec-Object : (members : List (List ℕ × Json)) → dec (J.Object members) ≡ object_of (map (on_value dec) members)
dec-Object members = ap dec (sym (J.rolls-Object members)) ∙ dec-roll (Json-F.Object members)

-- a name is none of the markers
pub record Unmarked (s : List ℕ) : Type 0 where
  pub left : bytes_eq s (codes "$left") ≡ false
  pub right : bytes_eq s (codes "$right") ≡ false
  pub class : bytes_eq s (codes "$class") ≡ false

pub unmarked : (s : List ℕ) → is_name s ≡ true → Unmarked s
unmarked s h =
    let p = and_parts _ _ h in
    let q = and_parts _ (not (is_marker s)) p.1 in
    let r = or_none (bytes_eq s (codes "$left")) _ (not_true (is_marker s) q.1) in
    let u = or_none (bytes_eq s (codes "$right")) _ r.1 in
    let v = or_none (bytes_eq s (codes "$class")) (bytes_eq s (codes "$data")) u.1 in
    record { left = r.0; right = u.0; class = v.0 }

-- an object whose first name is no marker is a record
pub plain_is : (ps : List (List ℕ × Option Datum)) (n : List ℕ) (o : Option Datum) → is_name n ≡ true
    → object_of ((n, o) ∷ ps) ≡ plain ((n, o) ∷ ps)
plain_is [] n o h = let u = unmarked n h in rw (u.left, u.right) refl
plain_is (q ∷ []) n o h = let u = unmarked n h in rw u.class refl
plain_is (q ∷ r ∷ ps) n o h = refl

pub name_of-Text : (n : List ℕ) → is_name n ≡ true → name_of (D.Text n) ≡ Some n
name_of-Text n h = rw (D.outs-Text n, h) refl
