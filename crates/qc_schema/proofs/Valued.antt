-- The value that a tree is, at each kind, and the value of a datum's encoding; and that no number of it is a float.
use Rattle.std.proofs.Common.{◌≡◌, ℕ, ℤ, pos, negsuc, Bool, false, List, [], ◌∷◌, Some, map, refl, sym, ap}
use Rattle.std.proofs.Common.{◌∙◌}
use Rattle.std.specs.List.{AllByRecursion}
use Rattle.std.specs.Prelude.{codes}
use Rattle.serde_json.specs.Data as value
use Rattle.serde_json.specs.Data.{Data}
use Rattle.serde_json.specs.Events.{SendsValue}
use Rattle.serde.specs.Event.{Log}
use Rattle.serde_json.specs.Find.{of_integer}
use Rattle.serde_json.specs.Sent.{IsTextOf}
use Rattle.serde_json.specs.View.{items_of}
use Rattle.serde_json.specs.Written.{has_float, items_have_float, members_have_float}
use Rattle.serde_json.proofs.FreeTexts.{text_of_value}
use Rattle.qc_containers.specs.Rising.{on_value}
use Rattle.qc_data.specs.Encoding.{enc}
use Rattle.qc_data.specs.declared.data.Datum.{Datum}
use Rattle.qc_data.specs.declared.data.Datum.TheVariants as D
use Rattle.qc_data.specs.declared.data.Json.{Json}
use Rattle.qc_data.specs.declared.data.Json.TheOpen.{Json-F}
use Rattle.qc_data.specs.declared.data.Json.TheViews.{roll-Json}
use Rattle.qc_data.specs.declared.data.Json.TheFolds.{map-Json, fold-roll-Json}
use Rattle.qc_data.specs.declared.data.Json.TheVariants as J
use Rattle.qc_data.proofs.Encoded as encoded
use Rattle.qc_data.proofs.Induction.{every_json}
use Rattle.qc_data.proofs.Layers.{map-map}
use Rattle.qc_schema.specs.Writing.{data_of, data_step, members_of, text_of}
use Rattle.qc_schema.specs.inner.Encoded.{value_of, side, class_value}

pub data-roll : (x : Json-F Json) → data_of (roll-Json x) ≡ data_step (map-Json Json Data data_of x)
data-roll x = fold-roll-Json Data data_step x

data-Null : data_of J.Null ≡ value.null
data-Null = ap data_of (sym J.rolls-Null) ∙ data-roll Json-F.Null

data-Bool : (b : Bool) → data_of (J.Bool b) ≡ value.boolean b
data-Bool b = ap data_of (sym (J.rolls-Bool b)) ∙ data-roll (Json-F.Bool b)

data-Int : (n : ℤ) → data_of (J.Int n) ≡ value.number (of_integer n)
data-Int n = ap data_of (sym (J.rolls-Int n)) ∙ data-roll (Json-F.Int n)

data-Text : (text : List ℕ) → data_of (J.Text text) ≡ value.string text
data-Text text = ap data_of (sym (J.rolls-Text text)) ∙ data-roll (Json-F.Text text)

data-Array : (items : List Json) → data_of (J.Array items) ≡ value.array (items_of (map data_of items))
data-Array items = ap data_of (sym (J.rolls-Array items)) ∙ data-roll (Json-F.Array items)

data-Object : (members : List (List ℕ × Json))
    → data_of (J.Object members) ≡ value.object (members_of (map (on_value data_of) members))
data-Object members = ap data_of (sym (J.rolls-Object members)) ∙ data-roll (Json-F.Object members)

-- ---- the value of a datum

pub value-Unit : value_of D.Unit ≡ value.null
value-Unit = ap data_of encoded.enc-Unit ∙ data-Null

pub value-Bool : (b : Bool) → value_of (D.Bool b) ≡ value.boolean b
value-Bool b = ap data_of (encoded.enc-Bool b) ∙ data-Bool b

pub value-Int : (n : ℤ) → value_of (D.Int n) ≡ value.number (of_integer n)
value-Int n = ap data_of (encoded.enc-Int n) ∙ data-Int n

pub value-Text : (text : List ℕ) → value_of (D.Text text) ≡ value.string text
value-Text text = ap data_of (encoded.enc-Text text) ∙ data-Text text

pub value-Coll : (items : List Datum) → value_of (D.Coll items) ≡ value.array (items_of (map value_of items))
value-Coll items =
    ap data_of (encoded.enc-Coll items) ∙ data-Array (map enc items)
    ∙ ap (λ ds. value.array (items_of ds)) (map-map enc data_of items)

pub value-Rec : (fields : List (List ℕ × Datum))
    → value_of (D.Rec fields) ≡ value.object (members_of (map (on_value value_of) fields))
value-Rec fields =
    ap data_of (encoded.enc-Rec fields) ∙ data-Object (map (on_value enc) fields)
    ∙ ap (λ ds. value.object (members_of ds)) (map-map (on_value enc) (on_value data_of) fields)

pub value-Left : (d : Datum) → value_of (D.Left d) ≡ side (codes "$left") (value_of d)
value-Left d = ap data_of (encoded.enc-Left d) ∙ data-Object ((codes "$left", enc d) ∷ [])

pub value-Right : (d : Datum) → value_of (D.Right d) ≡ side (codes "$right") (value_of d)
value-Right d = ap data_of (encoded.enc-Right d) ∙ data-Object ((codes "$right", enc d) ∷ [])

pub value-Brand : (name : List ℕ) (d : Datum) → value_of (D.Brand name d) ≡ class_value name (value_of d)
value-Brand name d =
    ap data_of (encoded.enc-Brand name d)
    ∙ data-Object ((codes "$class", J.Text name) ∷ (codes "$data", enc d) ∷ [])
    ∙ ap (λ v. value.object (value.member (codes "$class") v
    (value.member (codes "$data") (value_of d) value.no_members)))
    (data-Text name)

pub ruleset by_kind = (
  value-Unit,
  value-Bool,
  value-Int,
  value-Text,
  value-Coll,
  value-Rec,
  value-Left,
  value-Right,
  value-Brand,
)

-- ---- floats

abbrev IsWhole : Json → Type 0
IsWhole j = has_float (data_of j) ≡ false

int_whole : (n : ℤ) → has_float (value.number (of_integer n)) ≡ false
int_whole (pos n) = refl
int_whole (negsuc n) = refl

items_whole : (items : List Json) → AllByRecursion IsWhole items
    → items_have_float (items_of (map data_of items)) ≡ false
items_whole [] all = refl
items_whole (j ∷ items) all = rw (all.0, items_whole items all.1) refl

members_whole : (members : List (List ℕ × Json)) → AllByRecursion (λ p. IsWhole p.1) members
    → members_have_float (members_of (map (on_value data_of) members)) ≡ false
members_whole [] all = refl
members_whole (p ∷ members) all = rw (all.0, members_whole members all.1) refl

whole : (j : Json) → IsWhole j
whole = every_json IsWhole (record {
  null = ap has_float data-Null;
  bool = λ b. ap has_float (data-Bool b);
  int = λ n. ap has_float (data-Int n) ∙ int_whole n;
  text = λ text. ap has_float (data-Text text);
  array = λ items all. ap has_float (data-Array items) ∙ items_whole items all;
  object = λ members all. ap has_float (data-Object members) ∙ members_whole members all;
})

-- the compact text of a tree's events is the tree's
pub text_is : (j : Json) (log : Log) (text : List ℕ) → SendsValue (data_of j) (Some []) log → IsTextOf log text
    → text ≡ text_of j
text_is j log text sent is = text_of_value (data_of j) log text sent is (whole j)
