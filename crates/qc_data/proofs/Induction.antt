-- Induction over data, and over JSON trees: a claim for each kind, where it holds of the parts.
use Rattle.std.proofs.Common.{ℕ, ℤ, Bool, List, [], ◌∷◌, map, sym, subst}
use Rattle.std.specs.List.{AllByRecursion}
use Rattle.qc_containers.specs.Rising.{on_value}
use Rattle.qc_data.specs.declared.data.Datum.{Datum}
use Rattle.qc_data.specs.declared.data.Datum.TheOpen.{Datum-F}
use Rattle.qc_data.specs.declared.data.Datum.TheViews.{roll-Datum}
use Rattle.qc_data.specs.declared.data.Datum.TheFolds.{map-Datum, ind-Datum}
use Rattle.qc_data.specs.declared.data.Datum.TheVariants as D
use Rattle.qc_data.specs.declared.data.Json.{Json}
use Rattle.qc_data.specs.declared.data.Json.TheOpen.{Json-F}
use Rattle.qc_data.specs.declared.data.Json.TheViews.{roll-Json}
use Rattle.qc_data.specs.declared.data.Json.TheFolds.{map-Json, ind-Json}
use Rattle.qc_data.specs.declared.data.Json.TheVariants as J

each : {X : Type 0} (P : X → Type 0) (ws : List ((x : X) × P x)) → AllByRecursion P (map (λ e. e.0) ws)
each P [] = tt
each P (w ∷ ws) = (w.1, each P ws)

each_value : {X : Type 0} (P : X → Type 0) (ws : List (List ℕ × ((x : X) × P x)))
    → AllByRecursion (λ p. P p.1) (map (on_value (λ e. e.0)) ws)
each_value P [] = tt
each_value P (w ∷ ws) = (w.1.1, each_value P ws)

-- the claim at each kind of datum
pub record DatumCases (P : Datum → Type 0) : Type 0 where
  pub unit : P D.Unit
  pub bool : (b : Bool) → P (D.Bool b)
  pub int : (n : ℤ) → P (D.Int n)
  pub text : (text : List ℕ) → P (D.Text text)
  pub coll : (items : List Datum) → AllByRecursion P items → P (D.Coll items)
  pub rec : (fields : List (List ℕ × Datum)) → AllByRecursion (λ p. P p.1) fields → P (D.Rec fields)
  pub left : (d : Datum) → P d → P (D.Left d)
  pub right : (d : Datum) → P d → P (D.Right d)
  pub brand : (name : List ℕ) (d : Datum) → P d → P (D.Brand name d)

datum_layer : (P : Datum → Type 0) (c : DatumCases P) (w : Datum-F ((d : Datum) × P d))
    → P (roll-Datum (map-Datum ((d : Datum) × P d) Datum (λ e. e.0) w))
datum_layer P c Datum-F.Unit = subst P (sym D.rolls-Unit) c.unit
datum_layer P c (Datum-F.Bool b) = subst P (sym (D.rolls-Bool b)) (c.bool b)
datum_layer P c (Datum-F.Int n) = subst P (sym (D.rolls-Int n)) (c.int n)
datum_layer P c (Datum-F.Text text) = subst P (sym (D.rolls-Text text)) (c.text text)
datum_layer P c (Datum-F.Coll ws) =
    subst P (sym (D.rolls-Coll (map (λ e. e.0) ws))) (c.coll (map (λ e. e.0) ws) (each P ws))
datum_layer P c (Datum-F.Rec ws) =
    subst P (sym (D.rolls-Rec (map (on_value (λ e. e.0)) ws))) (c.rec (map (on_value (λ e. e.0)) ws) (each_value P ws))
datum_layer P c (Datum-F.Left w) = subst P (sym (D.rolls-Left w.0)) (c.left w.0 w.1)
datum_layer P c (Datum-F.Right w) = subst P (sym (D.rolls-Right w.0)) (c.right w.0 w.1)
datum_layer P c (Datum-F.Brand name w) = subst P (sym (D.rolls-Brand name w.0)) (c.brand name w.0 w.1)

-- then it holds of every datum
pub every_datum : (P : Datum → Type 0) → DatumCases P → (d : Datum) → P d
every_datum P c = ind-Datum P (λ x w is. subst (λ y. P (roll-Datum y)) is (datum_layer P c w))

-- the claim at each kind of JSON tree
pub record JsonCases (P : Json → Type 0) : Type 0 where
  pub null : P J.Null
  pub bool : (b : Bool) → P (J.Bool b)
  pub int : (n : ℤ) → P (J.Int n)
  pub text : (text : List ℕ) → P (J.Text text)
  pub array : (items : List Json) → AllByRecursion P items → P (J.Array items)
  pub object : (members : List (List ℕ × Json)) → AllByRecursion (λ p. P p.1) members → P (J.Object members)

json_layer : (P : Json → Type 0) (c : JsonCases P) (w : Json-F ((j : Json) × P j))
    → P (roll-Json (map-Json ((j : Json) × P j) Json (λ e. e.0) w))
json_layer P c Json-F.Null = subst P (sym J.rolls-Null) c.null
json_layer P c (Json-F.Bool b) = subst P (sym (J.rolls-Bool b)) (c.bool b)
json_layer P c (Json-F.Int n) = subst P (sym (J.rolls-Int n)) (c.int n)
json_layer P c (Json-F.Text text) = subst P (sym (J.rolls-Text text)) (c.text text)
json_layer P c (Json-F.Array ws) =
    subst P (sym (J.rolls-Array (map (λ e. e.0) ws))) (c.array (map (λ e. e.0) ws) (each P ws))
json_layer P c (Json-F.Object ws) =
    subst P (sym (J.rolls-Object (map (on_value (λ e. e.0)) ws)))
    (c.object (map (on_value (λ e. e.0)) ws) (each_value P ws))

-- then it holds of every tree
pub every_json : (P : Json → Type 0) → JsonCases P → (j : Json) → P j
every_json P c = ind-Json P (λ x w is. subst (λ y. P (roll-Json y)) is (json_layer P c w))
