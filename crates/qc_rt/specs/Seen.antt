-- The datum that operators see in a JSON tree, for every tree, and the tree that shows a datum.
use Rattle.std.specs.Prelude.{ℕ, Bool, false, cond, ◌&&◌, ◌||◌, List, [], ◌∷◌, map, codes, Option, Some, None}
use Rattle.std.specs.Str.{bytes_eq}
use Rattle.qc_containers.specs.Name.{is_marker}
use Rattle.qc_containers.specs.Rising.{on_value}
use Rattle.qc_data.specs.Decoding.{text_of}
use Rattle.qc_data.specs.declared.data.Datum.{Datum}
use Rattle.qc_data.specs.declared.data.Datum.TheOpen.{Datum-F}
use Rattle.qc_data.specs.declared.data.Datum.TheViews.{out-Datum}
use Rattle.qc_data.specs.declared.data.Datum.TheFolds.{fold-Datum}
use Rattle.qc_data.specs.declared.data.Datum.TheVariants.{Unit as Nothing, Bool as DBool, Int, Text, Coll, Rec, Left}
use Rattle.qc_data.specs.declared.data.Datum.TheVariants.{Right, Brand}
use Rattle.qc_data.specs.declared.data.Json.{Json}
use Rattle.qc_data.specs.declared.data.Json.TheOpen.{Json-F}
use Rattle.qc_data.specs.declared.data.Json.TheFolds.{fold-Json}
use Rattle.qc_data.specs.declared.data.Json.TheVariants as json

-- some name is a marker
abbrev pub has_marker : {A : Type 0} → List (List ℕ × A) → Bool
has_marker [] = false
has_marker (p ∷ ps) = is_marker p.0 || has_marker ps

-- An object that has a marker and is neither a side nor a class's value. It is of no kind: no operator takes apart what
-- is on a side, so only those take it that take every value. Its members are the record there, which has a marker as
-- the record of no plain object has.
abbrev pub odd : List (List ℕ × Datum) → Datum
odd ps = Left (Rec ps)

-- a value of the class, where the first of two members is a text
abbrev pub classed : Option (List ℕ) → Datum → List (List ℕ × Datum) → Datum
classed None d ps = odd ps
classed (Some name) d ps = Brand name d

-- an object that has a marker, by its members
abbrev pub marked : List (List ℕ × Datum) → Datum
marked [] = odd []
marked (p ∷ []) =
    cond (bytes_eq p.0 (codes "$left")) (Left p.1) (cond (bytes_eq p.0 (codes "$right")) (Right p.1) (odd (p ∷ [])))
marked (p ∷ q ∷ []) =
    cond (bytes_eq p.0 (codes "$class") && bytes_eq q.0 (codes "$data")) (classed (text_of p.1) q.1 (p ∷ q ∷ []))
    (odd (p ∷ q ∷ []))
marked (p ∷ q ∷ r ∷ ps) = odd (p ∷ q ∷ r ∷ ps)

-- an object: a plain one, which has no marker, is a record
abbrev pub object_seen : List (List ℕ × Datum) → Datum
object_seen ps = cond (has_marker ps) (marked ps) (Rec ps)

-- one layer, whose parts are seen
abbrev pub seen_step : Json-F Datum → Datum
seen_step Json-F.Null = Nothing
seen_step (Json-F.Bool b) = DBool b
seen_step (Json-F.Int n) = Int n
seen_step (Json-F.Text s) = Text s
seen_step (Json-F.Array ds) = Coll ds
seen_step (Json-F.Object ps) = object_seen ps

-- the datum that operators see in the tree
abbrev pub seen : Json → Datum
seen = fold-Json Datum seen_step

-- the members of an object, seen
abbrev pub fields_seen : List (List ℕ × Json) → List (List ℕ × Datum)
fields_seen ms = map (on_value seen) ms

-- by the outermost layer of a datum
abbrev pub is_odd_at : Datum-F Datum → Bool
is_odd_at (Datum-F.Rec ps) = has_marker ps
is_odd_at _ = false

-- the datum is the members of an object of no kind
abbrev pub is_odd : Datum → Bool
is_odd d = is_odd_at (out-Datum d)

-- one layer, whose parts are shown, each behind whether it is the members of an object of no kind
abbrev pub shown_step : Datum-F (Bool × Json) → Bool × Json
shown_step Datum-F.Unit = (false, json.Null)
shown_step (Datum-F.Bool b) = (false, json.Bool b)
shown_step (Datum-F.Int n) = (false, json.Int n)
shown_step (Datum-F.Text s) = (false, json.Text s)
shown_step (Datum-F.Coll js) = (false, json.Array (map (λ p. p.1) js))
shown_step (Datum-F.Rec ms) = (has_marker ms, json.Object (map (on_value (λ p. p.1)) ms))
shown_step (Datum-F.Left j) = (false, cond j.0 j.1 (json.Object ((codes "$left", j.1) ∷ [])))
shown_step (Datum-F.Right j) = (false, json.Object ((codes "$right", j.1) ∷ []))
shown_step (Datum-F.Brand n j) =
    (false, json.Object ((codes "$class", json.Text n) ∷ (codes "$data", j.1) ∷ []))

-- the tree behind whether the datum is the members of an object of no kind
abbrev pub shown_both : Datum → Bool × Json
shown_both = fold-Datum (Bool × Json) shown_step

-- the tree that shows the datum: for each tree, the one in which the datum is seen
abbrev pub shown : Datum → Json
shown d = (shown_both d).1
