-- The datum that a JSON tree encodes.
use Rattle.std.specs.Prelude.{ℕ, List, [], ◌∷◌, ◌&&◌, cond, Option, Some, None, option_map, option_and_then, codes, ◌≡◌}
use Rattle.std.specs.Prelude.{◌↔◌, IsTrue}
use Rattle.std.specs.Str.{bytes_eq}
use Rattle.qc_data.specs.Encoding.{enc}
use Rattle.qc_data.specs.Facts.{named}
use Rattle.qc_containers.specs.Name.{is_name}
use Rattle.qc_data.specs.declared.data.Datum.{Datum}
use Rattle.qc_data.specs.declared.data.Datum.TheOpen.{Datum-F}
use Rattle.qc_data.specs.declared.data.Datum.TheViews.{out-Datum}
use Rattle.qc_data.specs.declared.data.Datum.TheVariants.{Unit as Nothing, Bool as DBool, Int, Text, Coll, Rec, Left}
use Rattle.qc_data.specs.declared.data.Datum.TheVariants.{Right, Brand}
use Rattle.qc_data.specs.declared.data.Json.{Json}
use Rattle.qc_data.specs.declared.data.Json.TheOpen.{Json-F}
use Rattle.qc_data.specs.declared.data.Json.TheFolds.{fold-Json}

-- by the outermost layer of a datum
abbrev pub text_layer : {A : Type 0} → Datum-F A → Option (List ℕ)
text_layer (Datum-F.Text s) = Some s
text_layer x = None

-- the text that a datum is
abbrev pub text_of : Datum → Option (List ℕ)
text_of d = text_layer (out-Datum d)

-- the name that a datum spells
abbrev pub name_of : Datum → Option (List ℕ)
name_of d = option_and_then (λ n. cond (is_name n) (Some n) None) (text_of d)

-- a class value of the name and the content
abbrev pub branded : Option Datum → Option Datum → Option Datum
branded c d = option_and_then (λ n. option_map (Brand n) d) (option_and_then name_of c)

-- all members, where each is one
abbrev pub items_of : List (Option Datum) → Option (List Datum)
items_of [] = Some []
items_of (o ∷ os) = option_and_then (λ d. option_map (λ ds. d ∷ ds) (items_of os)) o

-- all pairs, where each has a name and a datum
abbrev pub fields_of : List (List ℕ × Option Datum) → Option (List (List ℕ × Datum))
fields_of [] = Some []
fields_of (p ∷ ps) =
    cond (is_name p.0) (option_and_then (λ d. option_map (λ fs. (p.0, d) ∷ fs) (fields_of ps)) p.1) None

-- a record of the pairs, where each has a name and a datum
abbrev pub plain : List (List ℕ × Option Datum) → Option Datum
plain ps = option_map Rec (fields_of ps)

-- an object whose members are already decoded
abbrev pub object_of : List (List ℕ × Option Datum) → Option Datum
object_of [] = plain []
object_of (p ∷ []) =
    cond (bytes_eq p.0 (codes "$left")) (option_map Left p.1)
    (cond (bytes_eq p.0 (codes "$right")) (option_map Right p.1) (plain (p ∷ [])))
object_of (p ∷ q ∷ []) =
    cond (bytes_eq p.0 (codes "$class") && bytes_eq q.0 (codes "$data")) (branded p.1 q.1) (plain (p ∷ q ∷ []))
object_of (p ∷ q ∷ r ∷ ps) = plain (p ∷ q ∷ r ∷ ps)

-- one layer, whose parts are decoded
abbrev pub dec_step : Json-F (Option Datum) → Option Datum
dec_step Json-F.Null = Some Nothing
dec_step (Json-F.Bool b) = Some (DBool b)
dec_step (Json-F.Int n) = Some (Int n)
dec_step (Json-F.Text s) = Some (Text s)
dec_step (Json-F.Array os) = option_map Coll (items_of os)
dec_step (Json-F.Object ps) = object_of ps

-- the datum of a JSON tree, if it encodes one
abbrev pub dec : Json → Option Datum
dec = fold-Json (Option Datum) dec_step

-- the datum whose encoding is the tree; none exactly where there is none
abbrev pub Decodes : Json → Option Datum → Type 0
Decodes j o = (d : Datum) → (o ≡ Some d) ↔ ((enc d ≡ j) × IsTrue (named d))
