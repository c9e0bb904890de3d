-- The text of a tree: that of the JSON value that it is.
use Rattle.std.specs.Prelude.{ℕ, List, [], ◌∷◌}
use Rattle.serde_json.specs.Data.{Data, null, boolean, number, string, array, object, Members, no_members, member}
use Rattle.serde_json.specs.Find.{of_integer}
use Rattle.serde_json.specs.View.{items_of}
use Rattle.serde_json.specs.Written.{compact_text}
use Rattle.qc_data.specs.declared.data.Json.{Json}
use Rattle.qc_data.specs.declared.data.Json.TheOpen.{Json-F}
use Rattle.qc_data.specs.declared.data.Json.TheFolds.{fold-Json}

-- members of an object, in their order
abbrev pub members_of : List (List ℕ × Data) → Members
members_of [] = no_members
members_of (p ∷ ps) = member p.0 p.1 (members_of ps)

-- one layer, whose parts are values
abbrev pub data_step : Json-F Data → Data
data_step Json-F.Null = null
data_step (Json-F.Bool b) = boolean b
data_step (Json-F.Int n) = number (of_integer n)
data_step (Json-F.Text s) = string s
data_step (Json-F.Array ds) = array (items_of ds)
data_step (Json-F.Object ps) = object (members_of ps)

-- the value that the tree is
abbrev pub data_of : Json → Data
data_of = fold-Json Data data_step

-- its compact text: no space, and the names of objects in the order that they have in the tree, which rise in those
-- that code holds
abbrev pub text_of : Json → List ℕ
text_of j = compact_text (data_of j)
