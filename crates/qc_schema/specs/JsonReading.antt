-- The tree that bytes of JSON mean: the value that `serde_json` reads of UTF-8, where every number is an integer.
use Rattle.std.specs.Prelude.{◌≡◌, ℕ, List, [], ◌∷◌, Option, Some, option_map, option_and_then, IsUtf8}
use Rattle.serde_json.specs.Data.{Data, null, boolean, number, string, array, object, Items, no_items, item, Members}
use Rattle.serde_json.specs.Data.{no_members, member}
use Rattle.serde_json.specs.Find.{as_i64}
use Rattle.serde_json.specs.Read.{read}
use Rattle.qc_data.specs.declared.data.Json.{Json}
use Rattle.qc_data.specs.declared.data.Json.TheVariants.{Null, Bool, Int, Text, Array, Object}

-- the tree of a value; of a value with a number that is no integer of 64 bits there is none
abbrev mutual
  pub of_data : Data → Option Json
  of_data null = Some Null
  of_data (boolean b) = Some (Bool b)
  of_data (number n) = option_map Int (as_i64 n)
  of_data (string s) = Some (Text s)
  of_data (array ds) = option_map Array (of_items ds)
  of_data (object ms) = option_map Object (of_members ms)

  pub of_items : Items → Option (List Json)
  of_items no_items = Some []
  of_items (item d ds) = option_and_then (λ j. option_map (λ js. j ∷ js) (of_items ds)) (of_data d)

  pub of_members : Members → Option (List (List ℕ × Json))
  of_members no_members = Some []
  of_members (member k d ms) = option_and_then (λ j. option_map (λ js. (k, j) ∷ js) (of_members ms)) (of_data d)

-- the bytes mean the tree
abbrev pub Means : List ℕ → Json → Type 0
Means bytes j = IsUtf8 bytes × (option_and_then of_data (read bytes) ≡ Some j)
