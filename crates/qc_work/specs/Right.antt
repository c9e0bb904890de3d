-- When a text is right for what a query means.
use Rattle.std.specs.Prelude.{◌≡◌, ◌⊎◌, ℕ, List, IsTrue}
use Rattle.qc_data.specs.declared.data.Datum.{Datum}
use Rattle.qc_data.specs.Encoding.{enc}
use Rattle.qc_data.specs.Outcome.{Mode, any_size, Outcome, Value, Halts, Range}
use Rattle.qc_types.specs.Schemas.{SchemaOf, WorldOf, is_world}
use Rattle.qc_js.specs.declared.tree.Program.{Program}
use Rattle.qc_js.specs.Layout.{layout}
use Rattle.qc_js.specs.Meaning.{js}
use Rattle.qc_js.specs.Spelling.{Spells}

-- what a query means: its outcome, by mode and world
abbrev pub Meaning : Type 0
Meaning = Mode → WorldOf → Outcome Datum

-- the datum is a world of the schema
abbrev pub IsWorld : SchemaOf → Datum → Type 0
IsWorld schema world = IsTrue (is_world schema.classes schema.globals world)

-- the world of a datum
abbrev pub world_in : SchemaOf → Datum → WorldOf
world_in schema world = record { classes = schema.classes; globals = schema.globals; datum = world }

-- the program throws the range error where the query itself leaves the mode's bounds
pub record ThrowsAs (mode : Mode) (means : Meaning) (program : Program) (world : WorldOf) : Type 0 where
  pub leaves : means mode world ≡ Halts Range
  pub throws : js mode program (enc world.datum) ≡ Halts Range

-- on the JSON of this world the program answers the JSON of the query's answer, or throws the range error, and that
-- only where the query itself leaves the mode's bounds
pub record AnswersAs (mode : Mode) (means : Meaning) (program : Program) (world : WorldOf) : Type 0 where
  pub answer : Datum
  pub is_answer : means any_size world ≡ Value answer
  pub agrees : (js mode program (enc world.datum) ≡ Value (enc answer)) ⊎ ThrowsAs mode means program world

-- the text is the one layout of a program, which it spells and no other, and the program answers as the query does in
-- every world of the schema
pub record IsRight (mode : Mode) (schema : SchemaOf) (means : Meaning) (text : List ℕ) : Type 0 where
  pub program : Program
  pub is_layout : text ≡ layout program
  pub spells : Spells text program
  pub only : (other : Program) → Spells text other → other ≡ program
  pub each : (world : Datum) → IsWorld schema world → AnswersAs mode means program (world_in schema world)
