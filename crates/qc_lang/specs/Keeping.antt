-- The worlds of a schema, and when one tree keeps the values of another.
use Rattle.std.specs.Prelude.{◌≡◌, IsTrue}
use Rattle.qc_data.specs.declared.data.Datum.{Datum}
use Rattle.qc_data.specs.Outcome.{IsKept, Mode, Outcome}
use Rattle.qc_types.specs.Schemas.{SchemaOf, WorldOf, is_world}

-- the world has the classes and the globals of the schema, and a datum of theirs
pub record IsOf (schema : SchemaOf) (world : WorldOf) : Type 0 where
  pub classes : world.classes ≡ schema.classes
  pub globals : world.globals ≡ schema.globals
  pub datum : IsTrue (is_world schema.classes schema.globals world.datum)

-- in each mode and each world of the schema, a value of the first is the second's: the same tree, list order included
pub record Keeps (schema : SchemaOf) (first second : Mode → WorldOf → Outcome Datum) : Type 0 where
  pub kept : (m : Mode) (w : WorldOf) → IsOf schema w → IsKept (first m w) (second m w)
