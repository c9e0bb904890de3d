-- The worlds that bytes mean.
use Rattle.std.specs.Prelude.{◌≡◌, ℕ, List, Some, IsTrue}
use Rattle.qc_data.specs.Decoding.{dec}
use Rattle.qc_data.specs.declared.data.Datum.{Datum}
use Rattle.qc_data.specs.declared.data.Json.{Json}
use Rattle.qc_types.specs.Schemas.{SchemaOf, is_world}
use Rattle.qc_schema.specs.JsonReading.{Means}

-- the bytes mean a tree, the tree encodes the datum, and the datum is a world of the schema
abbrev pub MeansWorld : List ℕ → SchemaOf → Datum → Type 0
MeansWorld bytes s d = (j : Json) × Means bytes j × (dec j ≡ Some d) × IsTrue (is_world s.classes s.globals d)
