-- When a program on JSON answers as one over imp.
use Rattle.std.specs.Prelude.{◌≡◌}
use Rattle.qc_data.specs.Encoding.{enc, encoded}
use Rattle.qc_data.specs.Outcome.{Mode}
use Rattle.qc_lang.specs.Keeping.{IsOf}
use Rattle.qc_types.specs.Schemas.{SchemaOf, WorldOf}
use Rattle.qc_imp.specs.declared.tree.Imp.{Imp}
use Rattle.qc_imp.specs.Meaning.{imp}
use Rattle.qc_js.specs.declared.tree.Program.{Program}
use Rattle.qc_js.specs.Meaning.{js}

-- in each mode, on the JSON of each world of the schema, the program has the outcome of the other, encoded
pub record AnswersAs (schema : SchemaOf) (p : Imp) (made : Program) : Type 0 where
  pub answers : (m : Mode) (w : WorldOf) → IsOf schema w → js m made (enc w.datum) ≡ encoded (imp m w p)
