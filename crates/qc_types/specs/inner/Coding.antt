-- How classes, schemas and worlds are told apart: as the tuples of their parts.
use Rattle.std.specs.Prelude.{ℕ, List, Option, refl}
use Rattle.std.specs.Coded.{Coded, code_by, coded×, coded_list, coded_ℕ, coded_option}
use Rattle.qc_data.specs.declared.data.Datum.{Datum}
use Rattle.qc_data.specs.contracts.data.Datum as datum
use Rattle.qc_types.specs.declared.ty.ClassDef.{ClassDef}
use Rattle.qc_types.specs.declared.ty.Ty.{Ty}
use Rattle.qc_types.specs.contracts.ty.Ty as ty
use Rattle.qc_types.specs.Schemas.{SchemaOf, WorldOf}

-- a name by its bytes
abbrev name_code : Coded (List ℕ)
name_code = coded_list coded_ℕ

-- a class by its name, its parent and its shape
abbrev class_code : Coded ClassDef
class_code =
    code_by (List ℕ × (Option (List ℕ) × Ty)) (coded× name_code (coded× (coded_option name_code) ty.the_row.coded))
    (λ d. (d.name, (d.parent, d.shape))) (λ p. record { name = p.0; parent = p.1.0; shape = p.1.1 }) (λ _. refl)

-- classes in order
abbrev pub classes_code : Coded (List ClassDef)
classes_code = coded_list class_code

-- globals by their names and types
abbrev globals_code : Coded (List (List ℕ × Ty))
globals_code = coded_list (coded× name_code ty.the_row.coded)

-- a schema by its classes and its globals
abbrev pub schema_code : Coded SchemaOf
schema_code =
    code_by (List ClassDef × List (List ℕ × Ty)) (coded× classes_code globals_code) (λ s. (s.classes, s.globals))
    (λ p. record { classes = p.0; globals = p.1 }) (λ _. refl)

-- a world by its classes, its globals and its datum
abbrev pub world_code : Coded WorldOf
world_code =
    code_by (List ClassDef × (List (List ℕ × Ty) × Datum))
    (coded× classes_code (coded× globals_code datum.the_row.coded)) (λ w. (w.classes, (w.globals, w.datum)))
    (λ p. record { classes = p.0; globals = p.1.0; datum = p.1.1 }) (λ _. refl)
