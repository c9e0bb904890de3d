-- The types that calls answer are those of the queries' values.
use Rattle.std.proofs.Common.{◌≡◌, IsTrue}
use Rattle.std.specs.Prelude.{Some, Result, Ok, Err, IfOk}
use Rattle.qc_types.specs.declared.ty.Ty.{Ty}
use Rattle.qc_types.specs.Schemas.{SchemaOf, WorldOf, good_classes}
use Rattle.qc_lang.specs.Keeping.{IsOf}
use Rattle.qc_oql_tree.specs.declared.tree.Query.{Query}
use Rattle.qc_typing.specs.Checking.{Checks}
use Rattle.qc_typing.specs.Typed.{IsTyped}
use Rattle.qc_typing.specs.declared.fault.TypeFault.{TypeFault}
use Rattle.qc_oql_tree.specs.Meaning.{query}
use Rattle.qc_oql_tree.specs.Typing.{query_type}
use Rattle.qc_oql_check.proofs.Sound.{query_sound}

-- in each world of the schema
pub sound_in : (schema : SchemaOf) → IsTrue (good_classes schema.classes) → (q : Query) (t : Ty)
    → query_type schema q ≡ Ok t → (w : WorldOf) → IsOf schema w → IsTyped schema.classes (Some t) (λ m. query m w q)
sound_in schema good q t e w is = query_sound schema q t e good w is.classes is.globals is.datum

-- the same of a call that answers a type or a fault
pub answered : (schema : SchemaOf) → IsTrue (good_classes schema.classes) → (q : Query) (r : Result Ty TypeFault)
    → Checks (query_type schema q) r → IfOk r
    (λ t. (w : WorldOf) → IsOf schema w → IsTyped schema.classes (Some t) (λ m. query m w q))
answered schema good q (Ok t) e = sound_in schema good q t e
answered schema good q (Err x) e = tt
