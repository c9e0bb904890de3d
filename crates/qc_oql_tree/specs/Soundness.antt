-- When a type is right for a query.
use Rattle.std.specs.Prelude.{Some}
use Rattle.qc_types.specs.declared.ty.Ty.{Ty}
use Rattle.qc_types.specs.Schemas.{SchemaOf, WorldOf}
use Rattle.qc_lang.specs.Keeping.{IsOf}
use Rattle.qc_typing.specs.Typed.{IsTyped}
use Rattle.qc_oql_tree.specs.declared.tree.Query.{Query}
use Rattle.qc_oql_tree.specs.Meaning.{query}

-- in each world of the schema the query has a value of the type at any size, and within bounds the same value or Range
abbrev pub IsSound : SchemaOf → Query → Ty → Type 0
IsSound schema q t = (w : WorldOf) → IsOf schema w → IsTyped schema.classes (Some t) (λ m. query m w q)
