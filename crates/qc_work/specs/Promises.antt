-- What the functions of a job's work promise.
use Rattle.std.specs.Prelude.{◌≡◌, ◌⊎◌, ◌≤◌, List, ℕ, Result, Ok, Some, MatchResult}
use Rattle.qc_data.specs.Outcome.{Mode}
use Rattle.qc_lang.specs.Keeping.{IsOf}
use Rattle.qc_oql_tree.specs.Sizes.{query_size}
use Rattle.qc_oql_tree.specs.Typing.{query_type}
use Rattle.qc_types.specs.Schemas.{SchemaOf, WorldOf}
use Rattle.qc_typing.specs.Typed.{IsTyped}
use Rattle.qc_work.specs.declared.refusal.Refusal.{Refusal}
use Rattle.qc_work.specs.declared.refusal.Refusal.TheVariants.{Memory}
use Rattle.qc_work.specs.declared.sources.Query.{Query}
use Rattle.qc_work.specs.declared.sources.Query.TheVariants as query
use Rattle.qc_work.specs.Sources.{meaning_of, type_of}
use Rattle.qc_work.specs.Work.{Work, IsTextFor, Refuses, IsClear}

-- the value is accepted, or it is refused so, or memory was wanting
abbrev pub Computes : {A : Type 0} → (A → Type 0) → (Refusal → Type 0) → Result A Refusal → Type 0
Computes Accepts Refuses result = MatchResult result Accepts (λ r. Refuses r ⊎ (r ≡ Memory))

-- the work was done
abbrev pub Acts : {T : Type 0} → (T → List ℕ) → Work → Result T Refusal → Type 0
Acts bytes work result = Computes (λ text. IsTextFor work (bytes text) × IsClear work) (Refuses work) result

-- the type is the one that the schema gives the query, which has few nodes
abbrev pub IsReady : SchemaOf → Query → Type 0
IsReady schema (query.Oql typed) = (query_type schema typed.query ≡ Ok typed.ty) × (query_size typed.query ≤ 1000)

-- the query has its type: in each world of the schema it has a value of it at any size, and within bounds the same
-- value or Range
pub record HasItsType (schema : SchemaOf) (query : Query) : Type 0 where
  pub values : (w : WorldOf) → IsOf schema w
      → IsTyped schema.classes (Some (type_of query)) (λ (m : Mode). meaning_of query m w)
  pub ready : IsReady schema query
