-- Tokens spell one typed query of a schema, or have one fault.
use Rattle.std.proofs.Common.{◌≡◌, ◌≢◌, List, ap, ◌∙◌}
use Rattle.qc_lex.specs.declared.token.Placed.{Placed}
use Rattle.qc_types.specs.declared.ty.Ty.{Ty}
use Rattle.qc_types.specs.Schemas.{SchemaOf}
use Rattle.qc_oql_tree.specs.declared.tree.Query.{Query}
use Rattle.qc_oql_tree.specs.Grammar as grammar
use Rattle.qc_oql_tree.specs.Typing.{query_type}
use Rattle.qc_source.specs.declared.fault.QueryFault.{QueryFault}
use Rattle.qc_source.specs.declared.fault.QueryFault.TheVariants.{Memory}
use Rattle.qc_source.proofs.QueryLaws as laws
use Rattle.qc_oql.specs.declared.reading.TypedQuery.{TypedQuery}
use Rattle.qc_oql.specs.Queries.{IsQuery, IsFault}

abbrev with_type : Query → Ty → TypedQuery
with_type query ty = record { query = query; ty = ty }

module _ (schema : SchemaOf) (words : List Placed) where
  pub one_query : (a b : TypedQuery) → IsQuery schema words a → IsQuery schema words b → a ≡ b
  one_query a b p q =
      let one = laws.one_query grammar.Query query_type schema words a.query b.query a.ty b.ty p q in
      ap (λ (query : Query). with_type query a.ty) one.0 ∙ ap (λ (ty : Ty). with_type b.query ty) one.1

  pub no_fault : (a : TypedQuery) (f : QueryFault) → IsQuery schema words a → IsFault schema words f → f ≡ Memory
  no_fault a f p u = laws.no_fault grammar.Query query_type schema words a.query a.ty f p u

  pub one_fault : (f g : QueryFault) → f ≢ Memory → g ≢ Memory → IsFault schema words f → IsFault schema words g
      → f ≡ g
  one_fault f g m n u v = laws.one_fault grammar.Query query_type schema words f g m n u v
