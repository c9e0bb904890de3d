-- Which query of a schema tokens spell, and which fault there is where they spell none.
use Rattle.std.specs.Prelude.{List, Result, Ok, Err}
use Rattle.qc_lex.specs.declared.token.Placed.{Placed}
use Rattle.qc_types.specs.Schemas.{SchemaOf}
use Rattle.qc_oql_tree.specs.Grammar as grammar
use Rattle.qc_oql_tree.specs.Typing.{query_type}
use Rattle.qc_source.specs.declared.fault.QueryFault.{QueryFault}
use Rattle.qc_source.specs.Queries as source
use Rattle.qc_oql.specs.declared.reading.TypedQuery.{TypedQuery}

-- the tokens spell this query and no other, and it has its type in the schema
abbrev pub IsQuery : SchemaOf → List Placed → TypedQuery → Type 0
IsQuery schema words typed = source.IsQuery grammar.Query query_type schema words typed.query typed.ty

-- why the tokens spell no query of the schema; want of memory needs no cause
abbrev pub IsFault : SchemaOf → List Placed → QueryFault → Type 0
IsFault schema words fault = source.IsFault grammar.Query query_type schema words fault

-- the query that the tokens spell with its type, or a fault
abbrev pub Answers : SchemaOf → List Placed → Result TypedQuery QueryFault → Type 0
Answers schema words (Ok typed) = IsQuery schema words typed
Answers schema words (Err fault) = IsFault schema words fault
