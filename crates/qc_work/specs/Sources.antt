-- Source languages behind one face, a row each: the table of its tokens, which query tokens spell, what it means, and
-- where its way through the compiler begins.
use Rattle.std.specs.Prelude.{List}
use Rattle.qc_data.specs.declared.data.Datum.{Datum}
use Rattle.qc_data.specs.Outcome.{Mode, Outcome}
use Rattle.qc_lex.specs.declared.token.Placed.{Placed}
use Rattle.qc_lex.specs.declared.token.Table.{Table}
use Rattle.qc_lex.specs.declared.token.Table.TheVariants as table
use Rattle.qc_types.specs.declared.ty.Ty.{Ty}
use Rattle.qc_types.specs.Schemas.{SchemaOf, WorldOf}
use Rattle.qc_source.specs.declared.fault.QueryFault.{QueryFault}
use Rattle.qc_oql.specs.Queries as oql
use Rattle.qc_oql_tree.specs.Meaning as oql_meaning
use Rattle.qc_route.specs.declared.stage.Stage.{Stage}
use Rattle.qc_route.specs.declared.stage.Stage.TheVariants as stage
use Rattle.qc_work.specs.declared.sources.Query.{Query}
use Rattle.qc_work.specs.declared.sources.Query.TheVariants as query
use Rattle.qc_work.specs.declared.sources.Source.{Source}
use Rattle.qc_work.specs.declared.sources.Source.TheVariants as source

-- the table of its tokens
abbrev pub table_of : Source → Table
table_of source.Oql = table.Oql

-- the tokens spell this query and no other, and it has its type in the schema
abbrev pub IsQuery : Source → SchemaOf → List Placed → Query → Type 0
IsQuery source.Oql schema words (query.Oql typed) = oql.IsQuery schema words typed

-- why the tokens spell no query of the schema; want of memory needs no cause
abbrev pub IsFault : Source → SchemaOf → List Placed → QueryFault → Type 0
IsFault source.Oql schema words fault = oql.IsFault schema words fault

-- the type of the query's answers
abbrev pub type_of : Query → Ty
type_of (query.Oql typed) = typed.ty

-- the query's outcome, by mode and world
abbrev pub meaning_of : Query → Mode → WorldOf → Outcome Datum
meaning_of (query.Oql typed) mode world = oql_meaning.query mode world typed.query

-- the query as the first stage of its way
abbrev pub stage_of : Query → Stage
stage_of (query.Oql typed) = stage.Oql typed
