-- What the texts of a job mean: a schema, a query, a script and an input, and why not.
use Rattle.std.specs.Prelude.{◌≡◌, ◌≢◌, ℕ, List, Err}
use Rattle.qc_data.specs.declared.data.Datum.{Datum}
use Rattle.qc_data.specs.declared.data.Json.{Json}
use Rattle.qc_js.specs.declared.tree.Program.{Program}
use Rattle.qc_js_text.specs.declared.fault.JsFault.TheVariants as script
use Rattle.qc_js_text.specs.Reading.{Answers, IsRead}
use Rattle.qc_lex.specs.declared.token.Placed.{Placed}
use Rattle.qc_types.specs.Schemas.{SchemaOf, WorldOf}
use Rattle.qc_schema.specs.Inputs.{MeansWorld}
use Rattle.qc_schema.specs.JsonReading.{Means}
use Rattle.qc_schema.specs.SchemaFile.{MeansSchema}
use Rattle.qc_source.specs.declared.fault.QueryFault.TheVariants as fault
use Rattle.qc_source.specs.Queries.{IsScanFault}
use Rattle.qc_work.specs.declared.refusal.Refusal.{Refusal}
use Rattle.qc_work.specs.declared.refusal.Refusal.TheVariants.{BadSchema, BadInput}
use Rattle.qc_work.specs.declared.sources.Source.{Source}
use Rattle.qc_work.specs.Causes.{of_query, of_script}
use Rattle.qc_work.specs.Right.{world_in}
use Rattle.qc_work.specs.Sources.{table_of, IsFault}

-- the text means no schema
abbrev pub IsBadSchema : List ℕ → Refusal → Type 0
IsBadSchema bytes r = (r ≡ BadSchema) × ((schema : SchemaOf) → ¬ MeansSchema bytes schema)

-- it is refused for one of these faults; want of memory is none
abbrev pub IsForFault : {F : Type 0} → (F → Refusal) → F → (F → Type 0) → Refusal → Type 0
IsForFault {F = F} refusal_of memory IsFault r = (f : F) × (f ≢ memory) × IsFault f × (r ≡ refusal_of f)

-- the text is no tokens of the source, or too many
abbrev pub IsBadScan : Source → List ℕ → Refusal → Type 0
IsBadScan source bytes r = IsForFault of_query fault.Memory (IsScanFault (table_of source) bytes) r

-- the tokens spell no query of the schema
abbrev pub IsBadQuery : Source → SchemaOf → List Placed → Refusal → Type 0
IsBadQuery source schema words r = IsForFault of_query fault.Memory (IsFault source schema words) r

-- the text means this world of the schema
pub record IsInput (schema : SchemaOf) (bytes : List ℕ) (world : WorldOf) : Type 0 where
  pub means : MeansWorld bytes schema world.datum
  pub is_world : world ≡ world_in schema world.datum

-- the text means no world of the schema
abbrev pub IsBadInput : SchemaOf → List ℕ → Refusal → Type 0
IsBadInput schema bytes r = (r ≡ BadInput) × ((world : Datum) → ¬ MeansWorld bytes schema world)

-- ---- without a query

-- the text spells this program and no other
abbrev pub IsScript : List ℕ → Program → Type 0
IsScript bytes program = IsRead bytes program

-- the text is no tokens, or they spell no program
abbrev pub IsBadScript : List ℕ → Refusal → Type 0
IsBadScript bytes r = IsForFault of_script script.Memory (λ f. Answers bytes (Err f)) r

-- the text means no JSON tree
abbrev pub IsBadTree : List ℕ → Refusal → Type 0
IsBadTree bytes r = (r ≡ BadInput) × ((tree : Json) → ¬ Means bytes tree)
