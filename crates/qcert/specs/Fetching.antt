-- The files of a job, read in order: its schema, its query and its input; or its script and its input.
use Rattle.std.specs.Prelude.{ℕ, List, [], ◌∷◌, ◌++◌, Option, Some, None, codes}
use Rattle.qc_data.specs.declared.data.Json.{Json}
use Rattle.qc_js.specs.declared.tree.Program.{Program}
use Rattle.qc_lex.specs.declared.token.Placed.{Placed}
use Rattle.qc_types.specs.Schemas.{SchemaOf, WorldOf}
use Rattle.qc_schema.specs.JsonReading.{Means}
use Rattle.qc_schema.specs.SchemaFile.{MeansSchema}
use Rattle.qc_source.specs.Queries.{IsTokens}
use Rattle.qc_work.specs.declared.refusal.File.TheVariants as file
use Rattle.qc_work.specs.declared.sources.Checked.{Checked}
use Rattle.qc_work.specs.declared.sources.Query.{Query}
use Rattle.qc_work.specs.declared.sources.Source.{Source}
use Rattle.qc_work.specs.Reading.{IsBadSchema, IsBadScan, IsBadQuery, IsInput, IsBadInput}
use Rattle.qc_work.specs.Reading.{IsScript, IsBadScript, IsBadTree}
use Rattle.qc_work.specs.Sources.{table_of, IsQuery}
use Rattle.qc_work.specs.Work as work
use Rattle.qc_work.specs.Work.{Work, IsTextFor, Refuses, IsClear}
use Rattle.qcert.specs.Files.{read_as}
use Rattle.qcert.specs.Jobs.{Subject, Job, Check, Compile, Run, Exec}
use Rattle.qcert.specs.Steps.{Names, Step, firm, pure, then}

-- ---- the schema, from a file or without one

-- a job without a schema's file has the schema without classes and globals
abbrev pub schema_of : Option (List ℕ) → Step SchemaOf
schema_of None = pure (record { classes = []; globals = [] })
schema_of (Some name) = read_as MeansSchema IsBadSchema file.Schema name

-- ---- the query: its tokens, and then what they spell

-- the tokens in the query's file
abbrev pub tokens_in : Source → List ℕ → Step (List Placed)
tokens_in source name = read_as (IsTokens (table_of source)) (IsBadScan source) file.Query name

-- the query of this schema in the file of this name
abbrev pub query_in : Source → SchemaOf → List ℕ → Step Query
query_in source schema name = then (tokens_in source name)
    (λ words. firm (IsQuery source schema words) (IsBadQuery source schema words))

-- a subject's schema, and its query in it
abbrev pub checked_in : Subject → Step Checked
checked_in subject = then (schema_of subject.schema)
    (λ schema. then (query_in subject.source schema subject.query)
    (λ query. pure (record { schema = schema; query = query })))

-- ---- the input, from a file or without one

-- a job without an input's file has the input `{}`
abbrev pub input_of : SchemaOf → Option (List ℕ) → Step WorldOf
input_of schema None = firm (IsInput schema (codes "{}")) (IsBadInput schema (codes "{}"))
input_of schema (Some name) = read_as (IsInput schema) (IsBadInput schema) file.Input name

-- ---- a script, and its input, which need not be a world

-- the program in the file of this name
abbrev pub script_in : List ℕ → Step Program
script_in name = read_as IsScript IsBadScript file.Script name

-- a script without an input's file has the input `{}`
abbrev pub tree_of : Option (List ℕ) → Step Json
tree_of None = firm (Means (codes "{}")) (IsBadTree (codes "{}"))
tree_of (Some name) = read_as Means IsBadTree file.Input name

-- ---- whole jobs

-- the files that a job reads, and what is to be done with them
abbrev pub read : Job → Step Work
read (Check subject) = then (checked_in subject) (λ checked. pure (work.Check checked))
read (Compile subject) = then (checked_in subject) (λ checked. pure (work.Compile checked))
read (Run subject input) = then (checked_in subject)
    (λ checked. then (input_of checked.schema input) (λ world. pure (work.Run checked world)))
read (Exec script input) = then (script_in script)
    (λ program. then (tree_of input) (λ tree. pure (work.Exec program tree)))

-- the name of a file, if there is one
abbrev pub names_of : Option (List ℕ) → Names
names_of None = []
names_of (Some name) = name ∷ []

-- the names of a job's files, in the order in which they are read
abbrev pub files_of : Job → Names
files_of (Check subject) = names_of subject.schema ++ subject.query ∷ []
files_of (Compile subject) = names_of subject.schema ++ subject.query ∷ []
files_of (Run subject input) = (names_of subject.schema ++ subject.query ∷ []) ++ names_of input
files_of (Exec script input) = script ∷ names_of input

-- the text that the work gives where there is no cause to refuse it
abbrev pub act : Work → Step (List ℕ)
act work = firm (λ text. IsTextFor work text × IsClear work) (Refuses work)

-- the files of the job are read, and then the work is done
abbrev pub serve : Job → Step (List ℕ)
serve job = then (read job) act
