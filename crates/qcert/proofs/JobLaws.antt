-- The laws of jobs, where texts are told: each reads one work or is refused for one reason, and so is its work.
use Rattle.std.proofs.Common.{◌≡◌, ◌≢◌, ◌⊎◌, inl, inr, sym, ◌∙◌, ap, ℕ, List, [], ◌∷◌, ◌++◌, Option, Some, None, Err}
use Rattle.std.proofs.Common.{codes}
use Rattle.qc_data.specs.Decoding.{dec}
use Rattle.qc_data.specs.declared.data.Datum.{Datum}
use Rattle.qc_data.specs.declared.data.Json.{Json}
use Rattle.qc_data.specs.Outcome.{Outcome, Halts, Range, Stuck, bits64}
use Rattle.qc_io.specs.Device.{Texts}
use Rattle.qc_js.specs.declared.tree.Program.{Program}
use Rattle.qc_js.specs.Meaning.{js}
use Rattle.qc_js_text.specs.declared.fault.JsFault.TheVariants as script
use Rattle.qc_js_text.specs.Reading.{Answers}
use Rattle.qc_js_text.proofs.FaultLaws as js_text
use Rattle.qc_lang.specs.Keeping.{IsOf}
use Rattle.qc_types.specs.Schemas.{SchemaOf, WorldOf}
use Rattle.qc_schema.specs.Inputs.{MeansWorld}
use Rattle.qc_schema.specs.JsonReading.{Means}
use Rattle.qc_schema.specs.SchemaFile.{MeansSchema, schema_of as meant_schema}
use Rattle.qc_lex.specs.declared.token.Placed.{Placed}
use Rattle.qc_oql.specs.declared.reading.TypedQuery.{TypedQuery}
use Rattle.qc_oql.proofs.QueryLaws as oql
use Rattle.qc_source.specs.declared.fault.QueryFault.{QueryFault}
use Rattle.qc_source.specs.declared.fault.QueryFault.TheVariants as fault
use Rattle.qc_source.specs.Queries.{IsTokens, IsScanFault}
use Rattle.qc_source.proofs.ScanLaws.{one_list, no_scan_fault, one_scan_fault}
use Rattle.qc_work.specs.declared.refusal.File.TheVariants as file
use Rattle.qc_work.specs.declared.refusal.Refusal.{Refusal}
use Rattle.qc_work.specs.declared.refusal.Refusal.TheVariants.{Memory}
use Rattle.qc_work.specs.declared.sources.Checked.{Checked}
use Rattle.qc_work.specs.declared.sources.Query.{Query}
use Rattle.qc_work.specs.declared.sources.Query.TheVariants as query
use Rattle.qc_work.specs.declared.sources.Source.{Source}
use Rattle.qc_work.specs.declared.sources.Source.TheVariants as source
use Rattle.qc_work.specs.Causes.{of_query, of_script}
use Rattle.qc_work.specs.Reading.{IsBadSchema, IsForFault, IsBadScan, IsBadQuery, IsInput, IsBadInput}
use Rattle.qc_work.specs.Reading.{IsScript, IsBadScript, IsBadTree}
use Rattle.qc_work.specs.Right.{world_in}
use Rattle.qc_work.specs.Sources.{table_of, IsQuery, IsFault}
use Rattle.qc_work.specs.Work as work
use Rattle.qc_work.specs.Work.{Work, IsTextFor, Refuses, IsClear}
use Rattle.qcert.specs.Jobs.{Subject, Job, Check, Compile, Run, Exec}
use Rattle.qcert.specs.Fetching.{schema_of, tokens_in, query_in, checked_in, input_of, script_in, tree_of, read}
use Rattle.qcert.specs.Fetching.{names_of}
use Rattle.qcert.specs.Fetching.{files_of, act, serve}
use Rattle.qcert.specs.Steps.{Names, firm, pure, then}
use Rattle.qcert.proofs.StepLaws.{Lawful, Good, IsPartial, firm_lawful, firm_good, pure_good, read_good, then_good}
use Rattle.qcert.proofs.StepLaws.{then_lawful, AsksFor, firm_asks, pure_asks, read_asks, then_asks, then_nothing}

-- ---- what bytes mean

one_tree : (bytes : List ℕ) (j k : Json) → Means bytes j → Means bytes k → j ≡ k
one_tree bytes j k a b =
    let one : Some j ≡ Some k = sym a.1 ∙ b.1 in
    cc

one_schema : (bytes : List ℕ) (s t : SchemaOf) → MeansSchema bytes s → MeansSchema bytes t → s ≡ t
one_schema bytes s t a b =
    let one : Some s ≡ Some t = sym a.2 ∙ ap meant_schema (one_tree bytes a.0 b.0 a.1 b.1) ∙ b.2 in
    cc

one_world : (schema : SchemaOf) (bytes : List ℕ) (d e : Datum) → MeansWorld bytes schema d → MeansWorld bytes schema e
    → d ≡ e
one_world schema bytes d e a b =
    let one : Some d ≡ Some e = sym a.2 ∙ ap dec (one_tree bytes a.0 b.0 a.1 b.1) ∙ b.2 in
    cc

schema_partial : (bytes : List ℕ) → IsPartial (MeansSchema bytes) (IsBadSchema bytes)
schema_partial bytes = record {
  one_value = one_schema bytes;
  one_fault = λ r q u v. v.0 ∙ sym u.0;
  apart = λ s r m u. u.1 s m;
}

input_partial : (schema : SchemaOf) (bytes : List ℕ) → IsPartial (IsInput schema bytes) (IsBadInput schema bytes)
input_partial schema bytes = record {
  one_value =
      λ v w a b. a.is_world ∙ ap (world_in schema) (one_world schema bytes v.datum w.datum a.means b.means)
      ∙ sym b.is_world;
  one_fault = λ r q u v. v.0 ∙ sym u.0;
  apart = λ w r m u. u.1 w.datum m.means;
}

tree_partial : (bytes : List ℕ) → IsPartial (Means bytes) (IsBadTree bytes)
tree_partial bytes = record {
  one_value = one_tree bytes;
  one_fault = λ r q u v. v.0 ∙ sym u.0;
  apart = λ j r m u. u.1 j m;
}

-- ---- faults

-- what means one thing, or has one fault but for want of memory, means one thing or is refused for one reason
fault_partial : {A F : Type 0} (of : F → Refusal) (memory : F) (Means : A → Type 0) (IsFault : F → Type 0)
    → ((x y : A) → Means x → Means y → x ≡ y)
    → ((x : A) (f : F) → Means x → IsFault f → f ≡ memory)
    → ((f g : F) → f ≢ memory → g ≢ memory → IsFault f → IsFault g → f ≡ g)
    → IsPartial Means (IsForFault of memory IsFault)
fault_partial of memory Means IsFault one none once = record {
  one_value = one;
  one_fault = λ r q u v. v.3 ∙ ap of (once v.0 u.0 v.1 u.1 v.2 u.2) ∙ sym u.3;
  apart = λ a r p u. u.1 (none a u.0 p u.2);
}

tokens_partial : (s : Source) (bytes : List ℕ) → IsPartial (IsTokens (table_of s) bytes) (IsBadScan s bytes)
tokens_partial s bytes =
    fault_partial of_query fault.Memory (IsTokens (table_of s) bytes) (IsScanFault (table_of s) bytes)
    (one_list (table_of s) bytes) (no_scan_fault (table_of s) bytes) (one_scan_fault (table_of s) bytes)

script_partial : (bytes : List ℕ) → IsPartial (IsScript bytes) (IsBadScript bytes)
script_partial bytes =
    fault_partial of_script script.Memory (IsScript bytes) (λ f. Answers bytes (Err f)) (js_text.one_value bytes)
    (js_text.no_fault bytes) (js_text.one_fault bytes)

-- ---- sources: three lines for each

one_query : (s : Source) (schema : SchemaOf) (words : List Placed) (a b : Query) → IsQuery s schema words a
    → IsQuery s schema words b → a ≡ b
one_query source.Oql schema words (query.Oql a) (query.Oql b) p q =
    ap (λ (t : TypedQuery). query.Oql t) (oql.one_query schema words a b p q)

no_fault : (s : Source) (schema : SchemaOf) (words : List Placed) (a : Query) (f : QueryFault)
    → IsQuery s schema words a → IsFault s schema words f → f ≡ fault.Memory
no_fault source.Oql schema words (query.Oql a) f p u = oql.no_fault schema words a f p u

one_fault : (s : Source) (schema : SchemaOf) (words : List Placed) (f g : QueryFault) → f ≢ fault.Memory
    → g ≢ fault.Memory → IsFault s schema words f → IsFault s schema words g → f ≡ g
one_fault source.Oql schema words f g m n u v = oql.one_fault schema words f g m n u v

query_partial : (s : Source) (schema : SchemaOf) (words : List Placed)
    → IsPartial (IsQuery s schema words) (IsBadQuery s schema words)
query_partial s schema words =
    fault_partial of_query fault.Memory (IsQuery s schema words) (IsFault s schema words) (one_query s schema words)
    (no_fault s schema words) (one_fault s schema words)

-- an input is a world of its schema
input_world : (schema : SchemaOf) (bytes : List ℕ) (w : WorldOf) → IsInput schema bytes w → IsOf schema w
input_world schema bytes w a = record {
  classes = ap (λ (x : WorldOf). x.classes) a.is_world;
  globals = ap (λ (x : WorldOf). x.globals) a.is_world;
  datum = a.means.3;
}

pub input_of_schema : (schema : SchemaOf) (name : Option (List ℕ)) (texts : Option Texts) (w : WorldOf)
    → (input_of schema name).accepts texts w → IsOf schema w
input_of_schema schema None texts w a = input_world schema (codes "{}") w a
input_of_schema schema (Some name) texts w a = input_world schema a.0 w a.2

-- ---- the files of jobs

abbrev checked : SchemaOf → Query → Checked
checked schema q = record { schema = schema; query = q }

module _ (t : Texts) where
  schema_good : (name : Option (List ℕ)) → Good t (schema_of name)
  schema_good None = pure_good t (record { classes = []; globals = [] })
  schema_good (Some name) = read_good t file.Schema name schema_partial

  query_in_good : (s : Source) (schema : SchemaOf) (name : List ℕ) → Good t (query_in s schema name)
  query_in_good s schema name =
      then_good (λ words. firm (IsQuery s schema words) (IsBadQuery s schema words))
      (read_good t file.Query name (tokens_partial s))
      (λ words a. firm_good t (IsQuery s schema words) (IsBadQuery s schema words) (query_partial s schema words))

  checked_good : (s : Subject) → Good t (checked_in s)
  checked_good s =
      then_good (λ (schema : SchemaOf). then (query_in s.source schema s.query)
      (λ (q : Query). pure (checked schema q)))
      (schema_good s.schema)
      (λ schema a. then_good (λ (q : Query). pure (checked schema q)) (query_in_good s.source schema s.query)
      (λ q b. pure_good t (checked schema q)))

  input_good : (schema : SchemaOf) (name : Option (List ℕ)) → Good t (input_of schema name)
  input_good schema None =
      firm_good t (IsInput schema (codes "{}")) (IsBadInput schema (codes "{}")) (input_partial schema (codes "{}"))
  input_good schema (Some name) = read_good t file.Input name (input_partial schema)

  tree_good : (name : Option (List ℕ)) → Good t (tree_of name)
  tree_good None = firm_good t (Means (codes "{}")) (IsBadTree (codes "{}")) (tree_partial (codes "{}"))
  tree_good (Some name) = read_good t file.Input name tree_partial

  -- a line a job
  pub reads_good : (job : Job) → Good t (read job)
  reads_good (Check s) = then_good (λ c. pure (work.Check c)) (checked_good s) (λ c a. pure_good t (work.Check c))
  reads_good (Compile s) = then_good (λ c. pure (work.Compile c)) (checked_good s) (λ c a. pure_good t (work.Compile c))
  reads_good (Run s i) =
      then_good (λ (c : Checked). then (input_of c.schema i) (λ (w : WorldOf). pure (work.Run c w))) (checked_good s)
      (λ c a. then_good (λ (w : WorldOf). pure (work.Run c w)) (input_good c.schema i)
      (λ w b. pure_good t (work.Run c w)))
  reads_good (Exec s i) =
      then_good (λ (p : Program). then (tree_of i) (λ (j : Json). pure (work.Exec p j)))
      (read_good t file.Script s script_partial)
      (λ p a. then_good (λ (j : Json). pure (work.Exec p j)) (tree_good i) (λ j b. pure_good t (work.Exec p j)))

-- ---- the names of the files of jobs

schema_asks : (name : Option (List ℕ)) → AsksFor (schema_of name) (names_of name)
schema_asks None = pure_asks (record { classes = []; globals = [] })
schema_asks (Some name) = read_asks MeansSchema IsBadSchema file.Schema name

query_in_asks : (s : Source) (schema : SchemaOf) (name : List ℕ) → AsksFor (query_in s schema name) (name ∷ [])
query_in_asks s schema name =
    then_nothing (tokens_in s name) (λ words. firm (IsQuery s schema words) (IsBadQuery s schema words)) (name ∷ [])
    (read_asks (IsTokens (table_of s)) (IsBadScan s) file.Query name)
    (λ words. firm_asks (IsQuery s schema words) (IsBadQuery s schema words))

checked_asks : (s : Subject) → AsksFor (checked_in s) (names_of s.schema ++ s.query ∷ [])
checked_asks s =
    then_asks (schema_of s.schema)
    (λ (schema : SchemaOf). then (query_in s.source schema s.query) (λ (q : Query). pure (checked schema q)))
    (names_of s.schema) (s.query ∷ []) (schema_asks s.schema)
    (λ schema. then_nothing (query_in s.source schema s.query) (λ (q : Query). pure (checked schema q)) (s.query ∷ [])
    (query_in_asks s.source schema s.query) (λ q. pure_asks (checked schema q)))

input_asks : (schema : SchemaOf) (name : Option (List ℕ)) → AsksFor (input_of schema name) (names_of name)
input_asks schema None = firm_asks (IsInput schema (codes "{}")) (IsBadInput schema (codes "{}"))
input_asks schema (Some name) = read_asks (IsInput schema) (IsBadInput schema) file.Input name

tree_asks : (name : Option (List ℕ)) → AsksFor (tree_of name) (names_of name)
tree_asks None = firm_asks (Means (codes "{}")) (IsBadTree (codes "{}"))
tree_asks (Some name) = read_asks Means IsBadTree file.Input name

-- a line a job
reads_asks : (job : Job) → AsksFor (read job) (files_of job)
reads_asks (Check s) =
    then_nothing (checked_in s) (λ c. pure (work.Check c)) (files_of (Check s)) (checked_asks s)
    (λ c. pure_asks (work.Check c))
reads_asks (Compile s) =
    then_nothing (checked_in s) (λ c. pure (work.Compile c)) (files_of (Compile s)) (checked_asks s)
    (λ c. pure_asks (work.Compile c))
reads_asks (Run s i) =
    then_asks (checked_in s) (λ (c : Checked). then (input_of c.schema i) (λ (w : WorldOf). pure (work.Run c w)))
    (names_of s.schema ++ s.query ∷ []) (names_of i) (checked_asks s)
    (λ c. then_nothing (input_of c.schema i) (λ (w : WorldOf). pure (work.Run c w)) (names_of i) (input_asks c.schema i)
    (λ w. pure_asks (work.Run c w)))
reads_asks (Exec s i) =
    then_asks (script_in s) (λ (p : Program). then (tree_of i) (λ (j : Json). pure (work.Exec p j))) (s ∷ [])
    (names_of i) (read_asks IsScript IsBadScript file.Script s)
    (λ p. then_nothing (tree_of i) (λ (j : Json). pure (work.Exec p j)) (names_of i) (tree_asks i)
    (λ j. pure_asks (work.Exec p j)))

pub serve_asks : (job : Job) → AsksFor (serve job) (files_of job)
serve_asks job =
    then_nothing (read job) act (files_of job) (reads_asks job)
    (λ w. firm_asks (λ text. IsTextFor w text × IsClear w) (Refuses w))

-- ---- work

-- a program leaves 64 bits or is stuck, and not both
one_halt : (o : Outcome Json) → o ≡ Halts Range → o ≡ Halts Stuck → ⊥
one_halt o range stuck = let clash : Halts Range ≡ Halts Stuck = sym range ∙ stuck in cc

-- a line a work
refused_once : (w : Work) (r q : Refusal) → Refuses w r → Refuses w q → q ≡ r
refused_once (work.Check c) r q u v = absurd u
refused_once (work.Compile c) r q u v = absurd u
refused_once (work.Run c w) r q u v = v.0 ∙ sym u.0
refused_once (work.Exec p j) r q (inl u) (inl v) = v.0 ∙ sym u.0
refused_once (work.Exec p j) r q (inr u) (inr v) = v.0 ∙ sym u.0
refused_once (work.Exec p j) r q (inl u) (inr v) = absurd (one_halt (js bits64 p j) u.1 v.1)
refused_once (work.Exec p j) r q (inr u) (inl v) = absurd (one_halt (js bits64 p j) v.1 u.1)

pub act_lawful : (t : Texts) (w : Work) → Lawful t (act w)
act_lawful t w =
    firm_lawful t (λ text. IsTextFor w text × IsClear w) (Refuses w) (λ text r a u. a.1 r u) (refused_once w)

pub serve_lawful : (t : Texts) (job : Job) → Lawful t (serve job)
serve_lawful t job = then_lawful act (reads_good t job) (λ w a. act_lawful t w)

-- work that there is no cause to refuse is refused for want of memory alone
clear_reason : (w : Work) → IsClear w → (r : Refusal) → Refuses w r ⊎ ⊥ ⊎ (r ≡ Memory) → r ≡ Memory
clear_reason w clear r (inl u) = absurd (clear r u)
clear_reason w clear r (inr (inl u)) = absurd u
clear_reason w clear r (inr (inr e)) = e

pub clear_work : (w : Work) → IsClear w → (t : Option Texts) (failed : Type 0) (r : Refusal) (names : Names)
    → (act w).may t failed r names → r ≡ Memory
clear_work w clear t failed r names u = clear_reason w clear r u.0
