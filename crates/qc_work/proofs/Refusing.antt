-- Faults of the crates below, as causes to refuse.
use Rattle.std.proofs.Common.{◌≡◌, ◌⊎◌, inl, inr, refl, ap, ◌∙◌, ℕ, List, Err}
use Rattle.qc_data.specs.declared.data.Datum.{Datum}
use Rattle.qc_data.specs.declared.data.Json.{Json}
use Rattle.qc_js_text.specs.declared.fault.JsFault.{JsFault}
use Rattle.qc_js_text.specs.declared.fault.JsFault.TheVariants as script
use Rattle.qc_js_text.specs.Reading.{Answers}
use Rattle.qc_types.specs.Classes.{Defs}
use Rattle.qc_types.specs.declared.ty.Ty.{Ty}
use Rattle.qc_types.specs.Schemas.{SchemaOf, WorldOf}
use Rattle.qc_schema.specs.Inputs.{MeansWorld}
use Rattle.qc_schema.specs.JsonReading.{Means}
use Rattle.qc_schema.specs.SchemaFile.{MeansSchema}
use Rattle.qc_schema.specs.declared.faults.InputFault.{InputFault}
use Rattle.qc_schema.specs.declared.faults.InputFault.TheVariants as input
use Rattle.qc_schema.specs.declared.faults.SchemaFault.{SchemaFault}
use Rattle.qc_schema.specs.declared.faults.SchemaFault.TheVariants as schemas
use Rattle.qc_source.specs.declared.fault.QueryFault.{QueryFault}
use Rattle.qc_source.specs.declared.fault.QueryFault.TheVariants as queries
use Rattle.qc_work.specs.declared.refusal.Refusal.TheVariants.{Memory}
use Rattle.qc_work.specs.Causes.{of_schema, of_query, of_input, of_script}
use Rattle.qc_work.specs.Reading.{IsBadSchema, IsForFault, IsInput, IsBadInput, IsBadTree, IsBadScript}

module _ (bytes : List ℕ) where
  pub schema_refused : (f : SchemaFault) → (f ≡ schemas.BadSchema → (s : SchemaOf) → ¬ MeansSchema bytes s)
      → IsBadSchema bytes (of_schema f) ⊎ (of_schema f ≡ Memory)
  schema_refused schemas.BadSchema bad = inl (refl, bad refl)
  schema_refused schemas.Memory bad = inr refl

  pub input_refused : (schema : SchemaOf) (f : InputFault)
      → (f ≡ input.BadInput → (d : Datum) → ¬ MeansWorld bytes schema d)
      → IsBadInput schema bytes (of_input f) ⊎ (of_input f ≡ Memory)
  input_refused schema input.BadInput bad = inl (refl, bad refl)
  input_refused schema input.Memory bad = inr refl

  pub tree_refused : (f : InputFault) → (f ≡ input.BadInput → (j : Json) → ¬ Means bytes j)
      → IsBadTree bytes (of_input f) ⊎ (of_input f ≡ Memory)
  tree_refused input.BadInput bad = inl (refl, bad refl)
  tree_refused input.Memory bad = inr refl

  -- a fault of a script is a cause, but for want of memory
  pub script_refused : (f : JsFault) → Answers bytes (Err f)
      → IsBadScript bytes (of_script f) ⊎ (of_script f ≡ Memory)
  script_refused script.TooLong u = inl (script.TooLong, (λ e. cc), u, refl)
  script_refused (script.BadScan at) u = inl (script.BadScan at, (λ e. cc), u, refl)
  script_refused script.BadJs u = inl (script.BadJs, (λ e. cc), u, refl)
  script_refused script.Memory u = inr refl

-- a fault of a query is a cause, but for want of memory
pub query_refused : (IsFault : QueryFault → Type 0) (f : QueryFault) → IsFault f
    → IsForFault of_query queries.Memory IsFault (of_query f) ⊎ (of_query f ≡ Memory)
query_refused IsFault (queries.BadScan at) u = inl (queries.BadScan at, (λ e. cc), u, refl)
query_refused IsFault queries.TooManyTokens u = inl (queries.TooManyTokens, (λ e. cc), u, refl)
query_refused IsFault (queries.BadSyntax at) u = inl (queries.BadSyntax at, (λ e. cc), u, refl)
query_refused IsFault (queries.BadType at) u = inl (queries.BadType at, (λ e. cc), u, refl)
query_refused IsFault queries.Memory u = inr refl

abbrev world : Defs → List (List ℕ × Ty) → Datum → WorldOf
world classes globals datum = record { classes = classes; globals = globals; datum = datum }

-- a world of the schema's classes and globals
pub is_input : (schema : SchemaOf) (bytes : List ℕ) (w : WorldOf) → MeansWorld bytes schema w.datum
    → w.classes ≡ schema.classes → w.globals ≡ schema.globals
    → IsInput schema bytes w
is_input schema bytes w means e f = record {
  means = means;
  is_world =
      ap (λ (c : Defs). world c w.globals w.datum) e
      ∙ ap (λ (g : List (List ℕ × Ty)). world schema.classes g w.datum) f;
}
