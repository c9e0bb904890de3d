-- Faults of the crates below, as refusals.
use Rattle.qc_js_text.specs.declared.fault.JsFault.{JsFault}
use Rattle.qc_js_text.specs.declared.fault.JsFault.TheVariants as script
use Rattle.qc_schema.specs.declared.faults.InputFault.{InputFault}
use Rattle.qc_schema.specs.declared.faults.InputFault.TheVariants as input
use Rattle.qc_schema.specs.declared.faults.SchemaFault.{SchemaFault}
use Rattle.qc_schema.specs.declared.faults.SchemaFault.TheVariants as schema
use Rattle.qc_source.specs.declared.fault.QueryFault.{QueryFault}
use Rattle.qc_source.specs.declared.fault.QueryFault.TheVariants as query
use Rattle.qc_work.specs.declared.refusal.File.TheVariants.{Query, Script}
use Rattle.qc_work.specs.declared.refusal.Refusal.{Refusal}
use Rattle.qc_work.specs.declared.refusal.Refusal.TheVariants.{TooLong, BadSchema, BadScan, TooManyTokens, BadSyntax}
use Rattle.qc_work.specs.declared.refusal.Refusal.TheVariants.{BadType, BadInput, BadJs, Memory}

abbrev pub of_schema : SchemaFault → Refusal
of_schema schema.BadSchema = BadSchema
of_schema schema.Memory = Memory

abbrev pub of_query : QueryFault → Refusal
of_query (query.BadScan at) = BadScan Query at
of_query query.TooManyTokens = TooManyTokens
of_query (query.BadSyntax at) = BadSyntax at
of_query (query.BadType at) = BadType at
of_query query.Memory = Memory

abbrev pub of_input : InputFault → Refusal
of_input input.BadInput = BadInput
of_input input.Memory = Memory

abbrev pub of_script : JsFault → Refusal
of_script script.TooLong = TooLong Script
of_script (script.BadScan at) = BadScan Script at
of_script script.BadJs = BadJs
of_script script.Memory = Memory
