-- Stages: the trees that a query becomes on its way.
use Rattle.std.specs.Prelude.{◌≡◌, ◌≤◌, ℕ, List, [], Option, Some, None, Ok, IsTrue}
use Rattle.qc_data.specs.declared.data.Datum.TheVariants.{Rec, Unit as Nothing}
use Rattle.qc_data.specs.declared.data.Json.{Json}
use Rattle.qc_data.specs.Encoding.{enc, encoded}
use Rattle.qc_data.specs.Outcome.{IsKept, Mode, Outcome}
use Rattle.qc_lang.specs.Keeping.{IsOf}
use Rattle.qc_types.specs.Schemas.{SchemaOf, WorldOf}
use Rattle.qc_oql_tree.specs.Meaning.{query}
use Rattle.qc_oql_tree.specs.Sizes.{query_size}
use Rattle.qc_oql_tree.specs.Typing.{query_type}
use Rattle.qc_nra.specs.Meaning.{nra}
use Rattle.qc_nra.specs.Sizes as nra_sizes
use Rattle.qc_nra.specs.Spelling as nra_texts
use Rattle.qc_nnrc.specs.Free.{IsClosed}
use Rattle.qc_nnrc.specs.Meaning.{nnrc}
use Rattle.qc_nnrc.specs.Sizes as nnrc_sizes
use Rattle.qc_nnrc.specs.Spelling as nnrc_texts
use Rattle.qc_nnrs.specs.Meaning.{nnrs}
use Rattle.qc_nnrs.specs.Sizes as nnrs_sizes
use Rattle.qc_nnrs.specs.Spelling as nnrs_texts
use Rattle.qc_nnrs.specs.WellFormed as nnrs_rules
use Rattle.qc_imp.specs.Meaning.{imp}
use Rattle.qc_imp.specs.Sizes as imp_sizes
use Rattle.qc_imp.specs.Spelling as imp_texts
use Rattle.qc_imp.specs.WellFormed as imp_rules
use Rattle.qc_js.specs.Meaning.{js}
use Rattle.qc_js.specs.WellFormed as js_rules
use Rattle.qc_route.specs.declared.stage.Stage.{Stage}
use Rattle.qc_route.specs.declared.stage.Stage.TheVariants.{Oql, Nraenv, Nnrc, Nnrs, Imp, Js}
use Rattle.qc_route.specs.declared.word.Word.{Word}
use Rattle.qc_route.specs.declared.word.Word.TheVariants as word

-- the word of its language
abbrev pub language : Stage → Word
language (Oql typed) = word.Oql
language (Nraenv tree) = word.Nraenv
language (Nnrc tree) = word.Nnrc
language (Nnrs program) = word.Nnrs
language (Imp program) = word.Imp
language (Js program) = word.Js

-- the JSON that it answers in a world, by mode: the encoding of a tree's datum; a program takes the world's JSON
abbrev pub outcome : Mode → WorldOf → Stage → Outcome Json
outcome m w (Oql typed) = encoded (query m w typed.query)
outcome m w (Nraenv tree) = encoded (nra m w tree Nothing (Rec []))
outcome m w (Nnrc tree) = encoded (nnrc m w tree [])
outcome m w (Nnrs program) = encoded (nnrs m w program)
outcome m w (Imp program) = encoded (imp m w program)
outcome m w (Js program) = js m program (enc w.datum)

-- a query has its type in the schema, a tree has no free variables, a program is well formed
abbrev pub IsGood : SchemaOf → Stage → Type 0
IsGood schema (Oql typed) = query_type schema typed.query ≡ Ok typed.ty
IsGood schema (Nraenv tree) = Unit {0}
IsGood schema (Nnrc tree) = IsClosed tree
IsGood schema (Nnrs program) = IsTrue (nnrs_rules.well_formed program)
IsGood schema (Imp program) = IsTrue (imp_rules.well_formed program)
IsGood schema (Js program) = IsTrue (js_rules.well_formed program)

-- it has at most so many nodes; of programs on JSON, which no edge leaves, nothing is said
abbrev pub AtMost : ℕ → Stage → Type 0
AtMost n (Oql typed) = query_size typed.query ≤ n
AtMost n (Nraenv tree) = nra_sizes.size tree ≤ n
AtMost n (Nnrc tree) = nnrc_sizes.size tree ≤ n
AtMost n (Nnrs program) = nnrs_sizes.size program ≤ n
AtMost n (Imp program) = imp_sizes.size program ≤ n
AtMost n (Js program) = Unit {0}

-- in each mode and each world of the schema, what a stage answers is what the other answers: the same JSON
pub record Keeps (schema : SchemaOf) (first second : Stage) : Type 0 where
  pub kept : (m : Mode) (w : WorldOf) → IsOf schema w → IsKept (outcome m w first) (outcome m w second)

-- the written form of a tree of the compiler
abbrev pub spelling : Stage → Option (List ℕ)
spelling (Nraenv tree) = Some (nra_texts.spelling tree)
spelling (Nnrc tree) = Some (nnrc_texts.spelling tree)
spelling (Nnrs program) = Some (nnrs_texts.spelling program)
spelling (Imp program) = Some (imp_texts.spelling program)
spelling _ = None
