-- The layout of a query's program is right for the query.
use Rattle.std.proofs.Common.{◌≡◌, ◌⊎◌, ◌^◌, ◌-◌, inl, inr, ◌∙◌, ap, refl, List, ℕ, pos, negsuc, IsTrue}
use Rattle.qc_data.specs.declared.data.Datum.{Datum}
use Rattle.qc_data.specs.Encoding.{enc, encoded}
use Rattle.qc_data.specs.declared.data.Json.{Json}
use Rattle.qc_data.specs.Outcome.{IsKept, Mode, Outcome, Value, Halts, Range, any_size, bits64}
use Rattle.qc_data.proofs.Outcomes.{same_or_range}
use Rattle.qc_lang.specs.Keeping.{IsOf}
use Rattle.qc_types.specs.Schemas.{SchemaOf, WorldOf}
use Rattle.qc_js.specs.declared.tree.Program.{Program}
use Rattle.qc_js.specs.Held.{holds_program}
use Rattle.qc_js.specs.Layout.{layout}
use Rattle.qc_js.specs.Meaning.{js}
use Rattle.qc_js.specs.Spelling.{Spells}
use Rattle.qc_js.specs.WellFormed.{well_formed}
use Rattle.qc_js.proofs.Goods.{layout_spells}
use Rattle.qc_js_run.specs.Language.{agrees_js}
use Rattle.qc_route.specs.Stages.{Keeps, outcome}
use Rattle.qc_route.specs.declared.stage.Stage.TheVariants.{Js}
use Rattle.qc_work.specs.declared.sources.Query.{Query}
use Rattle.qc_work.specs.declared.sources.Query.TheVariants as query
use Rattle.qc_work.specs.Promises.{HasItsType}
use Rattle.qc_work.specs.Right.{IsRight, IsWorld, ThrowsAs, world_in, AnswersAs}
use Rattle.qc_work.specs.Sources.{meaning_of, stage_of}

-- a value is kept
kept_value : {A : Type 0} (o p : Outcome A) (a : A) → IsKept o p → o ≡ Value a → p ≡ Value a
kept_value (Value v) p a h e = h ∙ e
kept_value (Halts why) p a h e = absurd (cc)

clash : {A : Type 0} (o : Outcome A) (a : A) → o ≡ Value a → o ≡ Halts Range → ⊥
clash o a e f = cc

-- the first stage answers the encoding of what the query means
first_answers : (q : Query) (m : Mode) (w : WorldOf) → outcome m w (stage_of q) ≡ encoded (meaning_of q m w)
first_answers (query.Oql typed) m w = refl

module _ (schema : SchemaOf) (q : Query) (typed : HasItsType schema q) (program : Program)
    (keeps : Keeps schema (stage_of q) (Js program)) where
  module _ (world : Datum) (is_world : IsWorld schema world) where
    abbrev w : WorldOf
    w = world_in schema world

    of : IsOf schema w
    of = record { classes = refl; globals = refl; datum = is_world }

    abbrev answer : Datum
    answer = (typed.values w of).0

    abbrev program_at : Mode → Outcome Json
    program_at m = js m program (enc world)

    -- a value that the query has is what the program answers
    answers : (m : Mode) → meaning_of q m w ≡ Value answer → program_at m ≡ Value (enc answer)
    answers m value =
        kept_value (outcome m w (stage_of q)) (program_at m) (enc answer) (keeps.kept m w of)
        (first_answers q m w ∙ ap encoded value)

    in_bits : (program_at bits64 ≡ Value (enc answer)) ⊎ (program_at bits64 ≡ Halts Range)
    in_bits =
        same_or_range (program_at any_size) (program_at bits64) (enc answer)
        (agrees_js (negsuc (2 ^ 63 - 1)) (pos (2 ^ 63 - 1)) (enc world) program)
        (answers any_size (typed.values w of).2)

    -- where the program throws, the query leaves 64 bits
    thrown : program_at bits64 ≡ Halts Range
        → (meaning_of q bits64 w ≡ Value answer) ⊎ (meaning_of q bits64 w ≡ Halts Range)
        → ThrowsAs bits64 (meaning_of q) program w
    thrown range (inl value) = absurd (clash (program_at bits64) (enc answer) (answers bits64 value) range)
    thrown range (inr leaves) = record { leaves = leaves; throws = range }

    answered : (program_at bits64 ≡ Value (enc answer)) ⊎ (program_at bits64 ≡ Halts Range)
        → (program_at bits64 ≡ Value (enc answer)) ⊎ ThrowsAs bits64 (meaning_of q) program w
    answered (inl value) = inl value
    answered (inr range) = inr (thrown range ((typed.values w of).3 (negsuc (2 ^ 63 - 1)) (pos (2 ^ 63 - 1))))

    answers_as : AnswersAs bits64 (meaning_of q) program w
    answers_as = record { answer = answer; is_answer = (typed.values w of).2; agrees = answered in_bits }

  pub right : IsTrue (holds_program program) → IsTrue (well_formed program)
      → ((text : List ℕ) (x y : Program) → Spells text x → Spells text y → x ≡ y)
      → IsRight bits64 schema (meaning_of q) (layout program)
  right held fits one =
      let spelled = layout_spells program held fits in
      record {
        program = program;
        is_layout = refl;
        spells = spelled;
        only = λ other s. one (layout program) other program s spelled;
        each = answers_as;
      }
