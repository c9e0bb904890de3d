-- Answers of typed queries in worlds.
use Rattle.std.proofs.Common.{◌≡◌, ◌^◌, ◌-◌, ◌≢◌, ◌⊎◌, inl, inr, sym, ap, ◌∙◌, ℕ, List, pos, negsuc}
use Rattle.qc_data.specs.declared.data.Datum.{Datum}
use Rattle.qc_data.specs.declared.halt.Halt.{Halt}
use Rattle.qc_data.specs.declared.halt.Halt.TheVariants as halt
use Rattle.qc_data.specs.Encoding.{enc}
use Rattle.qc_data.specs.Outcome.{any_size, bits64, Outcome, Value, Halts, Range as OutOfRange, Stuck, why_of}
use Rattle.qc_lang.specs.Keeping.{IsOf}
use Rattle.qc_types.specs.Schemas.{WorldOf}
use Rattle.qc_schema.specs.Writing.{text_of}
use Rattle.qc_work.specs.declared.sources.Checked.{Checked}
use Rattle.qc_work.specs.Promises.{HasItsType}
use Rattle.qc_work.specs.Sources.{meaning_of}
use Rattle.qc_work.specs.Work.{line, Run, IsTextFor, IsClear}

not_stuck : (o : Outcome Datum) (v : Datum) → (o ≡ Value v) ⊎ (o ≡ Halts OutOfRange) → o ≡ Halts Stuck → ⊥
not_stuck o v (inl e) f = cc
not_stuck o v (inr e) f = cc

in_range : (o : Outcome Datum) (v : Datum) → o ≡ Value v → o ≡ Halts OutOfRange → ⊥
in_range o v e f = cc

-- a value in bounds is the value at any size
at_any_size : (o p : Outcome Datum) (v a : Datum) → (p ≡ Value v) ⊎ (p ≡ Halts OutOfRange) → o ≡ Value v → p ≡ Value a
    → o ≡ Value a
at_any_size o p v a (inl e) f h = f ∙ sym e ∙ h
at_any_size o p v a (inr e) f h = absurd (cc)

no_memory : (h : Halt) → h ≡ halt.Stuck → h ≢ halt.Memory
no_memory h e m = cc

module _ (checked : Checked) (w : WorldOf) (of_schema : IsOf checked.schema w)
    (typed : HasItsType checked.schema checked.query) where
  -- the query's outcome in 64 bits
  abbrev in_bits : Outcome Datum
  in_bits = meaning_of checked.query bits64 w

  is_in_bits : (in_bits ≡ Value (typed.values w of_schema).0) ⊎ (in_bits ≡ Halts OutOfRange)
  is_in_bits = (typed.values w of_schema).3 (negsuc (2 ^ 63 - 1)) (pos (2 ^ 63 - 1))

  -- a typed query is never Stuck
  pub never_stuck : (h : Halt) → h ≡ halt.Stuck → (h ≢ halt.Memory → in_bits ≡ Halts (why_of h)) → ⊥
  never_stuck h e given =
      not_stuck in_bits (typed.values w of_schema).0 is_in_bits
      (given (no_memory h e) ∙ ap (λ (x : Halt). Halts (why_of x)) e)

  -- the text of a query's answer
  pub answer_of : (answer : Datum) → in_bits ≡ Value answer → (text : List ℕ) → text ≡ line (text_of (enc answer))
      → IsTextFor (Run checked w) text × IsClear (Run checked w)
  answer_of answer value text is_text = (
    record {
      answer = answer;
      is_answer =
          at_any_size (meaning_of checked.query any_size w) in_bits (typed.values w of_schema).0 answer is_in_bits
          (typed.values w of_schema).2 value;
      in_bounds = value;
      is_text = is_text;
    },
    λ r u. in_range in_bits answer value u.1,
  )
