-- What is done once the files of a job are read: the text that is given, and why there is none.
use Rattle.std.specs.Prelude.{◌≡◌, ◌⊎◌, ℕ, List, [], ◌∷◌, ◌++◌}
use Rattle.qc_data.specs.declared.data.Datum.{Datum}
use Rattle.qc_data.specs.declared.data.Json.{Json}
use Rattle.qc_data.specs.Encoding.{enc}
use Rattle.qc_data.specs.Outcome as outcome
use Rattle.qc_data.specs.Outcome.{Mode, any_size, bits64, Value, Halts}
use Rattle.qc_js.specs.declared.tree.Program.{Program}
use Rattle.qc_js.specs.Meaning.{js}
use Rattle.qc_types.specs.Schemas.{WorldOf}
use Rattle.qc_schema.specs.TypeText.{tree_of}
use Rattle.qc_schema.specs.Writing.{text_of}
use Rattle.qc_work.specs.declared.refusal.Refusal.{Refusal}
use Rattle.qc_work.specs.declared.refusal.Refusal.TheVariants.{Range, Stuck}
use Rattle.qc_work.specs.declared.sources.Checked.{Checked}
use Rattle.qc_work.specs.Right.{Meaning, IsRight}
use Rattle.qc_work.specs.Sources.{meaning_of, type_of}

-- an action, with what it acts on
pub data Work : Type 0 where
  Check : (checked : Checked) → Work
  Compile : (checked : Checked) → Work
  Run : (checked : Checked) (world : WorldOf) → Work
  Exec : (program : Program) (input : Json) → Work

-- the bytes and a line feed
abbrev pub line : List ℕ → List ℕ
line bytes = bytes ++ 10 ∷ []

-- the text is the JSON of the answer that the query has in the world at any size, and also within the mode's bounds
pub record IsAnswer (mode : Mode) (means : Meaning) (world : WorldOf) (text : List ℕ) : Type 0 where
  pub answer : Datum
  pub is_answer : means any_size world ≡ Value answer
  pub in_bounds : means mode world ≡ Value answer
  pub is_text : text ≡ line (text_of (enc answer))

-- the text is the JSON that the program answers on the input, within the mode's bounds
pub record IsResult (mode : Mode) (program : Program) (input : Json) (text : List ℕ) : Type 0 where
  pub answer : Json
  pub is_answer : js mode program input ≡ Value answer
  pub is_text : text ≡ line (text_of answer)

-- the text is the JSON of the query's type, a program that is right for the query, the JSON of its answer, or the JSON
-- that a script answers
abbrev pub IsTextFor : Work → List ℕ → Type 0
IsTextFor (Check checked) text = text ≡ line (text_of (tree_of (type_of checked.query)))
IsTextFor (Compile checked) text = IsRight bits64 checked.schema (meaning_of checked.query) text
IsTextFor (Run checked world) text = IsAnswer bits64 (meaning_of checked.query) world text
IsTextFor (Exec program input) text = IsResult bits64 program input text

-- a query that is run leaves 64 bits in the world; each query that has its type is compiled; a script that is executed
-- leaves 64 bits, or is stuck
abbrev pub Refuses : Work → Refusal → Type 0
Refuses (Check checked) r = ⊥
Refuses (Compile checked) r = ⊥
Refuses (Run checked world) r = (r ≡ Range) × (meaning_of checked.query bits64 world ≡ Halts outcome.Range)
Refuses (Exec program input) r = ((r ≡ Range) × (js bits64 program input ≡ Halts outcome.Range))
    ⊎ ((r ≡ Stuck) × (js bits64 program input ≡ Halts outcome.Stuck))

-- there is no cause to refuse the work
abbrev pub IsClear : Work → Type 0
IsClear work = (r : Refusal) → ¬ Refuses work r
