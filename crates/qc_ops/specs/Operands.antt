-- Operands by their kind, and the forms of what operators give.
use Rattle.std.specs.Prelude.{ℕ, Bool, true, false, List, Option, Some, None}
use Rattle.qc_data.specs.Outcome.{Outcome, Value, Halts, Stuck, and_then}
use Rattle.qc_data.specs.declared.data.Datum.{Datum}
use Rattle.qc_data.specs.declared.data.Datum.TheOpen.{Datum-F}
use Rattle.qc_data.specs.declared.data.Datum.TheViews.{out-Datum}
use Rattle.qc_data.specs.declared.data.Datum.TheVariants.{Unit as Nothing, Coll, Left, Right}

-- by the outermost layer of a datum
abbrev pub bool_at : Datum-F Datum → Outcome Bool
bool_at (Datum-F.Bool b) = Value b
bool_at _ = Halts Stuck

abbrev pub text_at : Datum-F Datum → Outcome (List ℕ)
text_at (Datum-F.Text s) = Value s
text_at _ = Halts Stuck

abbrev pub rec_at : Datum-F Datum → Outcome (List (List ℕ × Datum))
rec_at (Datum-F.Rec fields) = Value fields
rec_at _ = Halts Stuck

abbrev pub brand_at : Datum-F Datum → Outcome (List ℕ × Datum)
brand_at (Datum-F.Brand name content) = Value (name, content)
brand_at _ = Halts Stuck

-- the truth value that the datum is
abbrev pub as_bool : Datum → Outcome Bool
as_bool d = bool_at (out-Datum d)

-- the bytes of the text that the datum is
abbrev pub as_text : Datum → Outcome (List ℕ)
as_text d = text_at (out-Datum d)

-- the fields of the record that the datum is
abbrev pub as_rec : Datum → Outcome (List (List ℕ × Datum))
as_rec d = rec_at (out-Datum d)

-- the class and the content of the class's value that the datum is
abbrev pub as_brand : Datum → Outcome (List ℕ × Datum)
as_brand d = brand_at (out-Datum d)

-- what is looked for: Stuck where it is not there
abbrev pub found : {A : Type 0} → Option A → Outcome A
found None = Halts Stuck
found (Some a) = Value a

-- Stuck unless the test is true
abbrev pub only_if : {A : Type 0} → Bool → Outcome A → Outcome A
only_if true o = o
only_if false o = Halts Stuck

-- the collection of the members
abbrev pub bag : Outcome (List Datum) → Outcome Datum
bag o = and_then o (λ xs. Value (Coll xs))

-- left of the datum; right of unit where there is none
abbrev pub optional : Option Datum → Datum
optional None = Right Nothing
optional (Some d) = Left d
