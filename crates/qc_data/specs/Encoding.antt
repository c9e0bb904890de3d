-- The encoding of data as JSON trees.
use Rattle.std.specs.Prelude.{[], ◌∷◌, codes}
use Rattle.qc_data.specs.declared.data.Datum.{Datum}
use Rattle.qc_data.specs.declared.data.Datum.TheOpen.{Datum-F}
use Rattle.qc_data.specs.declared.data.Datum.TheFolds.{fold-Datum}
use Rattle.qc_data.specs.declared.data.Json.{Json}
use Rattle.qc_data.specs.declared.data.Json.TheVariants.{Null, Bool as Truth, Int, Text, Array, Object}
use Rattle.qc_data.specs.Outcome.{Outcome, Value, and_then}

-- one layer, whose parts are encoded: left, right and class values are objects of the markers
abbrev pub enc_step : Datum-F Json → Json
enc_step Datum-F.Unit = Null
enc_step (Datum-F.Bool b) = Truth b
enc_step (Datum-F.Int n) = Int n
enc_step (Datum-F.Text s) = Text s
enc_step (Datum-F.Coll js) = Array js
enc_step (Datum-F.Rec ms) = Object ms
enc_step (Datum-F.Left j) = Object ((codes "$left", j) ∷ [])
enc_step (Datum-F.Right j) = Object ((codes "$right", j) ∷ [])
enc_step (Datum-F.Brand n j) = Object ((codes "$class", Text n) ∷ (codes "$data", j) ∷ [])

-- the JSON tree of a datum
abbrev pub enc : Datum → Json
enc = fold-Datum Json enc_step

-- an outcome whose value is encoded
abbrev pub encoded : Outcome Datum → Outcome Json
encoded o = and_then o (λ d. Value (enc d))
