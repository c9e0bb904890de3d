-- Values by their kind, and the integers that operators make.
use Rattle.std.specs.Prelude.{ℤ, pos, ◌+ℤ◌, List, [], ◌∷◌}
use Rattle.qc_data.specs.declared.data.Datum.{Datum}
use Rattle.qc_data.specs.declared.data.Datum.TheOpen.{Datum-F}
use Rattle.qc_data.specs.declared.data.Datum.TheViews.{out-Datum}
use Rattle.qc_data.specs.declared.data.Datum.TheVariants.{Int}
use Rattle.qc_data.specs.declared.data.Json.{Json}
use Rattle.qc_data.specs.declared.data.Json.TheOpen.{Json-F}
use Rattle.qc_data.specs.declared.data.Json.TheViews.{out-Json}
use Rattle.qc_data.specs.declared.data.Json.TheVariants.{Int as Number}
use Rattle.qc_data.specs.Outcome.{Mode, Outcome, Value, Halts, Stuck, bound, and_then}

-- by the outermost layer of a datum
abbrev pub int_at : Datum-F Datum → Outcome ℤ
int_at (Datum-F.Int n) = Value n
int_at _ = Halts Stuck

abbrev pub coll_at : Datum-F Datum → Outcome (List Datum)
coll_at (Datum-F.Coll xs) = Value xs
coll_at _ = Halts Stuck

-- the integer that the datum is
abbrev pub as_int : Datum → Outcome ℤ
as_int d = int_at (out-Datum d)

-- the members of the collection that the datum is
abbrev pub as_coll : Datum → Outcome (List Datum)
as_coll d = coll_at (out-Datum d)

-- by the outermost layer of a JSON tree
abbrev pub number_at : Json-F Json → Outcome ℤ
number_at (Json-F.Int n) = Value n
number_at _ = Halts Stuck

abbrev pub array_at : Json-F Json → Outcome (List Json)
array_at (Json-F.Array js) = Value js
array_at _ = Halts Stuck

-- the integer that the tree is
abbrev pub json_int : Json → Outcome ℤ
json_int j = number_at (out-Json j)

-- the members of the array that the tree is
abbrev pub json_array : Json → Outcome (List Json)
json_array j = array_at (out-Json j)

-- the sum of integers
abbrev pub total : List ℤ → ℤ
total [] = pos 0
total (n ∷ ns) = n +ℤ total ns

-- an integer that an operator makes: Range where the mode's bounds do not hold it
abbrev pub made : Mode → ℤ → Outcome Datum
made m n = and_then (bound m n) (λ k. Value (Int k))

abbrev pub json_made : Mode → ℤ → Outcome Json
json_made m n = and_then (bound m n) (λ k. Value (Number k))
