-- Trees gathered at keys, and trees beside the canons of their keys.
use Rattle.std.specs.Prelude.{◌≡◌, cond, List, [], ◌∷◌}
use Rattle.qc_data.specs.declared.data.Datum.{Datum}
use Rattle.qc_data.specs.declared.data.Json.{Json}
use Rattle.qc_keys.specs.Counts.{equal}

-- what is gathered at the key
abbrev pub gathered : Datum → List (Datum × List Json) → List Json
gathered c [] = []
gathered c (e ∷ es) = cond (equal c e.0) e.1 (gathered c es)

-- the rows that stand beside the canon
abbrev pub rows_beside : Datum → List Datum → List Json → List Json
rows_beside c [] rows = []
rows_beside c (k ∷ ks) [] = []
rows_beside c (k ∷ ks) (row ∷ rows) = cond (equal c k) (row ∷ rows_beside c ks rows) (rows_beside c ks rows)

-- at each canon the rows that stand beside it are gathered
abbrev pub Gathers : List (Datum × List Json) → List Datum → List Json → Type 0
Gathers made canons rows = (c : Datum) → gathered c made ≡ rows_beside c canons rows
