-- Rows beside the canons of their keys, as a walk over both finds them.
use Rattle.std.specs.Prelude.{◌≡◌, cond, List, [], ◌∷◌}
use Rattle.std.specs.Ordering.{is_eq}
use Rattle.qc_data.specs.Order.{cmp}
use Rattle.qc_data.specs.declared.data.Datum.{Datum}
use Rattle.qc_keys.specs.Counts.{gathered}

-- the rows that stand beside the canon
abbrev pub rows_beside : Datum → List Datum → List Datum → List Datum
rows_beside c [] rows = []
rows_beside c (k ∷ ks) [] = []
rows_beside c (k ∷ ks) (row ∷ rows) = cond (is_eq (cmp c k)) (row ∷ rows_beside c ks rows) (rows_beside c ks rows)

-- at each canon the rows that stand beside it are gathered
abbrev pub Gathers : List (Datum × List Datum) → List Datum → List Datum → Type 0
Gathers made canons rows = (c : Datum) → gathered c made ≡ rows_beside c canons rows
