-- What a hasher is given of a datum: writes, each a list of bytes.
use Rattle.std.specs.Prelude.{ℕ, List, [], ◌∷◌, ◌++◌}
use Rattle.std.specs.Hash as fed
use Rattle.qc_data.specs.declared.data.Datum.{Datum}
use Rattle.qc_data.specs.declared.data.Datum.TheOpen.{Datum-F}
use Rattle.qc_data.specs.declared.data.Datum.TheFolds.{fold-Datum}

abbrev pub Writes : Type 0
Writes = List (List ℕ)

-- the items' writes, and an end, which begins no item
abbrev pub list_writes : List Writes → Writes
list_writes [] = fed.u8 9
list_writes (w ∷ ws) = w ++ list_writes ws

-- the names and the values' writes, and an end
abbrev pub field_writes : List (List ℕ × Writes) → Writes
field_writes [] = fed.u8 9
field_writes (p ∷ ps) = fed.str p.0 ++ (p.1 ++ field_writes ps)

-- one layer: a number for its kind, and then its parts' writes
abbrev pub writes_step : Datum-F Writes → Writes
writes_step Datum-F.Unit = fed.u8 0
writes_step (Datum-F.Bool b) = fed.u8 1 ++ fed.bool b
writes_step (Datum-F.Int n) = fed.u8 2 ++ fed.i64 n
writes_step (Datum-F.Text s) = fed.u8 3 ++ fed.str s
writes_step (Datum-F.Coll ws) = fed.u8 4 ++ list_writes ws
writes_step (Datum-F.Rec ps) = fed.u8 5 ++ field_writes ps
writes_step (Datum-F.Left w) = fed.u8 6 ++ w
writes_step (Datum-F.Right w) = fed.u8 7 ++ w
writes_step (Datum-F.Brand n w) = fed.u8 8 ++ (fed.str n ++ w)

-- the writes of a datum
abbrev pub writes : Datum → Writes
writes = fold-Datum Writes writes_step
