-- The last of the values that a loop has seen.
use Rattle.std.specs.Prelude.{List, [], ◌∷◌, Option, Some}
use Rattle.qc_data.specs.declared.data.Datum.{Datum}

-- the last of a value and of others behind it
abbrev pub last_after : Option Datum → List Datum → Option Datum
last_after o [] = o
last_after o (d ∷ ds) = last_after (Some d) ds
