-- Rows behind references, as private functions answer them.
use Rattle.std.specs.Prelude.{◌≡◌, ◌≢◌, List, map, Result, Ok, Err, Vec}
use Rattle.std.specs.declared.alloc.Global.{Global}
use Rattle.qc_data.specs.Outcome.{Outcome, Value, Halts, why_of}
use Rattle.qc_data.specs.declared.halt.Halt.{Halt}
use Rattle.qc_data.specs.declared.halt.Halt.TheVariants as halt
use Rattle.qc_oql_tree.specs.declared.tree.Direction.{Direction}
use Rattle.qc_oql_tree.specs.declared.tree.Key.{Key}
use Rattle.qc_oql_tree.specs.declared.tree.Oql.TheViews.{out-Key}
use Rattle.qc_oql_tree.specs.SelectMeaning.{KeyedRow}
use Rattle.qc_oql_eval.specs.declared.ordering.Keyed.{Keyed}

-- the directions of keys
abbrev pub directions : List Key → List Direction
directions keys = map (λ key. (out-Key key).direction) keys

-- the rows with the values of their keys
abbrev pub keyed_rows : List Keyed → List KeyedRow
keyed_rows rows = map (λ row. (row.keys, row.row.now)) rows

-- the code's answer of such rows is the outcome, unless memory was wanting
abbrev pub GivesKeyed : Outcome (List KeyedRow) → Result (Vec Keyed Global) Halt → Type 0
GivesKeyed o (Ok v) = o ≡ Value (keyed_rows v.items)
GivesKeyed o (Err e) = e ≢ halt.Memory → o ≡ Halts (why_of e)

-- the same for one row
abbrev pub GivesOneKeyed : Outcome KeyedRow → Result Keyed Halt → Type 0
GivesOneKeyed o (Ok v) = o ≡ Value (v.keys, v.row.now)
GivesOneKeyed o (Err e) = e ≢ halt.Memory → o ≡ Halts (why_of e)
