-- The values of one key in all rows, by its place among the keys, as the code goes through them.
use Rattle.std.specs.Prelude.{ℕ, suc, Bool, true, ◌&&◌, List, [], ◌∷◌, map, slice_get, unwrap_or}
use Rattle.std.specs.Ordering.{ordering_then}
use Rattle.std.specs.declared.cmp.Ordering.{Ordering}
use Rattle.std.specs.declared.cmp.Ordering.TheVariants.{Equal}
use Rattle.qc_data.specs.declared.data.Datum.{Datum}
use Rattle.qc_data.specs.declared.data.Datum.TheVariants.{Unit as Nothing}
use Rattle.qc_ops.specs.Sorting.{one_kind, directed}
use Rattle.qc_oql_tree.specs.declared.tree.Direction.{Direction}
use Rattle.qc_oql_tree.specs.SelectMeaning.{KeyedRow, is_ascending}

-- the value of the key at a place
abbrev pub value_at : ℕ → List Datum → Datum
value_at i ds = unwrap_or (slice_get ds i) Nothing

-- from place i on, each key's values are of one kind
abbrev pub are_sortable_from : ℕ → List Direction → List KeyedRow → Bool
are_sortable_from i [] rows = true
are_sortable_from i (d ∷ ds) rows = one_kind (map (λ row. value_at i row.0) rows) && are_sortable_from (suc i) ds rows

-- how values of keys compare, by those from place i on in turn
abbrev pub keys_cmp_from : ℕ → List Direction → List Datum → List Datum → Ordering
keys_cmp_from i [] xs ys = Equal
keys_cmp_from i (d ∷ ds) xs ys =
    ordering_then (directed (is_ascending d) (value_at i xs) (value_at i ys)) (keys_cmp_from (suc i) ds xs ys)
