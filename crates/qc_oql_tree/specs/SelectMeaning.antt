-- The select: in whole lists, from its rows to its values.
use Rattle.std.specs.Prelude.{ℕ, Bool, true, false, cond, ◌&&◌, List, [], ◌∷◌, ◌++◌, map, Option, Some, None}
use Rattle.std.specs.Ordering.{ordering_then}
use Rattle.std.specs.declared.cmp.Ordering.{Ordering}
use Rattle.std.specs.declared.cmp.Ordering.TheVariants.{Equal}
use Rattle.qc_data.specs.Kinds.{as_coll}
use Rattle.qc_data.specs.Order.{sort_by}
use Rattle.qc_data.specs.Outcome.{Outcome, Value, and_then, gather, each}
use Rattle.qc_data.specs.declared.data.Datum.{Datum}
use Rattle.qc_data.specs.declared.data.Datum.TheVariants.{Unit as Nothing, Coll}
use Rattle.qc_ops.specs.Bags.{firsts}
use Rattle.qc_ops.specs.Operands.{only_if}
use Rattle.qc_ops.specs.Sorting.{one_kind, directed}
use Rattle.qc_oql_tree.specs.declared.tree.Direction.{Direction}
use Rattle.qc_oql_tree.specs.declared.tree.Direction.TheVariants.{Asc, Desc}
use Rattle.qc_oql_tree.specs.Bindings.{Bindings, Meaning}
use Rattle.qc_oql_tree.specs.FormMeanings.{NamedMeaning, truth}

-- a key with its direction
abbrev pub KeyMeaning : Type 0
KeyMeaning = Meaning × Direction

-- a row, which binds the names of the sources, with the values of its keys
abbrev pub KeyedRow : Type 0
KeyedRow = List Datum × Bindings

-- the members of a source behind a row
unfoldable pub source_items : NamedMeaning → Bindings → Bindings → Outcome (List Datum)
source_items source s row = and_then (source.1 (row ++ s)) as_coll

-- the row with the name bound to each member
unfoldable pub rows_with : List ℕ → Bindings → List Datum → List Bindings
rows_with name row xs = map (λ x. (name, x) ∷ row) xs

-- the row with the source's name bound to each of its members
abbrev pub extended : NamedMeaning → Bindings → Bindings → Outcome (List Bindings)
extended source s row = and_then (source_items source s row) (λ xs. Value (rows_with source.0 row xs))

-- the rows extended by each source in turn
abbrev pub rows_from : List NamedMeaning → Bindings → List Bindings → Outcome (List Bindings)
rows_from [] s rows = Value rows
rows_from (source ∷ sources) s rows = and_then (gather (extended source s) rows) (rows_from sources s)

-- all rows, the first source outermost
abbrev pub rows_of : List NamedMeaning → Bindings → Outcome (List Bindings)
rows_of sources s = rows_from sources s ([] ∷ [])

-- the row alone where the condition is true
unfoldable pub kept_row : Meaning → Bindings → Bindings → Outcome (List Bindings)
kept_row test s row = and_then (truth test (row ++ s)) (λ holds. Value (cond holds (row ∷ []) []))

-- where
abbrev pub filtered : Option Meaning → Bindings → List Bindings → Outcome (List Bindings)
filtered None s rows = Value rows
filtered (Some test) s rows = gather (kept_row test s) rows

-- the values of the keys
unfoldable pub key_values : List KeyMeaning → Bindings → Outcome (List Datum)
key_values keys s = each (λ key. key.0 s) keys

-- the row with the values of the keys
unfoldable pub keyed : List KeyMeaning → Bindings → Bindings → Outcome KeyedRow
keyed keys s row = and_then (key_values keys (row ++ s)) (λ ds. Value (ds, row))

-- the value of the first key, of which each row has one
abbrev pub first_value : List Datum → Datum
first_value [] = Nothing
first_value (x ∷ xs) = x

-- the values of the keys behind the first
abbrev pub later_values : List Datum → List Datum
later_values [] = []
later_values (x ∷ xs) = xs

-- each key's values are of one kind in all rows
abbrev pub are_sortable : List Direction → List (List Datum) → Bool
are_sortable [] rows = true
are_sortable (d ∷ ds) rows = one_kind (map first_value rows) && are_sortable ds (map later_values rows)

-- the direction is ascending
abbrev pub is_ascending : Direction → Bool
is_ascending Asc = true
is_ascending Desc = false

-- how the values of one row's keys compare with another's, by each key in turn
abbrev pub keys_cmp : List Direction → List Datum → List Datum → Ordering
keys_cmp [] xs ys = Equal
keys_cmp (d ∷ ds) xs ys =
    ordering_then (directed (is_ascending d) (first_value xs) (first_value ys))
    (keys_cmp ds (later_values xs) (later_values ys))

-- rows in the order of their keys; those that tie keep theirs
abbrev pub sorted : List Direction → List KeyedRow → List KeyedRow
sorted directions rows = sort_by (λ a b. keys_cmp directions a.0 b.0) rows

-- order by: each key's values are all integers, all texts or all truth values
unfoldable pub ordered_by : List KeyMeaning → Bindings → List Bindings → Outcome (List Bindings)
ordered_by keys s rows =
    and_then (each (keyed keys s) rows) (λ ks.
    only_if (are_sortable (map (λ key. key.1) keys) (map (λ row. row.0) ks)) (
    Value (map (λ row. row.1) (sorted (map (λ key. key.1) keys) ks))))

-- the rows in order, if there are keys
abbrev pub ordered : Option (List KeyMeaning) → Bindings → List Bindings → Outcome (List Bindings)
ordered None s rows = Value rows
ordered (Some keys) s rows = ordered_by keys s rows

-- distinct: the first occurrences
abbrev pub distinct_if : Bool → List Datum → List Datum
distinct_if distinct xs = cond distinct (firsts xs) xs

-- a select: its rows, those that the condition keeps, in order, and the value of each
abbrev pub selected : Bool → Meaning → List NamedMeaning → Option Meaning → Option (List KeyMeaning) → Meaning
selected distinct value sources filter order s =
    and_then (rows_of sources s) (λ rows.
    and_then (filtered filter s rows) (λ kept.
    and_then (ordered order s kept) (λ sorted.
    and_then (each (λ row. value (row ++ s)) sorted) (λ values.
    Value (Coll (distinct_if distinct values))))))
