-- Keys one after another are keys by their places.
use Rattle.std.proofs.Common.{◌≡◌, ℕ, zero, suc, List, [], ◌∷◌, drop, map, refl}
use Rattle.qc_data.specs.declared.data.Datum.{Datum}
use Rattle.qc_oql_tree.specs.declared.tree.Direction.{Direction}
use Rattle.qc_oql_tree.specs.SelectMeaning.{KeyedRow, first_value, later_values, are_sortable, keys_cmp}
use Rattle.qc_oql_eval.specs.inner.Columns.{value_at, are_sortable_from, keys_cmp_from}

-- ---- one row

first_drop : (i : ℕ) (xs : List Datum) → first_value (drop i xs) ≡ value_at i xs
first_drop zero [] = refl
first_drop zero (x ∷ xs) = refl
first_drop (suc i) [] = refl
first_drop (suc i) (x ∷ xs) = first_drop i xs

later_drop : (i : ℕ) (xs : List Datum) → later_values (drop i xs) ≡ drop (suc i) xs
later_drop zero [] = refl
later_drop zero (x ∷ xs) = refl
later_drop (suc i) [] = refl
later_drop (suc i) (x ∷ xs) = later_drop i xs

keys_from : (i : ℕ) (ds : List Direction) (xs ys : List Datum)
    → keys_cmp ds (drop i xs) (drop i ys) ≡ keys_cmp_from i ds xs ys
keys_from i [] xs ys = refl
keys_from i (d ∷ ds) xs ys =
    rw (first_drop i xs, first_drop i ys, later_drop i xs, later_drop i ys, keys_from (suc i) ds xs ys) refl

pub keys_from_start : (ds : List Direction) (xs ys : List Datum) → keys_cmp ds xs ys ≡ keys_cmp_from 0 ds xs ys
keys_from_start ds xs ys = keys_from 0 ds xs ys

-- ---- all rows

firsts_of : (i : ℕ) (rows : List KeyedRow)
    → map first_value (map (λ row. drop i row.0) rows) ≡ map (λ row. value_at i row.0) rows
firsts_of i [] = refl
firsts_of i (row ∷ rows) = rw (first_drop i row.0, firsts_of i rows) refl

laters_of : (i : ℕ) (rows : List KeyedRow)
    → map later_values (map (λ row. drop i row.0) rows) ≡ map (λ row. drop (suc i) row.0) rows
laters_of i [] = refl
laters_of i (row ∷ rows) = rw (later_drop i row.0, laters_of i rows) refl

sortable_from : (i : ℕ) (ds : List Direction) (rows : List KeyedRow)
    → are_sortable ds (map (λ row. drop i row.0) rows) ≡ are_sortable_from i ds rows
sortable_from i [] rows = refl
sortable_from i (d ∷ ds) rows = rw (firsts_of i rows, laters_of i rows, sortable_from (suc i) ds rows) refl

pub sortable_from_start : (ds : List Direction) (rows : List KeyedRow)
    → are_sortable ds (map (λ row. row.0) rows) ≡ are_sortable_from 0 ds rows
sortable_from_start ds rows = sortable_from 0 ds rows
