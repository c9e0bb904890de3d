-- The order of rows by their values at keys: it is total, what the code's sort makes of it, and it is the records' own.
use Rattle.std.proofs.Common.{◌≡◌, ℕ, zero, suc, Bool, true, false, cond, List, [], ◌∷◌, drop, map, Ordering, Equal}
use Rattle.std.proofs.Common.{Bor, refl, sym, ap, ◌∙◌}
use Rattle.std.specs.Cmp.{IsTotalOrder, on_total, back_total, then_total}
use denote.Param.Members.{Mut}
use Rattle.std.specs.Fn.{Called, ComparesAs}
use Rattle.std.proofs.lemmas.Fn.{always_returns_same}
use Rattle.std.specs.List.{list_all}
use Rattle.std.specs.List.Sorted.{IsSortedByClosure, IsStableByClosure}
use Rattle.std.specs.Ordering.{is_lt, is_gt}
use Rattle.std.proofs.lemmas.List.Sorted.{ranks_by}
use Rattle.qc_data.specs.Order.{cmp, insert_by, sort_by}
use Rattle.qc_data.specs.declared.data.Datum.{Datum}
use Rattle.qc_data.specs.declared.data.Datum.TheVariants.{Unit as Nothing, Rec}
use Rattle.qc_data.proofs.Layers.{map-map}
use Rattle.qc_data.proofs.OrderLaws.{cmp-Unit}
use Rattle.qc_data.proofs.Sorting.{sorted_is}
use Rattle.qc_data.proofs.Total.{cmp_total}
use Rattle.qc_ops.specs.declared.columns.Keyed.{Keyed}
use Rattle.qc_ops.specs.inner.Columns.{are_columns, nth, values_at, values_cmp, with_values}
use Rattle.qc_ops.specs.Sorting.{directed, one_kind, row_cmp, value_at}

pub same_units : Equal ≡ cmp Nothing Nothing
same_units = sym cmp-Unit

-- ---- the order is total

level : IsTotalOrder {K = List Datum} (λ xs ys. Equal)
level = record { antisymm = λ x y. refl; trans = λ x y z p q. p; congr = λ x y z p. refl }

directed_total : (ascending : Bool) (i : ℕ) → IsTotalOrder (λ xs ys. directed ascending (nth i xs) (nth i ys))
directed_total true i = on_total (nth i) cmp_total
directed_total false i = on_total (nth i) (back_total cmp_total)

values_total : (i : ℕ) (keys : List (List ℕ × Bool)) → IsTotalOrder (values_cmp i keys)
values_total i [] = level
values_total i (key ∷ keys) = then_total (directed_total key.1 i) (values_total (suc i) keys)

pub keyed_total : (keys : List (List ℕ × Bool)) → IsTotalOrder {K = Keyed} (λ x y. values_cmp 0 keys x.values y.values)
keyed_total keys = on_total (λ row. row.values) (values_total 0 keys)

-- ---- sorts

-- what a sort by a closure makes, where each call of it compares by a total order
pub sorted_by : {F X : Type 0} {g : Mut F (Bor X × (Bor X × Unit {0})) Ordering} {f : F} (R : X → X → Ordering)
    → IsTotalOrder R → (xs ys : List X) → IsSortedByClosure g f ys → IsStableByClosure g f xs ys
    → ((a : Bor X × (Bor X × Unit {0})) (r : Ordering) (f' : F) → Called g f a r f'
    → (r ≡ R a.0.now a.1.0.now) × (f' ≡ f)) → ys ≡ sort_by R xs
sorted_by {X = X} {g = g} {f = f} R o xs ys up stable h =
    let lt : X → X → Bool = λ x y. is_lt (R x y) in
    let answers : ComparesAs g lt f =
    always_returns_same g (λ a r. is_lt r ≡ lt a.0.now a.1.0.now) f
    (λ a r f' k. (ap is_lt (h a r f' k).0, (h a r f' k).1)) in
    sorted_is R o xs ys (up lt (ranks_by o (λ x. x)) answers) (stable lt (ranks_by o (λ x. x)) answers)

module _ {X Y : Type 0} (R : Y → Y → Ordering) (h : X → Y) where
  insert-map : (x : X) (ys : List X) → map h (insert_by (λ x y. R (h x) (h y)) x ys) ≡ insert_by R (h x) (map h ys)
  insert-map x [] = refl
  insert-map x (y ∷ ys) =
      elim (is_gt (R (h x) (h y))) as (λ b. map h (cond b (y ∷ insert_by (λ x y. R (h x) (h y)) x ys) (x ∷ y ∷ ys))
      ≡ cond b (h y ∷ insert_by R (h x) (map h ys)) (h x ∷ h y ∷ map h ys))
      [ true ↦ ap (λ l. h y ∷ l) (insert-map x ys) | false ↦ refl ]

  pub sort-map : (xs : List X) → map h (sort_by (λ x y. R (h x) (h y)) xs) ≡ sort_by R (map h xs)
  sort-map [] = refl
  sort-map (x ∷ xs) = insert-map x (sort_by (λ x y. R (h x) (h y)) xs) ∙ ap (insert_by R (h x)) (sort-map xs)

-- ---- rows beside their values at keys

abbrev Pairs : Type 0
Pairs = List (List ℕ × Datum)

nth_drop : (i : ℕ) (ds : List Datum) (x : Datum) (xs : List Datum) → drop i ds ≡ x ∷ xs → nth i ds ≡ x
nth_drop zero [] x xs e = absurd (cc)
nth_drop zero (d ∷ ds) x xs e = cc
nth_drop (suc i) [] x xs e = absurd (cc)
nth_drop (suc i) (d ∷ ds) x xs e = nth_drop i ds x xs e

drop_rest : (i : ℕ) (ds : List Datum) (x : Datum) (xs : List Datum) → drop i ds ≡ x ∷ xs → drop (suc i) ds ≡ xs
drop_rest zero [] x xs e = absurd (cc)
drop_rest zero (d ∷ ds) x xs e = cc
drop_rest (suc i) [] x xs e = absurd (cc)
drop_rest (suc i) (d ∷ ds) x xs e = drop_rest i ds x xs e

module _ (v : Pairs → List Datum) where
  -- from place i on, the values are those at the keys
  abbrev From : ℕ → List (List ℕ × Bool) → Type 0
  From i keys = (fields : Pairs) → drop i (v fields) ≡ values_at keys fields

  rest_from : (i : ℕ) (key : List ℕ × Bool) (keys : List (List ℕ × Bool)) → From i (key ∷ keys) → From (suc i) keys
  rest_from i key keys h fields = drop_rest i (v fields) (value_at key.0 fields) (values_at keys fields) (h fields)

  first_from : (i : ℕ) (key : List ℕ × Bool) (keys : List (List ℕ × Bool)) → From i (key ∷ keys) → (fields : Pairs)
      → nth i (v fields) ≡ value_at key.0 fields
  first_from i key keys h fields = nth_drop i (v fields) (value_at key.0 fields) (values_at keys fields) (h fields)

  cmp_from : (i : ℕ) (keys : List (List ℕ × Bool)) → From i keys → (fs gs : Pairs)
      → values_cmp i keys (v fs) (v gs) ≡ row_cmp keys fs gs
  cmp_from i [] h fs gs = refl
  cmp_from i (key ∷ keys) h fs gs =
      rw (first_from i key keys h fs, first_from i key keys h gs, cmp_from (suc i) keys (rest_from i key keys h) fs gs)
      refl

  column_from : (i : ℕ) (key : List ℕ × Bool) (keys : List (List ℕ × Bool)) → From i (key ∷ keys)
      → (records : List Pairs)
      → map (λ (row : List Datum × Pairs). nth i row.0) (map (λ fields. (v fields, fields)) records)
      ≡ map (value_at key.0) records
  column_from i key keys h [] = refl
  column_from i key keys h (fields ∷ records) =
      rw (first_from i key keys h fields, column_from i key keys h records) refl

  columns_from : (i : ℕ) (keys : List (List ℕ × Bool)) → From i keys → (records : List Pairs)
      → are_columns i keys (map (λ fields. (v fields, fields)) records)
      ≡ list_all (λ key. one_kind (map (value_at key.0) records)) keys
  columns_from i [] h records = refl
  columns_from i (key ∷ keys) h records =
      rw (column_from i key keys h records, columns_from (suc i) keys (rest_from i key keys h) records) refl

-- the columns of the values are those of the records
pub columns_are : (keys : List (List ℕ × Bool)) (records : List Pairs)
    → are_columns 0 keys (map (with_values keys) records)
    ≡ list_all (λ key. one_kind (map (value_at key.0) records)) keys
columns_are keys records = columns_from (values_at keys) 0 keys (λ fields. refl) records

-- the rows sorted by their values are the records sorted by the keys
pub sorted_rows : (keys : List (List ℕ × Bool)) (records : List Pairs)
    → map (λ row. Rec row.1) (sort_by (λ a b. values_cmp 0 keys a.0 b.0) (map (with_values keys) records))
    ≡ map Rec (sort_by (row_cmp keys) records)
sorted_rows keys records =
    let same : (fs gs : Pairs) → values_cmp 0 keys (values_at keys fs) (values_at keys gs) ≡ row_cmp keys fs gs
    = cmp_from (values_at keys) 0 keys (λ fields. refl) in
    ap (map (λ row. Rec row.1)) (sym (sort-map (λ a b. values_cmp 0 keys a.0 b.0) (with_values keys) records))
    ∙ map-map (with_values keys) (λ row. Rec row.1)
    (sort_by (λ fs gs. values_cmp 0 keys (values_at keys fs) (values_at keys gs)) records)
    ∙ λ i. map Rec (sort_by (λ fs gs. same fs gs i) records)
