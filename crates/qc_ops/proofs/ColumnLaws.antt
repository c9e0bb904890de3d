-- What the tests of columns say of the order of rows.
use Rattle.std.proofs.Common.{◌≡◌, ℕ, Bool, true, false, List, [], ◌∷◌, ◌++◌, map, None, Some, refl, sym, ap, subst}
use Rattle.std.proofs.Common.{◌∙◌}
use Rattle.std.specs.Prelude.{◌||◌, ◌&&◌, unwrap_or}
use Rattle.std.specs.List.{list_all}
use Rattle.qc_data.specs.Kinds.{as_coll}
use Rattle.qc_data.specs.Order.{sort_by}
use Rattle.qc_data.specs.Outcome.{Outcome, Value, Halts, Range, Stuck, and_then, alone, each}
use Rattle.qc_containers.specs.Pairs.{lookup}
use Rattle.qc_data.specs.declared.data.Datum.{Datum}
use Rattle.qc_data.specs.declared.data.Datum.TheVariants.{Unit as Nothing, Coll, Rec, outs-Unit}
use Rattle.qc_ops.specs.inner.Columns.{are_columns, is_of, with_values}
use Rattle.qc_ops.specs.Operands.{as_rec, found, only_if}
use Rattle.qc_ops.specs.Sorting.{one_kind, column, ordered, row_cmp, value_at}
use Rattle.qc_ops.proofs.RowOrder.{columns_are}
use Rattle.qc_ops.specs.declared.columns.Kind.{Kind}
use Rattle.qc_ops.specs.declared.columns.Kind.TheVariants as kind

abbrev Records : Type 0
Records = List (List (List ℕ × Datum))

-- ---- an outcome that is a value just where a test is true, and else Stuck

abbrev Judged : {A : Type 0} → Bool → Outcome A → Type 0
Judged {A} true o = (a : A) × (o ≡ Value a)
Judged false o = o ≡ Halts Stuck

judged_first : {A : Type 0} (b c : Bool) (o : Outcome A) (rest : Outcome (List A)) → Judged b o → Judged c rest
    → Judged (b && c) (and_then (alone o) (λ ys. and_then rest (λ zs. Value (ys ++ zs))))
judged_first true true o rest h k = (h.0 ∷ k.0, rw (h.1, k.1) refl)
judged_first true false o rest h k = rw (h.1, k) refl
judged_first false c o rest h k = rw h refl

judged_each : {A B : Type 0} (test : A → Bool) (f : A → Outcome B) → ((x : A) → Judged (test x) (f x)) → (xs : List A)
    → Judged (list_all test xs) (each f xs)
judged_each test f h [] = ([], refl)
judged_each test f h (x ∷ xs) =
    judged_first (test x) (list_all test xs) (f x) (each f xs) (h x) (judged_each test f h xs)

-- ---- a column

-- the outcome is Stuck, or is a value for which the test is true just where b is
abbrev Tested : {A : Type 0} → (A → Bool) → Bool → Outcome A → Type 0
Tested test b (Value a) = b ≡ test a
Tested test b (Halts Range) = ⊥
Tested test b (Halts Stuck) = b ≡ false

tested_first : (test : Datum → Bool) (b c : Bool) (o : Outcome Datum) (rest : Outcome (List Datum)) → Tested test b o
    → Tested (list_all test) c rest → Tested (list_all test) (b && c)
    (and_then (alone o) (λ ys. and_then rest (λ zs. Value (ys ++ zs))))
tested_first test b c (Value d) (Value ds) h k = rw (h, k) refl
tested_first test b c (Value d) (Halts Range) h k = k
tested_first test true c (Value d) (Halts Stuck) h k = k
tested_first test false c (Value d) (Halts Stuck) h k = refl
tested_first test b c (Halts Range) rest h k = h
tested_first test b c (Halts Stuck) rest h k = rw h refl

none_of : (k : Kind) → is_of k Nothing ≡ false
none_of kind.Int = rw outs-Unit refl
none_of kind.Text = rw outs-Unit refl
none_of kind.Bool = rw outs-Unit refl

tested_at : (k : Kind) (name : List ℕ) (fields : List (List ℕ × Datum))
    → Tested (is_of k) (is_of k (value_at name fields)) (found (lookup name fields))
tested_at k name fields =
    elim (lookup name fields) as (λ o. Tested (is_of k) (is_of k (unwrap_or o Nothing)) (found o))
    [ None ↦ none_of k | Some d ↦ refl ]

tested_all : (k : Kind) (name : List ℕ) (records : Records)
    → Tested (list_all (is_of k)) (list_all (is_of k) (map (value_at name) records))
    (each (λ fields. found (lookup name fields)) records)
tested_all k name [] = refl
tested_all k name (fields ∷ records) =
    tested_first (is_of k) (is_of k (value_at name fields)) (list_all (is_of k) (map (value_at name) records))
    (found (lookup name fields)) (each (λ fields. found (lookup name fields)) records) (tested_at k name fields)
    (tested_all k name records)

judged_if : (b : Bool) (ds : List Datum) → Judged b (only_if b (Value ds))
judged_if true ds = (ds, refl)
judged_if false ds = refl

judged_kinds : (a b c : Bool) (o : Outcome (List Datum)) → Tested (list_all (is_of kind.Int)) a o
    → Tested (list_all (is_of kind.Text)) b o → Tested (list_all (is_of kind.Bool)) c o
    → Judged (a || (b || c)) (and_then o (λ ds. only_if (one_kind ds) (Value ds)))
judged_kinds a b c (Value ds) p q r = rw (p, q, r) (judged_if (one_kind ds) ds)
judged_kinds a b c (Halts Range) p q r = absurd p
judged_kinds a b c (Halts Stuck) p q r = rw (p, q, r) refl

judged_column : (records : Records) (name : List ℕ)
    → Judged (one_kind (map (value_at name) records)) (column records name)
judged_column records name =
    let ds : List Datum = map (value_at name) records in
    judged_kinds (list_all (is_of kind.Int) ds) (list_all (is_of kind.Text) ds) (list_all (is_of kind.Bool) ds)
    (each (λ fields. found (lookup name fields)) records) (tested_all kind.Int name records)
    (tested_all kind.Text name records) (tested_all kind.Bool name records)

judged_columns : (records : Records) (keys : List (List ℕ × Bool))
    → Judged (are_columns 0 keys (map (with_values keys) records)) (each (λ key. column records key.0) keys)
judged_columns records keys =
    rw (columns_are keys records) (judged_each (λ key. one_kind (map (value_at key.0) records))
    (λ key. column records key.0) (λ key. judged_column records key.0) keys)

-- ---- the order of rows

module _ (keys : List (List ℕ × Bool)) (a : Datum) (items rows : List Datum) (records : Records)
    (coll : as_coll a ≡ Value items) (same : rows ≡ items) (each_is : each as_rec rows ≡ Value records) where
  there : each as_rec items ≡ Value records
  there = ap (each as_rec) (sym same) ∙ each_is

  ordered_by : (o : Outcome (List (List Datum))) → each (λ key. column records key.0) keys ≡ o
      → ordered keys a ≡ and_then o (λ columns. Value (Coll (map Rec (sort_by (row_cmp keys) records))))
  ordered_by o e = rw (coll, there, e) refl

  judged : (b : Bool) → are_columns 0 keys (map (with_values keys) records) ≡ b
      → Judged b (each (λ key. column records key.0) keys)
  judged b e = subst (λ b. Judged b (each (λ key. column records key.0) keys)) e (judged_columns records keys)

  -- where some column is missing or of several kinds
  pub ordered_stuck : are_columns 0 keys (map (with_values keys) records) ≡ false → ordered keys a ≡ Halts Stuck
  ordered_stuck e = ordered_by (Halts Stuck) (judged false e)

  -- where each is there and of one kind
  pub ordered_value : are_columns 0 keys (map (with_values keys) records) ≡ true
      → ordered keys a ≡ Value (Coll (map Rec (sort_by (row_cmp keys) records)))
  ordered_value e = let columns = judged true e in ordered_by (Value columns.0) columns.1
