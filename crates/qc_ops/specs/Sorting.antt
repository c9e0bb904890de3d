-- Rows in the order of their values at keys.
use Rattle.std.specs.Prelude.{ℕ, Bool, true, false, ◌||◌, cond, List, [], ◌∷◌, map, unwrap_or}
use Rattle.std.specs.List.{list_all}
use Rattle.std.specs.Ordering.{ordering_then}
use Rattle.std.specs.declared.cmp.Ordering.{Ordering}
use Rattle.std.specs.declared.cmp.Ordering.TheVariants.{Equal}
use Rattle.qc_data.specs.Kinds.{as_int, as_coll}
use Rattle.qc_data.specs.Order.{cmp, sort_by}
use Rattle.qc_data.specs.Outcome.{Outcome, Value, Halts, and_then, each}
use Rattle.qc_containers.specs.Pairs.{lookup}
use Rattle.qc_data.specs.declared.data.Datum.{Datum}
use Rattle.qc_data.specs.declared.data.Datum.TheVariants.{Unit as Nothing, Coll, Rec}
use Rattle.qc_ops.specs.Operands.{as_bool, as_text, as_rec, found, only_if}

-- the outcome is a value
abbrev pub has_value : {A : Type 0} → Outcome A → Bool
has_value (Value a) = true
has_value (Halts why) = false

-- the data are all integers, all texts or all truth values
abbrev pub one_kind : List Datum → Bool
one_kind ds =
    list_all (λ d. has_value (as_int d)) ds
    || (list_all (λ d. has_value (as_text d)) ds || list_all (λ d. has_value (as_bool d)) ds)

-- the records' values at the name, which must all be there and of one kind
abbrev pub column : List (List (List ℕ × Datum)) → List ℕ → Outcome (List Datum)
column records name =
    and_then (each (λ fields. found (lookup name fields)) records) (λ ds. only_if (one_kind ds) (Value ds))

-- the value at a name that is there
abbrev pub value_at : List ℕ → List (List ℕ × Datum) → Datum
value_at name fields = unwrap_or (lookup name fields) Nothing

-- one datum against another: `cmp`, or the other way round where it is descending
abbrev pub directed : Bool → Datum → Datum → Ordering
directed ascending x y = cond ascending (cmp x y) (cmp y x)

-- one record against another by the keys in turn
abbrev pub row_cmp : List (List ℕ × Bool) → List (List ℕ × Datum) → List (List ℕ × Datum) → Ordering
row_cmp [] fs gs = Equal
row_cmp (key ∷ keys) fs gs = ordering_then (directed key.1 (value_at key.0 fs) (value_at key.0 gs)) (row_cmp keys fs gs)

-- order: those that tie keep their order
abbrev pub ordered : List (List ℕ × Bool) → Datum → Outcome Datum
ordered keys a =
    and_then (as_coll a)
    (λ rows. and_then (each as_rec rows)
    (λ records. and_then (each (λ key. column records key.0) keys)
    (λ columns. Value (Coll (map Rec (sort_by (row_cmp keys) records))))))
