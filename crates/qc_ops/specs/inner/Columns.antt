-- Rows beside their values at keys, and columns of these values, as private functions go through them.
use Rattle.std.specs.Prelude.{ℕ, suc, Bool, true, ◌&&◌, List, [], ◌∷◌, slice_get, unwrap_or, Result, Ok, Err, Vec, map}
use Rattle.std.specs.Prelude.{◌≡◌, ◌≢◌}
use Rattle.std.specs.Borrow.{Bor}
use Rattle.std.specs.Ordering.{ordering_then}
use Rattle.std.specs.declared.alloc.Global.{Global}
use Rattle.std.specs.declared.cmp.Ordering.{Ordering}
use Rattle.std.specs.declared.cmp.Ordering.TheVariants.{Equal}
use Rattle.qc_data.specs.Kinds.{as_int}
use Rattle.qc_data.specs.Outcome.{Outcome, Value, Halts, why_of}
use Rattle.qc_data.specs.declared.data.Datum.{Datum}
use Rattle.qc_data.specs.declared.data.Datum.TheVariants.{Unit as Nothing}
use Rattle.qc_data.specs.declared.halt.Halt.{Halt}
use Rattle.qc_data.specs.declared.halt.Halt.TheVariants as halt
use Rattle.qc_ops.specs.Operands.{as_bool, as_text}
use Rattle.qc_ops.specs.Sorting.{directed, has_value, one_kind, value_at}
use Rattle.qc_ops.specs.declared.columns.Keyed.{Keyed}
use Rattle.qc_ops.specs.declared.columns.Kind.{Kind}
use Rattle.qc_ops.specs.declared.columns.Kind.TheVariants as kind

-- the datum is of the kind
abbrev pub is_of : Kind → Datum → Bool
is_of kind.Int d = has_value (as_int d)
is_of kind.Text d = has_value (as_text d)
is_of kind.Bool d = has_value (as_bool d)

-- the values at the keys
abbrev pub values_at : List (List ℕ × Bool) → List (List ℕ × Datum) → List Datum
values_at keys fields = map (λ key. value_at key.0 fields) keys

-- the row beside its values at the keys
abbrev pub with_values : List (List ℕ × Bool) → List (List ℕ × Datum) → List Datum × List (List ℕ × Datum)
with_values keys fields = (values_at keys fields, fields)

-- the rows, each beside its values
abbrev pub keyed_rows : List Keyed → List (List Datum × List (List ℕ × Datum))
keyed_rows rows = map (λ row. (row.values, row.fields.now)) rows

-- the value at a place among a row's values
abbrev pub nth : ℕ → List Datum → Datum
nth i ds = unwrap_or (slice_get ds i) Nothing

-- at each key, whose values stand from place i on, the rows' values are of one kind
abbrev pub are_columns : ℕ → List (List ℕ × Bool) → List (List Datum × List (List ℕ × Datum)) → Bool
are_columns i [] rows = true
are_columns i (key ∷ keys) rows = one_kind (map (λ row. nth i row.0) rows) && are_columns (suc i) keys rows

-- one row's values against another's by the keys in turn, whose values stand from place i on
abbrev pub values_cmp : ℕ → List (List ℕ × Bool) → List Datum → List Datum → Ordering
values_cmp i [] xs ys = Equal
values_cmp i (key ∷ keys) xs ys =
    ordering_then (directed key.1 (nth i xs) (nth i ys)) (values_cmp (suc i) keys xs ys)

-- the values behind references
abbrev pub behind : {A : Type 0} → List (Bor A) → List A
behind refs = map (λ r. r.now) refs

-- the code's answer of references is the outcome, unless memory was wanting
abbrev pub GivesRefs : {A : Type 0} → Outcome (List A) → Result (Vec (Bor A) Global) Halt → Type 0
GivesRefs o (Ok v) = o ≡ Value (behind v.items)
GivesRefs o (Err e) = e ≢ halt.Memory → o ≡ Halts (why_of e)
