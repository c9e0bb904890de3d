-- Rows beside their values at keys, and columns of these values, as private functions go through them.
use Rattle.std.specs.Prelude.{◌≡◌, ◌≢◌, ℕ, suc, Bool, true, ◌&&◌, List, [], ◌∷◌, map, Result, Ok, Err, Vec}
use Rattle.std.specs.declared.alloc.Global.{Global}
use Rattle.qc_data.specs.Kinds.{as_int}
use Rattle.qc_data.specs.Outcome.{Value, Halts, each, why_of}
use Rattle.qc_data.specs.declared.data.Datum.{Datum}
use Rattle.qc_data.specs.declared.data.Datum.TheOpen.{Datum-F}
use Rattle.qc_data.specs.declared.data.Datum.TheViews.{out-Datum}
use Rattle.qc_data.specs.declared.data.Datum.TheVariants.{Unit as Nothing, Bool as Truth, Int, Text}
use Rattle.qc_data.specs.declared.halt.Halt.{Halt}
use Rattle.qc_data.specs.declared.halt.Halt.TheVariants as halt
use Rattle.qc_ops.specs.Operands.{as_bool, as_text, as_rec}
use Rattle.qc_ops.specs.Sorting.{has_value, one_kind, value_at}
use Rattle.qc_ops.specs.inner.Columns.{nth}
use Rattle.qc_rt.specs.Seen.{seen}
use Rattle.qc_runtime.specs.declared.columns.Keyed.{Keyed}
use Rattle.qc_runtime.specs.declared.columns.Kind.{Kind}
use Rattle.qc_runtime.specs.declared.columns.Kind.TheVariants as kind

-- the datum is of the kind
abbrev pub is_of : Kind → Datum → Bool
is_of kind.Int d = has_value (as_int d)
is_of kind.Text d = has_value (as_text d)
is_of kind.Bool d = has_value (as_bool d)

-- by the outermost layer of a datum
abbrev pub atom_at : Datum-F Datum → Datum
atom_at (Datum-F.Bool b) = Truth b
atom_at (Datum-F.Int n) = Int n
atom_at (Datum-F.Text s) = Text s
atom_at _ = Nothing

-- the datum, if rows may be ordered by it, and else unit
abbrev pub atom : Datum → Datum
atom d = atom_at (out-Datum d)

-- by the outermost layer of a datum
abbrev pub fields_at : Datum-F Datum → List (List ℕ × Datum)
fields_at (Datum-F.Rec fields) = fields
fields_at _ = []

-- the fields of the record that the datum is, and none of another
abbrev pub row_fields : Datum → List (List ℕ × Datum)
row_fields d = fields_at (out-Datum d)

-- the values at the keys that rows may be ordered by
abbrev pub key_values : List (List ℕ × Bool) → List (List ℕ × Datum) → List Datum
key_values keys fields = map (λ key. atom (value_at key.0 fields)) keys

-- the row behind its values at the keys
abbrev pub keyed_row : List (List ℕ × Bool) → Datum → List Datum × Datum
keyed_row keys d = (key_values keys (row_fields d), d)

-- the rows, each behind its values
abbrev pub keyed_rows : List Keyed → List (List Datum × Datum)
keyed_rows rows = map (λ row. (row.values, seen row.tree.now)) rows

-- at each key, whose values stand from place i on, the rows' values are of one kind
abbrev pub columns_hold : ℕ → List (List ℕ × Bool) → List (List Datum) → Bool
columns_hold i [] rows = true
columns_hold i (key ∷ keys) rows = one_kind (map (nth i) rows) && columns_hold (suc i) keys rows

-- the row's values, where the row is a record
abbrev pub GivesValues : List (List ℕ × Bool) → Datum → Result (List Datum) Halt → Type 0
GivesValues keys d (Ok values) = (as_rec d ≡ Value (row_fields d)) × (values ≡ key_values keys (row_fields d))
GivesValues keys d (Err e) = e ≢ halt.Memory → as_rec d ≡ Halts (why_of e)

-- the rows behind their values, where all rows are records
abbrev pub GivesKeyed : List (List ℕ × Bool) → List Datum → Result (Vec Keyed Global) Halt → Type 0
GivesKeyed keys ds (Ok rows) =
    (each as_rec ds ≡ Value (map row_fields ds)) × (keyed_rows rows.items ≡ map (keyed_row keys) ds)
GivesKeyed keys ds (Err e) = e ≢ halt.Memory → each as_rec ds ≡ Halts (why_of e)
