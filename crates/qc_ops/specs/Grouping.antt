-- Rows by their values at names.
use Rattle.std.specs.Prelude.{◌≡◌, ℕ, not, List, map, filter, None}
use Rattle.qc_data.specs.Kinds.{as_coll}
use Rattle.qc_data.specs.Outcome.{Outcome, Value, and_then, each}
use Rattle.qc_containers.specs.Pairs.{lookup, put}
use Rattle.qc_data.specs.declared.data.Datum.{Datum}
use Rattle.qc_data.specs.declared.data.Datum.TheVariants.{Coll, Rec}
use Rattle.qc_ops.specs.Bags.{firsts}
use Rattle.qc_ops.specs.Operands.{as_rec, bag, only_if}
use Rattle.qc_ops.specs.Records.{is_among, projection}
use Rattle.qc_ops.specs.Sameness.{same}

-- a row behind its projection, which is its key
abbrev pub keyed : List (List ℕ) → Datum → Outcome (Datum × Datum)
keyed names row = and_then (projection names row) (λ key. Value (key, row))

-- the rows whose keys are the same as the key
abbrev pub rows_of : Datum → List (Datum × Datum) → List Datum
rows_of key pairs = map (λ pair. pair.1) (filter (λ pair. same key pair.0) pairs)

-- the record of a key with the rows of it at g
abbrev pub group_of : List ℕ → List (Datum × Datum) → Datum → Outcome Datum
group_of g pairs key = and_then (as_rec key) (λ fields. Value (Rec (put g (Coll (rows_of key pairs)) fields)))

-- group: a record for each key that is the same as none before it; Stuck where g is among the names
abbrev pub grouped : List ℕ → List (List ℕ) → Datum → Outcome Datum
grouped g names a =
    and_then (as_coll a)
    (λ rows. only_if (not (is_among g names))
    (and_then (each (keyed names) rows)
    (λ pairs. bag (each (group_of g pairs) (firsts (map (λ pair. pair.0) pairs))))))

-- the record has no field of the name
abbrev pub Lacks : List ℕ → Datum → Type 0
Lacks name d = (fields : List (List ℕ × Datum)) → as_rec d ≡ Value fields → lookup name fields ≡ None
