-- Records: their fields by name.
use Rattle.std.specs.Prelude.{ℕ, Bool, true, cond, List, [], ◌∷◌, filter, Option, Some, None, is_some}
use Rattle.std.specs.List.{list_any, list_all}
use Rattle.std.specs.Str.{bytes_eq}
use Rattle.qc_data.specs.Outcome.{Outcome, Value, and_then}
use Rattle.qc_containers.specs.Pairs.{lookup, put}
use Rattle.qc_data.specs.declared.data.Datum.{Datum}
use Rattle.qc_data.specs.declared.data.Datum.TheVariants.{Coll, Rec}
use Rattle.qc_ops.specs.Operands.{as_rec, found, only_if}
use Rattle.qc_ops.specs.Sameness.{same}

-- rec
abbrev pub record_of : List ℕ → Datum → Outcome Datum
record_of name a = Value (Rec ((name, a) ∷ []))

-- dot
abbrev pub field : List ℕ → Datum → Outcome Datum
field name a = and_then (as_rec a) (λ fields. found (lookup name fields))

-- the name is one of the names
abbrev pub is_among : List ℕ → List (List ℕ) → Bool
is_among name names = list_any (bytes_eq name) names

-- the record has each of the names
abbrev pub has_names : List (List ℕ) → List (List ℕ × Datum) → Bool
has_names names fields = list_all (λ name. is_some (lookup name fields)) names

-- the fields of the names
abbrev pub fields_at : List (List ℕ) → List (List ℕ × Datum) → List (List ℕ × Datum)
fields_at names fields = filter (λ pair. is_among pair.0 names) fields

-- the fields of the names, which must all be there
abbrev pub part_of : List (List ℕ) → Datum → Outcome (List (List ℕ × Datum))
part_of names a = and_then (as_rec a) (λ fields. only_if (has_names names fields) (Value (fields_at names fields)))

-- project
abbrev pub projection : List (List ℕ) → Datum → Outcome Datum
projection names a = and_then (part_of names a) (λ fields. Value (Rec fields))

-- the field put in its place, unless there is one of its name
abbrev pub put_new : List ℕ → Datum → List (List ℕ × Datum) → List (List ℕ × Datum)
put_new name value fields = cond (is_some (lookup name fields)) fields (put name value fields)

-- all fields, the second's on shared names
abbrev pub over : List (List ℕ × Datum) → List (List ℕ × Datum) → List (List ℕ × Datum)
over [] gs = gs
over (f ∷ fs) gs = put_new f.0 f.1 (over fs gs)

-- cat
abbrev pub concatenation : Datum → Datum → Outcome Datum
concatenation a b = and_then (as_rec a) (λ fs. and_then (as_rec b) (λ gs. Value (Rec (over fs gs))))

-- the value is the same as the other, if there is one
abbrev pub same_at : Datum → Option Datum → Bool
same_at d None = true
same_at d (Some e) = same d e

-- the values at shared names are the same
abbrev pub compatible : List (List ℕ × Datum) → List (List ℕ × Datum) → Bool
compatible fs gs = list_all (λ f. same_at f.1 (lookup f.0 gs)) fs

-- merge
abbrev pub merger : Datum → Datum → Outcome Datum
merger a b =
    and_then (as_rec a)
    (λ fs. and_then (as_rec b) (λ gs. Value (Coll (cond (compatible fs gs) (Rec (over fs gs) ∷ []) []))))
