-- Collections: their members, and by how many copies of one there are.
use Rattle.std.specs.Prelude.{◌==◌, nat_lt, nat_le, List, [], ◌∷◌, ◌++◌, Option, Some, None}
use Rattle.std.specs.List.{list_any}
use Rattle.qc_data.specs.Kinds.{as_coll}
use Rattle.qc_data.specs.Outcome.{Outcome, Value, and_then, gather}
use Rattle.qc_data.specs.declared.data.Datum.{Datum}
use Rattle.qc_data.specs.declared.data.Datum.TheVariants.{Bool as Truth, Coll}
use Rattle.qc_ops.specs.Operands.{bag, optional}
pub use Rattle.qc_bags.specs.Copies.{kept_by}
use Rattle.qc_bags.specs.Copies.{copies, same}

-- single
abbrev pub bag_of : Datum → Outcome Datum
bag_of a = Value (Coll (a ∷ []))

-- the only member
abbrev pub only_of : List Datum → Option Datum
only_of [] = None
only_of (x ∷ []) = Some x
only_of (x ∷ y ∷ ys) = None

-- element
abbrev pub only_member : Datum → Outcome Datum
only_member a = and_then (as_coll a) (λ xs. Value (optional (only_of xs)))

-- flatten
abbrev pub flattened : Datum → Outcome Datum
flattened a = and_then (as_coll a) (λ xs. bag (gather as_coll xs))

-- the first occurrences
abbrev pub firsts : List Datum → List Datum
firsts = kept_by (λ k x. k == 1) []

-- the members whose copies up to and with them are more than ys has
abbrev pub without : List Datum → List Datum → List Datum
without xs ys = kept_by (λ k x. nat_lt (copies x ys) k) [] xs

-- the members whose copies up to and with them are no more than ys has
abbrev pub common : List Datum → List Datum → List Datum
common xs ys = kept_by (λ k x. nat_le k (copies x ys)) [] xs

-- distinct
abbrev pub distinct : Datum → Outcome Datum
distinct a = and_then (as_coll a) (λ xs. Value (Coll (firsts xs)))

-- what the members of two collections give
abbrev pub on_bags : (List Datum → List Datum → List Datum) → Datum → Datum → Outcome Datum
on_bags f a b = and_then (as_coll a) (λ xs. and_then (as_coll b) (λ ys. Value (Coll (f xs ys))))

-- union, except, intersect
abbrev pub union : Datum → Datum → Outcome Datum
union = on_bags (λ xs ys. xs ++ ys)

abbrev pub except : Datum → Datum → Outcome Datum
except = on_bags without

abbrev pub intersection : Datum → Datum → Outcome Datum
intersection = on_bags common

-- member: some member of the second is the same as the first
abbrev pub membership : Datum → Datum → Outcome Datum
membership a b = and_then (as_coll b) (λ ys. Value (Truth (list_any (same a) ys)))
