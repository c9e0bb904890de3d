-- The order of rows by the values of their keys is total.
use Rattle.std.proofs.Common.{Bool, true, false, List, [], ◌∷◌, Equal, refl}
use Rattle.std.specs.Cmp.{IsTotalOrder, on_total, back_total, then_total}
use Rattle.qc_data.proofs.Total.{cmp_total}
use Rattle.qc_data.specs.declared.data.Datum.{Datum}
use Rattle.qc_ops.specs.Sorting.{directed}
use Rattle.qc_oql_tree.specs.declared.tree.Direction.{Direction}
use Rattle.qc_oql_tree.specs.SelectMeaning.{first_value, later_values, is_ascending, keys_cmp}
use Rattle.qc_oql_eval.specs.declared.ordering.Keyed.{Keyed}

level : IsTotalOrder {K = List Datum} (λ xs ys. Equal)
level = record { antisymm = λ x y. refl; trans = λ x y z p q. p; congr = λ x y z p. refl }

directed_total : (ascending : Bool) → IsTotalOrder {K = List Datum}
    (λ xs ys. directed ascending (first_value xs) (first_value ys))
directed_total true = on_total first_value cmp_total
directed_total false = on_total first_value (back_total cmp_total)

keys_total : (ds : List Direction) → IsTotalOrder (keys_cmp ds)
keys_total [] = level
keys_total (d ∷ ds) = then_total (directed_total (is_ascending d)) (on_total later_values (keys_total ds))

pub keyed_total : (ds : List Direction) → IsTotalOrder {K = Keyed} (λ x y. keys_cmp ds x.keys y.keys)
keyed_total ds = on_total (λ row. row.keys) (keys_total ds)
