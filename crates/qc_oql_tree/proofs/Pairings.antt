-- The operators of queries go back to operators on values.
use Rattle.std.proofs.Common.{◌≡◌, refl, ap}
use Rattle.qc_data.specs.Outcome.{Mode}
use Rattle.qc_data.specs.declared.data.Datum.{Datum}
use Rattle.qc_types.specs.declared.ty.Ty.{Ty}
use Rattle.qc_types.specs.Classes.{Defs}
use Rattle.qc_oql_tree.specs.declared.tree.Unary.{Unary}
use Rattle.qc_oql_tree.specs.declared.tree.Unary.TheVariants as oql1
use Rattle.qc_oql_tree.specs.declared.tree.Binary.{Binary}
use Rattle.qc_oql_tree.specs.declared.tree.Binary.TheVariants as oql2
use Rattle.qc_oql_tree.specs.Bindings.{Bindings, Meaning}
use Rattle.qc_oql_tree.specs.OperatorMeanings.{one_value, of_two}
use Rattle.qc_oql_tree.specs.OperatorTypes.{one_type, two_type}
use Rattle.qc_oql_tree.specs.inner.Pairings.{on_one, at_one, type_at_one, pairing_of, by_pairing, type_by_pairing}

pub one_is : (m : Mode) (c : Defs) (op : Unary) (x : Datum) → one_value m c op x ≡ at_one m c (on_one op) x
one_is m c oql1.Not x = refl
one_is m c oql1.Neg x = refl
one_is m c oql1.Count x = refl
one_is m c oql1.Sum x = refl
one_is m c oql1.Min x = refl
one_is m c oql1.Max x = refl
one_is m c oql1.Avg x = refl
one_is m c oql1.Element x = refl
one_is m c oql1.Flatten x = refl
one_is m c oql1.Distinct x = refl
one_is m c oql1.Abs x = refl
one_is m c oql1.Left x = refl
one_is m c oql1.Right x = refl
one_is m c oql1.Unbrand x = refl
one_is m c oql1.Exists x = refl

pub one_type_is : (c : Defs) (op : Unary) (t : Ty) → one_type c op t ≡ type_at_one c (on_one op) t
one_type_is c oql1.Not t = refl
one_type_is c oql1.Neg t = refl
one_type_is c oql1.Count t = refl
one_type_is c oql1.Sum t = refl
one_type_is c oql1.Min t = refl
one_type_is c oql1.Max t = refl
one_type_is c oql1.Avg t = refl
one_type_is c oql1.Element t = refl
one_type_is c oql1.Flatten t = refl
one_type_is c oql1.Distinct t = refl
one_type_is c oql1.Abs t = refl
one_type_is c oql1.Left t = refl
one_type_is c oql1.Right t = refl
one_type_is c oql1.Unbrand t = refl
one_type_is c oql1.Exists t = refl

pub two_is : (m : Mode) (op : Binary) (a b : Meaning) (s : Bindings)
    → of_two m op a b s ≡ by_pairing m (pairing_of op) a b s
two_is m oql2.Or a b s = refl
two_is m oql2.And a b s = refl
two_is m oql2.Eq a b s = refl
two_is m oql2.Ne a b s = refl
two_is m oql2.Lt a b s = refl
two_is m oql2.Le a b s = refl
two_is m oql2.Gt a b s = refl
two_is m oql2.Ge a b s = refl
two_is m oql2.Member a b s = refl
two_is m oql2.Union a b s = refl
two_is m oql2.Except a b s = refl
two_is m oql2.Intersect a b s = refl
two_is m oql2.Add a b s = refl
two_is m oql2.Sub a b s = refl
two_is m oql2.Glue a b s = refl
two_is m oql2.Mul a b s = refl
two_is m oql2.OrElse a b s = refl
two_is m oql2.Least a b s = refl
two_is m oql2.Greatest a b s = refl

pub two_types : (c : Defs) (op : Binary) → two_type c op ≡ type_by_pairing c (pairing_of op)
two_types c oql2.Or = refl
two_types c oql2.And = refl
two_types c oql2.Eq = refl
two_types c oql2.Ne = refl
two_types c oql2.Lt = refl
two_types c oql2.Le = refl
two_types c oql2.Gt = refl
two_types c oql2.Ge = refl
two_types c oql2.Member = refl
two_types c oql2.Union = refl
two_types c oql2.Except = refl
two_types c oql2.Intersect = refl
two_types c oql2.Add = refl
two_types c oql2.Sub = refl
two_types c oql2.Glue = refl
two_types c oql2.Mul = refl
two_types c oql2.OrElse = refl
two_types c oql2.Least = refl
two_types c oql2.Greatest = refl

pub two_type_is : (c : Defs) (op : Binary) (t u : Ty) → two_type c op t u ≡ type_by_pairing c (pairing_of op) t u
two_type_is c op t u = ap (λ f. f t u) (two_types c op)
