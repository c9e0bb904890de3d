-- The test of sameness is true just where two data are the same.
use Rattle.std.proofs.Common.{IsTrue, ◌↔◌, sym, ap, ◌∙◌}
use Rattle.std.specs.Cmp.{tied_itself}
use Rattle.std.specs.Ordering.{is_eq}
use Rattle.qc_data.specs.Order.{canon, cmp, Same}
use Rattle.qc_data.specs.declared.data.Datum.{Datum}
use Rattle.qc_data.proofs.Ties.{cmp_only}
use Rattle.qc_data.proofs.Total.{cmp_total}
use Rattle.qc_containers.proofs.Truth.{is_Equal}
use Rattle.qc_ops.specs.Sameness.{same}

pub same_is : (a b : Datum) → IsTrue (same a b) ↔ Same a b
same_is a b = (
  λ t. cmp_only (canon a) (canon b) (is_Equal (cmp (canon a) (canon b)) t),
  λ e. ap is_eq (ap (cmp (canon a)) (sym e) ∙ tied_itself cmp_total (canon a)),
)
