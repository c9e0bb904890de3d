-- What a call that answers the tree for one of the algebra keeps.
use Rattle.std.proofs.Common.{◌≡◌, ◌≤◌, ◌*◌, [], sym, subst}
use Rattle.std.specs.Prelude.{Result, Ok, Err, IfOk}
use Rattle.qc_containers.specs.declared.memory.Memory.{Memory}
use Rattle.qc_data.specs.Outcome.{IsKept, Mode}
use Rattle.qc_data.specs.declared.data.Datum.TheVariants.{Rec, Unit as Nothing}
use Rattle.qc_lang.specs.Keeping.{Keeps}
use Rattle.qc_nra.specs.declared.tree.Nra.{Nra}
use Rattle.qc_nra.specs.Meaning.{nra}
use Rattle.qc_nra.specs.Sizes.{size}
use Rattle.qc_nnrc.specs.declared.tree.Nnrc.{Nnrc}
use Rattle.qc_nnrc.specs.Free.{IsClosed}
use Rattle.qc_nnrc.specs.Meaning.{nnrc}
use Rattle.qc_nnrc.specs.Sizes as calculus
use Rattle.qc_types.specs.Schemas.{SchemaOf, WorldOf}
use Rattle.qc_lower.specs.inner.AlgebraTrees.{lowered}
use Rattle.qc_lower.proofs.AlgebraKept.{kept_whole}
use Rattle.qc_lower.proofs.AlgebraSizes.{closed_whole, small_whole}

-- what holds of the tree holds of what is answered
from_tree : (q : Nra) (P : Nnrc → Type 0) → P (lowered q) → (r : Result Nnrc Memory) → IfOk r (λ made. made ≡ lowered q)
    → IfOk r P
from_tree q P h (Ok made) e = subst P (sym e) h
from_tree q P h (Err x) e = tt

module _ (q : Nra) (r : Result Nnrc Memory) (is : IfOk r (λ made. made ≡ lowered q)) where
  pub kept : IfOk r (λ made. (m : Mode) (w : WorldOf) → IsKept (nra m w q Nothing (Rec [])) (nnrc m w made []))
  kept =
      from_tree q (λ made. (m : Mode) (w : WorldOf) → IsKept (nra m w q Nothing (Rec [])) (nnrc m w made []))
      (λ m w. kept_whole m w q) r is

  pub closed : IfOk r (λ made. IsClosed made)
  closed = from_tree q IsClosed (closed_whole q) r is

  pub small : IfOk r (λ made. calculus.size made ≤ 32 * size q)
  small = from_tree q (λ made. calculus.size made ≤ 32 * size q) (small_whole q) r is

-- the same in the worlds of a schema
pub keeps_in : (schema : SchemaOf) (q : Nra) (r : Result Nnrc Memory)
    → IfOk r (λ made. (m : Mode) (w : WorldOf) → IsKept (nra m w q Nothing (Rec [])) (nnrc m w made []))
    → IfOk r (λ to. Keeps schema (λ m w. nra m w q Nothing (Rec [])) (λ m w. nnrc m w to []))
keeps_in schema q (Ok made) h = record { kept = λ m w of. h m w }
keeps_in schema q (Err x) h = tt
