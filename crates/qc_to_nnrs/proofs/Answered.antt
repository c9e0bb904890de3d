-- What a call that answers the program for a tree of the calculus keeps.
use Rattle.std.proofs.Common.{◌≡◌, ◌≤◌, ◌*◌, [], IsTrue, sym, subst}
use Rattle.std.specs.Prelude.{Result, Ok, Err, IfOk}
use Rattle.qc_containers.specs.declared.memory.Memory.{Memory}
use Rattle.qc_data.specs.Outcome.{IsKept, Mode}
use Rattle.qc_lang.specs.Keeping.{Keeps}
use Rattle.qc_nnrc.specs.declared.tree.Nnrc.{Nnrc}
use Rattle.qc_nnrc.specs.Free.{IsClosed}
use Rattle.qc_nnrc.specs.Meaning.{nnrc}
use Rattle.qc_nnrc.specs.Sizes.{size}
use Rattle.qc_nnrs.specs.declared.tree.Nnrs.{Nnrs}
use Rattle.qc_nnrs.specs.Meaning.{nnrs}
use Rattle.qc_nnrs.specs.Sizes as statements
use Rattle.qc_nnrs.specs.WellFormed.{well_formed}
use Rattle.qc_types.specs.Schemas.{SchemaOf, WorldOf}
use Rattle.qc_to_nnrs.specs.inner.Statements.{lowered}
use Rattle.qc_to_nnrs.proofs.Fits.{good_whole}
use Rattle.qc_to_nnrs.proofs.Kept.{kept_whole}
use Rattle.qc_to_nnrs.proofs.Sizes.{small_whole}

-- what holds of the program holds of what is answered
from_program : (e : Nnrc) (P : Nnrs → Type 0) → P (lowered e) → (r : Result Nnrs Memory)
    → IfOk r (λ made. made ≡ lowered e) → IfOk r P
from_program e P h (Ok made) is = subst P (sym is) h
from_program e P h (Err x) is = tt

module _ (e : Nnrc) (r : Result Nnrs Memory) (is : IfOk r (λ made. made ≡ lowered e)) where
  pub kept : IfOk r (λ made. (m : Mode) (w : WorldOf) → IsKept (nnrc m w e []) (nnrs m w made))
  kept =
      from_program e (λ made. (m : Mode) (w : WorldOf) → IsKept (nnrc m w e []) (nnrs m w made))
      (λ m w. kept_whole m w e) r is

  pub good : IsClosed e → IfOk r (λ made. IsTrue (well_formed made))
  good closed = from_program e (λ made. IsTrue (well_formed made)) (good_whole e closed) r is

  pub small : IfOk r (λ made. statements.size made ≤ 32 * size e)
  small = from_program e (λ made. statements.size made ≤ 32 * size e) (small_whole e) r is

-- the same in the worlds of a schema
pub keeps_in : (schema : SchemaOf) (e : Nnrc) (r : Result Nnrs Memory)
    → IfOk r (λ made. (m : Mode) (w : WorldOf) → IsKept (nnrc m w e []) (nnrs m w made))
    → IfOk r (λ to. Keeps schema (λ m w. nnrc m w e []) (λ m w. nnrs m w to))
keeps_in schema e (Ok made) h = record { kept = λ m w of. h m w }
keeps_in schema e (Err x) h = tt
