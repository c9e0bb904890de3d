-- What a call that answers the program for one of statements keeps.
use Rattle.std.proofs.Common.{◌≡◌, ◌≤◌, ◌*◌, IsTrue, sym, subst}
use Rattle.std.specs.Prelude.{Result, Ok, Err, IfOk}
use Rattle.qc_containers.specs.declared.memory.Memory.{Memory}
use Rattle.qc_data.specs.Outcome.{IsKept, Mode}
use Rattle.qc_lang.specs.Keeping.{Keeps}
use Rattle.qc_nnrs.specs.declared.tree.Nnrs.{Nnrs}
use Rattle.qc_nnrs.specs.Meaning.{nnrs}
use Rattle.qc_nnrs.specs.Sizes as source
use Rattle.qc_nnrs.specs.WellFormed as statements
use Rattle.qc_imp.specs.declared.tree.Imp.{Imp}
use Rattle.qc_imp.specs.Meaning.{imp}
use Rattle.qc_imp.specs.Sizes as target
use Rattle.qc_imp.specs.WellFormed.{well_formed}
use Rattle.qc_types.specs.Schemas.{SchemaOf, WorldOf}
use Rattle.qc_to_imp.specs.inner.StatementTrees.{lowered}
use Rattle.qc_to_imp.proofs.ProgramSizes.{small_program}
use Rattle.qc_to_imp.proofs.ScopesKept.{program_fits}
use Rattle.qc_to_imp.proofs.StatementsKept.{kept_program}

-- what holds of the program holds of what is answered
from_program : (p : Nnrs) (P : Imp → Type 0) → P (lowered p) → (r : Result Imp Memory)
    → IfOk r (λ made. made ≡ lowered p) → IfOk r P
from_program p P h (Ok made) e = subst P (sym e) h
from_program p P h (Err x) e = tt

module _ (p : Nnrs) (r : Result Imp Memory) (is : IfOk r (λ made. made ≡ lowered p)) where
  pub kept : IfOk r (λ made. (m : Mode) (w : WorldOf) → IsKept (nnrs m w p) (imp m w made))
  kept =
      from_program p (λ made. (m : Mode) (w : WorldOf) → IsKept (nnrs m w p) (imp m w made))
      (λ m w. kept_program m w p) r is

  pub fitting : IsTrue (statements.well_formed p) → IfOk r (λ made. IsTrue (well_formed made))
  fitting good = from_program p (λ made. IsTrue (well_formed made)) (program_fits p good) r is

  pub small : IfOk r (λ made. target.size made ≤ 32 * source.size p)
  small = from_program p (λ made. target.size made ≤ 32 * source.size p) (small_program p) r is

-- the same in the worlds of a schema
pub keeps_in : (schema : SchemaOf) (p : Nnrs) (r : Result Imp Memory)
    → IfOk r (λ made. (m : Mode) (w : WorldOf) → IsKept (nnrs m w p) (imp m w made))
    → IfOk r (λ to. Keeps schema (λ m w. nnrs m w p) (λ m w. imp m w to))
keeps_in schema p (Ok made) h = record { kept = λ m w of. h m w }
keeps_in schema p (Err x) h = tt
