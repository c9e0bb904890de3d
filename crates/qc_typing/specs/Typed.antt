-- Values of types, and when the type that an operator gives is right.
use Rattle.std.specs.Prelude.{◌≡◌, ◌⊎◌, ℤ, Option, Some, None, IsTrue}
use Rattle.qc_data.specs.Facts.{rising}
use Rattle.qc_data.specs.Outcome.{Mode, any_size, within, Outcome, Range, Value, Halts}
use Rattle.qc_data.specs.declared.data.Datum.{Datum}
use Rattle.qc_types.specs.declared.ty.Ty.{Ty}
use Rattle.qc_types.specs.Classes.{Defs}
use Rattle.qc_types.specs.Types.{fits}
use Rattle.qc_ops.specs.declared.op.Unary.{Unary}
use Rattle.qc_ops.specs.declared.op.Binary.{Binary}
use Rattle.qc_ops.specs.Operators.{unary, binary}

-- the datum is a value of the type: it fits, and the names of its records rise, as in each datum that code holds
pub record HasType (c : Defs) (d : Datum) (t : Ty) : Type 0 where
  pub fitting : IsTrue (fits c d t)
  pub records : IsTrue (rising d)

-- where there is a type, a value of it at any size, and within bounds the same value or Range
abbrev pub IsTyped : Defs → Option Ty → (Mode → Outcome Datum) → Type 0
IsTyped c None o = Unit {0}
IsTyped c (Some t) o =
    (v : Datum) × HasType c v t × (o any_size ≡ Value v)
    × ((low high : ℤ) → (o (within low high) ≡ Value v) ⊎ (o (within low high) ≡ Halts Range))

-- the type is right for each operand of the operand's type
abbrev pub IsSound1 : Defs → Unary → Ty → Option Ty → Type 0
IsSound1 c op a t = (d : Datum) → HasType c d a → IsTyped c t (λ m. unary m c op d)

-- the type is right for each two operands of the operands' types
abbrev pub IsSound2 : Defs → Binary → Ty → Ty → Option Ty → Type 0
IsSound2 c op a b t = (d e : Datum) → HasType c d a → HasType c e b → IsTyped c t (λ m. binary m op d e)
