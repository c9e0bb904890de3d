-- Laws of passes one after another.
use Rattle.std.proofs.Common.{ℕ, arith}
use Rattle.std.proofs.Math.Nat.{mul-le-mul_left}
use Rattle.std.specs.Prelude.{Option, Some, None}
use Rattle.qc_data.specs.Outcome.{Mode, Outcome}
use Rattle.qc_data.specs.declared.data.Datum.{Datum}
use Rattle.qc_data.proofs.Outcomes.{kept_same, kept_twice}
use Rattle.qc_types.specs.Schemas.{SchemaOf, WorldOf}
use Rattle.qc_lang.specs.Growth.{IsGrown, grows_after}
use Rattle.qc_lang.specs.Keeping.{Keeps}

-- growth multiplies
pub grown_after : (first second : Option ℕ) (a b c : ℕ) → IsGrown first a b → IsGrown second b c
    → IsGrown (grows_after first second) a c
grown_after None second a b c p q = tt
grown_after (Some g) None a b c p q = tt
grown_after (Some g) (Some h) a b c p q = omega (arith, mul-le-mul_left h p)

-- a tree keeps its own values
pub keeps_same : (s : SchemaOf) (a : Mode → WorldOf → Outcome Datum) → Keeps s a a
keeps_same s a = record { kept = λ m w h. kept_same (a m w) }

-- and what keeps the values of a tree that keeps a third's keeps the third's
pub keeps_twice : (s : SchemaOf) (a b c : Mode → WorldOf → Outcome Datum) → Keeps s a b → Keeps s b c → Keeps s a c
keeps_twice s a b c h k = record { kept = λ m w i. kept_twice (a m w) (b m w) (c m w) (h.kept m w i) (k.kept m w i) }
