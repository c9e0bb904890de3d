-- Modes and outcomes of a computation.
use Rattle.std.specs.Prelude.{◌≡◌, ◌≢◌, ℤ, pos, negsuc, ◌^◌, ◌-◌, int_le, ◌&&◌, if◌then◌else◌, List, [], ◌∷◌, ◌++◌}
use Rattle.std.specs.Prelude.{Result, Ok, Err}
use Rattle.std.specs.Borrow.{Bor}
use Rattle.qc_data.specs.declared.halt.Halt.{Halt}
use Rattle.qc_data.specs.declared.halt.Halt.TheVariants as halt

-- integers of any size, or integers from low to high
pub data Mode : Type 0 where
  any_size : Mode
  within : (low high : ℤ) → Mode

-- integers of 64 bits
abbrev pub bits64 : Mode
bits64 = within (negsuc (2 ^ 63 - 1)) (pos (2 ^ 63 - 1))

-- why there is no value: an integer out of the mode's bounds, or a value of a wrong kind
pub data Why : Type 0 where
  Range : Why
  Stuck : Why

pub data Outcome (A : Type 0) : Type 0 where
  Value : A → Outcome A
  Halts : Why → Outcome A

-- the integer, where the mode has it
abbrev pub bound : Mode → ℤ → Outcome ℤ
bound any_size n = Value n
bound (within low high) n = if int_le low n && int_le n high then Value n else Halts Range

-- goes on from a value; the first outcome that is none decides
abbrev pub and_then : {A B : Type 0} → Outcome A → (A → Outcome B) → Outcome B
and_then (Value a) f = f a
and_then (Halts why) f = Halts why

-- the lists that the members give, in order and joined
abbrev pub gather : {A B : Type 0} → (A → Outcome (List B)) → List A → Outcome (List B)
gather f [] = Value []
gather f (x ∷ xs) = and_then (f x) (λ ys. and_then (gather f xs) (λ zs. Value (ys ++ zs)))

-- the value as the one member of a list
abbrev pub alone : {A : Type 0} → Outcome A → Outcome (List A)
alone o = and_then o (λ x. Value (x ∷ []))

-- the values that the members give, in order
abbrev pub each : {A B : Type 0} → (A → Outcome B) → List A → Outcome (List B)
each f xs = gather (λ x. alone (f x)) xs

-- the values of outcomes, in order
abbrev pub in_order : {A : Type 0} → List (Outcome A) → Outcome (List A)
in_order outcomes = each (λ o. o) outcomes

-- why code has no value; want of memory is none of these and is never asked for
abbrev pub why_of : Halt → Why
why_of halt.Range = Range
why_of halt.Stuck = Stuck
why_of halt.Memory = Stuck

-- the code's answer is the outcome, unless memory was wanting
abbrev pub Gives : {A : Type 0} → Outcome A → Result A Halt → Type 0
Gives o (Ok v) = o ≡ Value v
Gives o (Err e) = e ≢ halt.Memory → o ≡ Halts (why_of e)

-- the same for code that answers a reference
abbrev pub GivesRef : {A : Type 0} → Outcome A → Result (Bor A) Halt → Type 0
GivesRef o (Ok v) = o ≡ Value v.now
GivesRef o (Err e) = e ≢ halt.Memory → o ≡ Halts (why_of e)

-- a value of the first outcome is the second's
abbrev pub IsKept : {A : Type 0} → Outcome A → Outcome A → Type 0
IsKept (Value v) o = o ≡ Value v
IsKept (Halts why) o = Unit {0}

-- the two laws between modes: a value in bounds is the value at any size, and a value at any size is in bounds the same
-- or Range
abbrev pub Agrees : {A : Type 0} → Outcome A → Outcome A → Type 0
Agrees any (Value v) = any ≡ Value v
Agrees any (Halts Range) = Unit {0}
Agrees any (Halts Stuck) = (v : _) → any ≢ Value v
