-- Checks of whole trees: what is there, or the place of the first fault, which is the number of a token.
use Rattle.std.specs.Prelude.{◌≡◌, ℕ, Bool, true, false, List, [], ◌∷◌, Option, Some, None, Result, Ok, Err}
use Rattle.qc_typing.specs.declared.fault.TypeFault.{TypeFault}
use Rattle.qc_typing.specs.declared.fault.TypeFault.TheVariants as fault

-- goes on from what is there; the first fault decides
abbrev pub and_check : {A B : Type 0} → Result A ℕ → (A → Result B ℕ) → Result B ℕ
and_check (Ok a) f = f a
and_check (Err at) f = Err at

-- what is there, or else a fault at the place
abbrev pub or_fault : {A : Type 0} → ℕ → Option A → Result A ℕ
or_fault at None = Err at
or_fault at (Some a) = Ok a

-- a fault at the place, unless the test is true
abbrev pub need : ℕ → Bool → Result (Unit {0}) ℕ
need at true = Ok tt
need at false = Err at

-- what the members give, in order
abbrev pub each_checked : {A B : Type 0} → (A → Result B ℕ) → List A → Result (List B) ℕ
each_checked f [] = Ok []
each_checked f (x ∷ xs) = and_check (f x) (λ y. and_check (each_checked f xs) (λ ys. Ok (y ∷ ys)))

-- the code's answer is that of the check, unless memory was wanting
abbrev pub Checks : {A : Type 0} → Result A ℕ → Result A TypeFault → Type 0
Checks r (Ok a) = r ≡ Ok a
Checks r (Err (fault.BadType at)) = r ≡ Err at
Checks r (Err fault.Memory) = Unit {0}
