-- The calls of a device in memory: which are to fail, and how many there were.
use Rattle.std.specs.Prelude.{ℕ, ◌+◌, ◌-◌, ◌^◌, min, List, [], ◌∷◌, ◌++◌, Contains}

-- the numbers of the calls that are to fail, from 1, and how many calls and faults there were
pub record CallsState : Type 0 where
  pub failing : List ℕ
  pub made : ℕ
  pub faults : ℕ

-- no call so far, and none that is to fail
abbrev pub no_calls : CallsState
no_calls = record { failing = []; made = 0; faults = 0 }

-- one more, or the last value of a count, from which it can't rise
abbrev pub next : ℕ → ℕ
next count = min (count + 1) (2 ^ 64 - 1)

-- the next call is to fail
abbrev pub FailsNext : CallsState → Type 0
FailsNext calls = Contains calls.failing (next calls.made)

-- one more call is to fail
abbrev pub with_failing : CallsState → ℕ → CallsState
with_failing calls call = record calls { failing = calls.failing ++ call ∷ [] }

-- one more call was made
abbrev pub with_call : CallsState → CallsState
with_call calls = record calls { made = next calls.made }

-- one more fault came
abbrev pub with_fault : CallsState → CallsState
with_fault calls = record calls { faults = next calls.faults }
