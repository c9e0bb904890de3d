-- How large the output of a pass may be, and which inputs two passes take as one.
use Rattle.std.specs.Prelude.{ℕ, ◌≤◌, ◌*◌, ◌/◌, min, Option, Some, None}

-- the output is at most so many times as large, where that is known
abbrev pub IsGrown : Option ℕ → ℕ → ℕ → Type 0
IsGrown None from to = Unit {0}
IsGrown (Some times) from to = to ≤ times * from

-- at least once, where that is known
abbrev pub IsGrowth : Option ℕ → Type 0
IsGrowth None = Unit {0}
IsGrowth (Some times) = 1 ≤ times

-- the most that a first pass and then a second take: what both take, and nothing where the first may grow without bound
abbrev pub most_after : ℕ → Option ℕ → ℕ → ℕ
most_after first None second = 0
most_after first (Some times) second = min first (second / times)

-- how a first pass and then a second grow
abbrev pub grows_after : Option ℕ → Option ℕ → Option ℕ
grows_after None second = None
grows_after (Some first) None = None
grows_after (Some first) (Some second) = Some (first * second)
