-- Writes by the class of their variable.
use Rattle.std.proofs.Common.{◌≡◌, ℕ, true, false, [], ◌∷◌, Option, Some, None, refl}
use Rattle.qc_data.specs.Outcome.{Value, Halts, Stuck}
use Rattle.qc_data.specs.declared.data.Datum.{Datum}
use Rattle.qc_nnrs_store.specs.Variables.{Class, Reads, Sets, Pushes, set_at, push_at}
use Rattle.qc_nnrs_store.specs.Variables.{is_set, is_pushed}

pub set_there : (x : ℕ) (d : Datum) (c : Option Class) → is_set c ≡ true → set_at x d c ≡ Value ((x, d) ∷ [])
set_there x d None h = absurd (cc)
set_there x d (Some (Reads o)) h = absurd (cc)
set_there x d (Some Sets) h = refl
set_there x d (Some Pushes) h = absurd (cc)

pub set_nowhere : (x : ℕ) (d : Datum) (c : Option Class) → is_set c ≡ false → set_at x d c ≡ Halts Stuck
set_nowhere x d None h = refl
set_nowhere x d (Some (Reads o)) h = refl
set_nowhere x d (Some Sets) h = absurd (cc)
set_nowhere x d (Some Pushes) h = refl

pub pushed_there : (x : ℕ) (d : Datum) (c : Option Class) → is_pushed c ≡ true → push_at x d c ≡ Value ((x, d) ∷ [])
pushed_there x d None h = absurd (cc)
pushed_there x d (Some (Reads o)) h = absurd (cc)
pushed_there x d (Some Sets) h = absurd (cc)
pushed_there x d (Some Pushes) h = refl

pub pushed_nowhere : (x : ℕ) (d : Datum) (c : Option Class) → is_pushed c ≡ false → push_at x d c ≡ Halts Stuck
pushed_nowhere x d None h = refl
pushed_nowhere x d (Some (Reads o)) h = refl
pushed_nowhere x d (Some Sets) h = refl
pushed_nowhere x d (Some Pushes) h = absurd (cc)

pub ruleset set_writes = (set_there, set_nowhere)

pub ruleset pushed_writes = (pushed_there, pushed_nowhere)
