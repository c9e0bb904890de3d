-- What functions answer where a type is wanted.
use Rattle.std.specs.Prelude.{◌≡◌, Option, Some, None, Result, Ok, Err}
use Rattle.qc_trees.specs.declared.untyped.NoType.{NoType}
use Rattle.qc_trees.specs.declared.untyped.NoType.TheVariants.{Untyped, Memory}

-- what is there, or that it is not, unless memory was wanting
abbrev pub Infers : {A : Type 0} → Option A → Result A NoType → Type 0
Infers o (Ok a) = o ≡ Some a
Infers o (Err Untyped) = o ≡ None
Infers o (Err Memory) = Unit {0}
