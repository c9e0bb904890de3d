-- What the check of a statement does to the variables in scope.
use Rattle.std.specs.Prelude.{◌≡◌, Bool, true, false, Option, Some, None, take, length}
use Rattle.qc_js.specs.WellFormed.{Scope}

abbrev pub IsFront : Scope → Scope → Type 0
IsFront old new = take (length old) new ≡ old

-- whether there is a scope behind it, and then it is the new one, of which the old one is a front
abbrev pub Steps : Bool → Option Scope → Scope → Scope → Type 0
Steps true o old new = (o ≡ Some new) × IsFront old new
Steps false o old new = o ≡ None
