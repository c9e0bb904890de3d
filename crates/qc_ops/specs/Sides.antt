-- Sides of sums, and values of classes.
use Rattle.std.specs.Prelude.{ℕ, Bool, cond, ◌||◌, List, Some, None}
use Rattle.std.specs.Str.{bytes_eq}
use Rattle.qc_data.specs.Outcome.{Outcome, Value, Halts, Stuck, and_then}
use Rattle.qc_data.specs.declared.data.Datum.{Datum}
use Rattle.qc_data.specs.declared.data.Datum.TheOpen.{Datum-F}
use Rattle.qc_data.specs.declared.data.Datum.TheViews.{out-Datum}
use Rattle.qc_data.specs.declared.data.Datum.TheVariants.{Left, Right, Brand}
use Rattle.qc_types.specs.Classes.{Defs, below}
use Rattle.qc_ops.specs.Operands.{as_brand, optional}

-- left, right
abbrev pub on_left : Datum → Outcome Datum
on_left a = Value (Left a)

abbrev pub on_right : Datum → Outcome Datum
on_right a = Value (Right a)

-- brand: everything is taken
abbrev pub class_value : List ℕ → Datum → Outcome Datum
class_value name a = Value (Brand name a)

-- unbrand
abbrev pub content : Datum → Outcome Datum
content a = and_then (as_brand a) (λ b. Value b.1)

-- the first class is the second, which need not be listed, or below it
abbrev pub is_under : Defs → List ℕ → List ℕ → Bool
is_under c name other = bytes_eq name other || below c name other

-- cast
abbrev pub cast : Defs → List ℕ → Datum → Outcome Datum
cast c name a = and_then (as_brand a) (λ b. Value (optional (cond (is_under c b.0 name) (Some a) None)))

-- by the outermost layer of a datum, what its left and its right content give
abbrev pub side_at : {A : Type 0} → (Datum → Outcome A) → (Datum → Outcome A) → Datum-F Datum → Outcome A
side_at f g (Datum-F.Left d) = f d
side_at f g (Datum-F.Right d) = g d
side_at f g _ = Halts Stuck

-- what the content of a left and of a right value gives
abbrev pub by_side : {A : Type 0} → (Datum → Outcome A) → (Datum → Outcome A) → Datum → Outcome A
by_side f g d = side_at f g (out-Datum d)
