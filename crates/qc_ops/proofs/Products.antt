-- Products of two integers of 64 bits, made in 128.
use Rattle.std.proofs.Common.{◌≡◌, ℤ, ◌*ℤ◌, ◌^◌, w64, to_z, of_z, FitsSigned, ◌∙◌, lit<}
use Rattle.std.specs.Int.Signed.{nat_abs-le}
use Rattle.std.proofs.lemmas.Int.{to_z-of_z, fits_signed_mul}
use mir.Syntax.{w128}
use mir.Val.{SFits}

-- an integer of 64 bits in 128
widened : (x p : ℤ) → SFits w64 x → SFits w128 p → p ≡ to_z w64 (of_z w64 x) → to_z w128 (of_z w128 p) ≡ x
widened x p fits wide is = to_z-of_z w128 p wide ∙ is ∙ to_z-of_z w64 x fits

product_fits : (x y : ℤ) → SFits w64 x → SFits w64 y → FitsSigned w128 (x *ℤ y)
product_fits x y f g =
    fits_signed_mul w128 x y (2 ^ 63) (2 ^ 63) (nat_abs-le x f.sfits) (nat_abs-le y g.sfits) (lit< tt)

pub product_is : (x y p q : ℤ) → SFits w64 x → SFits w64 y → SFits w128 p → SFits w128 q → p ≡ to_z w64 (of_z w64 x)
    → q ≡ to_z w64 (of_z w64 y) → to_z w128 (of_z w128 (to_z w128 (of_z w128 p) *ℤ to_z w128 (of_z w128 q))) ≡ x *ℤ y
product_is x y p q f g wide wide' ex ey =
    rw (widened x p f wide ex, widened y q g wide' ey) (to_z-of_z w128 (x *ℤ y) (product_fits x y f g))
