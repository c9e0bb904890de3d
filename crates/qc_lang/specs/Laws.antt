-- Laws of growth that a pass's own laws cite.
use Rattle.std.specs.Prelude.{ℕ, Option, Some, None}
use Rattle.std.proofs.Common.{arith}
use Rattle.std.proofs.Math.Nat.{mul-le-mul_left}
use Rattle.qc_lang.specs.Growth.{IsGrowth, grows_after}

-- two passes that grow at least once do so together
pub growth_after : (first second : Option ℕ) → IsGrowth first → IsGrowth second → IsGrowth (grows_after first second)
growth_after None second p q = tt
growth_after (Some g) None p q = tt
growth_after (Some g) (Some h) p q = omega (arith, mul-le-mul_left g q)
