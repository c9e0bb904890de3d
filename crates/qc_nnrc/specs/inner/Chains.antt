-- What variables stand for in chains of bindings, and operands that are not copied, as private functions answer them.
use Rattle.std.specs.Prelude.{◌≡◌, ◌≢◌, ℕ, List, ◌∷◌, Result, Ok, Err}
use Rattle.qc_nnrc.specs.declared.chain.Chain.{Chain}
use Rattle.qc_nnrc.specs.declared.chain.Chain.TheVariants.{Whole, Bind'}

-- the pairs of a chain, the newest first
abbrev pub pairs_of : {T : Type 0} → Chain T → List (ℕ × T)
pairs_of (Whole map) = map.now
pairs_of (Bind' x value p outer) = (x, value.now) ∷ pairs_of outer
