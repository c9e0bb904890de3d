-- The numbers that variables of statements have in programs.
use Rattle.std.specs.Prelude.{ℕ, ◌==◌, cond, List, [], ◌∷◌}
use Rattle.qc_to_imp.specs.declared.numbering.Numbering.{Numbering}
use Rattle.qc_to_imp.specs.declared.numbering.Numbering.TheVariants.{Empty, Under'}

-- the variables with their numbers, the newest first
abbrev pub Numbers : Type 0
Numbers = List (ℕ × ℕ)

-- the number of a variable: of pairs with one variable the newest counts, and one without a pair has 0
abbrev pub number_of : ℕ → Numbers → ℕ
number_of x [] = 0
number_of x (p ∷ r) = cond (p.0 == x) p.1 (number_of x r)

-- the pairs of a chain, the newest first
abbrev pub pairs_of : Numbering → Numbers
pairs_of Empty = []
pairs_of (Under' x n p outer) = (x, n) ∷ pairs_of outer
