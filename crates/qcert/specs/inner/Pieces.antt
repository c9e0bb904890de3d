-- Lines in pieces.
use Rattle.std.specs.Prelude.{ℕ, List, [], ◌∷◌, ◌++◌}

-- the pieces, one behind the other
abbrev pub all_pieces : List (List ℕ) → List ℕ
all_pieces [] = []
all_pieces (piece ∷ pieces) = piece ++ all_pieces pieces
