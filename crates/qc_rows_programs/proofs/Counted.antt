-- The nodes of statements in order.
use Rattle.std.proofs.Common.{◌≡◌, ◌∙◌, ◌+◌, ℕ, List, [], ◌∷◌, ◌++◌, ap, map}
use Rattle.std.proofs.lemmas.List.{map-append}
use Rattle.std.proofs.lemmas.List.Sums.{fold-append}
use Rattle.std.specs.Prelude.{sum}
use Rattle.qc_imp.specs.declared.tree.ImpStmt.{ImpStmt}
use Rattle.qc_imp.specs.Sizes.{stmt_size}

-- a statement behind others adds its nodes to theirs
pub counted_behind : (ss : List ImpStmt) (s : ImpStmt)
    → sum (map stmt_size (ss ++ s ∷ [])) ≡ sum (map stmt_size ss) + stmt_size s
counted_behind ss s =
    ap sum (map-append stmt_size ss (s ∷ [])) ∙ fold-append ◌+◌ 0 (map stmt_size ss) (stmt_size s ∷ [])
