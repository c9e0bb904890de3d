-- The tokens of a scan, one after the other.
use Rattle.std.proofs.Common.{◌≡◌, ℕ, zero, suc, List, [], ◌∷◌, refl}
use Rattle.std.specs.Prelude.{slice_get}
use Rattle.qc_lex.specs.declared.token.Placed.{Placed}
use Rattle.qc_lex.specs.Words.{lexemes}
use Rattle.qc_oql_tree.specs.Lexemes.{lexeme_or, token_or}

-- a token of the scan is one of its lexemes
pub same_token : (ws : List Placed) (at : ℕ) → lexeme_or (slice_get ws at) ≡ token_or (slice_get (lexemes ws) at)
same_token [] at = refl
same_token (w ∷ ws) zero = refl
same_token (w ∷ ws) (suc at) = same_token ws at
