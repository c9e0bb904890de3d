-- The lexemes of a scan, one after the other, for a reader of them.
use Rattle.std.proofs.Common.{◌≡◌, ℕ, zero, suc, ◌≤◌, List, [], ◌∷◌, length, drop, Some, slice_get, ap, ◌∙◌, refl}
use Rattle.std.proofs.Common.{arith}
use Rattle.qc_lex.specs.declared.token.Kind.{Kind}
use Rattle.qc_lex.specs.declared.token.Lexeme.{Lexeme}
use Rattle.qc_lex.specs.declared.token.Placed.{Placed}
use Rattle.qc_lex.specs.Tokens.{lexeme_of}
use Rattle.qc_lex.specs.Words.{lexemes, kind_at, piece_at}

-- at a place within the list the next lexeme is that of its word
pub next_lexeme : (words : List Placed) (at : ℕ) (word : Placed) → slice_get words at ≡ Some word
    → drop at (lexemes words) ≡ word.lexeme ∷ drop (suc at) (lexemes words)
next_lexeme [] at word e = absurd cc
next_lexeme (w ∷ ws) zero word e = let same : w ≡ word = cc in ap (λ (v : Placed). v.lexeme ∷ lexemes ws) same
next_lexeme (w ∷ ws) (suc at) word e = next_lexeme ws at word e

-- it has the kind and the piece that are read there
pub next_of : (words : List Placed) (at : ℕ) (kind : Kind) (piece : List ℕ) → kind_at words at ≡ Some kind
    → piece_at words at ≡ Some piece
    → drop at (lexemes words) ≡ lexeme_of kind piece ∷ drop (suc at) (lexemes words)
next_of [] at kind piece k p = absurd cc
next_of (w ∷ ws) zero kind piece k p =
    let of_kind : w.lexeme.kind ≡ kind = cc in
    let of_piece : w.lexeme.piece ≡ piece = cc in
    let same : w.lexeme ≡ lexeme_of kind piece = ap (λ (j : Kind). lexeme_of j w.lexeme.piece) of_kind
    ∙ ap (lexeme_of kind) of_piece in
    ap (λ (x : Lexeme). x ∷ lexemes ws) same
next_of (w ∷ ws) (suc at) kind piece k p = next_of ws at kind piece k p

-- past its end there is none
pub no_lexeme : (words : List Placed) (at : ℕ) → length words ≤ at → drop at (lexemes words) ≡ []
no_lexeme [] zero l = refl
no_lexeme [] (suc at) l = refl
no_lexeme (w ∷ ws) zero l = absurd (omega arith)
no_lexeme (w ∷ ws) (suc at) l = no_lexeme ws at (omega arith)
