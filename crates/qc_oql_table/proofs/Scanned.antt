-- The kinds of a scan's tokens, one after the other.
use Rattle.std.proofs.Common.{◌≡◌, ◌≤◌, ◌<◌, ℕ, zero, suc, ◌+◌, List, [], ◌∷◌, ◌++◌, map, length, take, refl, sym, ap}
use Rattle.std.proofs.Common.{◌∙◌, arith}
use Rattle.std.specs.Prelude.{slice_get}
use Rattle.std.proofs.lemmas.List.{length-map, take_all}
use Rattle.qc_lex.specs.declared.token.Placed.{Placed}
use Rattle.qc_lex.specs.Words.{lexemes}
use Rattle.qc_oql_tree.specs.Lexemes.{kind, lexeme_or}

one_more : (ws : List Placed) (at : ℕ) → at < length ws
    → map kind (take (suc at) (lexemes ws)) ≡ map kind (take at (lexemes ws)) ++ kind (lexeme_or (slice_get ws at)) ∷ []
one_more [] at h = absurd (omega arith)
one_more (w ∷ ws) zero h = refl
one_more (w ∷ ws) (suc at) h = ap (λ ks. kind w.lexeme ∷ ks) (one_more ws at (omega arith))

-- the next kind
pub next_kind : (ws : List Placed) (at : ℕ) (ks : List ℕ) → at < length ws → ks ≡ map kind (take at (lexemes ws))
    → ks ++ kind (lexeme_or (slice_get ws at)) ∷ [] ≡ map kind (take (at + 1) (lexemes ws))
next_kind ws at ks h e =
    let n : at + 1 ≡ suc at = omega arith in
    rw n (ap (λ js. js ++ kind (lexeme_or (slice_get ws at)) ∷ []) e ∙ sym (one_more ws at h))

-- all kinds
pub all_kinds : (ws : List Placed) (at : ℕ) (ks : List ℕ) → length ws ≤ at → ks ≡ map kind (take at (lexemes ws))
    → ks ≡ map kind (lexemes ws)
all_kinds ws at ks h e = e ∙ ap (map kind) (take_all at (lexemes ws) (omega (arith, length-map ws (λ w. w.lexeme))))
