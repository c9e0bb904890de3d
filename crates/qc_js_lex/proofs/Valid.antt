-- Bytes that are UTF-8, or not.
use Rattle.std.proofs.Common.{◌≡◌, ℕ, List, Bool, true, false, Some, None, if◌then◌else◌, ap, refl}
use Rattle.std.specs.Str.{IsUtf8, is_utf8}
use Rattle.std.proofs.lemmas.Str.{is_utf8-from_IsUtf8, IsUtf8-from_is_utf8}
use Rattle.qc_js_lex.specs.declared.lexeme.Lexeme.{Lexeme}
use Rattle.qc_js_lex.specs.Lexemes.{word_lexeme}

is_false : (b : Bool) → (b ≡ true → ⊥) → b ≡ false
is_false true h = absurd (h refl)
is_false false h = refl

pub valid : (xs c : List ℕ) → IsUtf8 xs → c ≡ xs → Some c ≡ (if is_utf8 xs then Some xs else None)
valid xs c u e = rw (is_utf8-from_IsUtf8 xs u) (ap (λ (l : List ℕ). Some l) e)

pub invalid : (xs : List ℕ) → (IsUtf8 xs → ⊥) → None ≡ (if is_utf8 xs then Some xs else None)
invalid xs n = rw (is_false (is_utf8 xs) (λ e. n (IsUtf8-from_is_utf8 xs e))) refl

pub word : (xs : List ℕ) (l : Lexeme) → IsUtf8 xs → l ≡ word_lexeme xs
    → Some l ≡ (if is_utf8 xs then Some (word_lexeme xs) else None)
word xs l u e = rw (is_utf8-from_IsUtf8 xs u) (ap (λ (z : Lexeme). Some z) e)

pub no_word : (xs : List ℕ) → (IsUtf8 xs → ⊥) → None ≡ (if is_utf8 xs then Some (word_lexeme xs) else None)
no_word xs n = rw (is_false (is_utf8 xs) (λ e. n (IsUtf8-from_is_utf8 xs e))) refl
