-- Tests of UTF-8.
use Rattle.std.proofs.Common.{◌≡◌, ℕ, List, Bool, true, false, refl}
use Rattle.std.specs.Str.{IsUtf8, is_utf8}
use Rattle.std.proofs.lemmas.Str.{is_utf8-from_IsUtf8, IsUtf8-from_is_utf8}

pub not_true : (b : Bool) → (b ≡ true → ⊥) → b ≡ false
not_true true h = absurd (h refl)
not_true false h = refl

pub valid : (bytes : List ℕ) → IsUtf8 bytes → is_utf8 bytes ≡ true
valid bytes u = is_utf8-from_IsUtf8 bytes u

pub invalid : (bytes : List ℕ) → (IsUtf8 bytes → ⊥) → is_utf8 bytes ≡ false
invalid bytes n = not_true (is_utf8 bytes) (λ e. n (IsUtf8-from_is_utf8 bytes e))
