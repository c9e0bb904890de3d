-- A text that code holds is in UTF-8.
use Rattle.std.proofs.Common.{◌≡◌, ℕ, List, true, subst}
use Rattle.std.specs.Str.{IsUtf8, is_utf8}
use Rattle.std.proofs.lemmas.Str.{is_utf8-from_IsUtf8}

pub valid : (xs text : List ℕ) → IsUtf8 xs → xs ≡ text → is_utf8 text ≡ true
valid xs text u e = subst (λ z. is_utf8 z ≡ true) e (is_utf8-from_IsUtf8 xs u)
