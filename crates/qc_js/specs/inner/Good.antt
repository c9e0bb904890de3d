-- The tokens that a spelling gives back.
use Rattle.std.specs.Prelude.{ℕ, List, [], ◌∷◌, Bool, true, false, ◌&&◌}
use Rattle.std.specs.Char.{is_ascii_alphabetic, is_ascii_alphanumeric}
use Rattle.std.specs.Str.{is_utf8}
use Rattle.qc_js.specs.declared.token.Token.{Token}
use Rattle.qc_js.specs.declared.token.Token.TheVariants.{Word, Int, Text, Mark}
use Rattle.qc_js.specs.Held.{is_bits64}
use Rattle.qc_js.specs.Spelling.{is_mark}

abbrev pub all_alphanumeric : List ℕ → Bool
all_alphanumeric [] = true
all_alphanumeric (b ∷ bs) = is_ascii_alphanumeric b && all_alphanumeric bs

abbrev pub is_word : List ℕ → Bool
is_word [] = false
is_word (b ∷ bs) = is_ascii_alphabetic b && all_alphanumeric bs

abbrev pub is_good : Token → Bool
is_good (Word w) = is_word w
is_good (Int n) = is_bits64 n
is_good (Text t) = is_utf8 t
is_good (Mark b) = is_mark b

abbrev pub all_good : List Token → Bool
all_good [] = true
all_good (t ∷ ts) = is_good t && all_good ts
