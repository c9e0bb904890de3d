-- What is a name, and whose.
use Rattle.std.specs.Prelude.{ℕ, List, [], ◌∷◌, Bool, not, ◌&&◌, ◌||◌, length, nat_lt, nat_le, codes, ◌≢◌}
use Rattle.std.specs.Str.{bytes_eq}

-- one of the four markers of encodings
abbrev pub is_marker : List ℕ → Bool
is_marker text =
    bytes_eq text (codes "$left")
    || (bytes_eq text (codes "$right") || (bytes_eq text (codes "$class") || bytes_eq text (codes "$data")))

-- a text of 1 to 64 bytes that is no marker
abbrev pub is_name : List ℕ → Bool
is_name text = nat_lt 0 (length text) && (nat_le (length text) 64 && not (is_marker text))

-- a text that does not begin with `$`
abbrev pub IsUser : List ℕ → Type 0
IsUser [] = Unit {0}
IsUser (c ∷ cs) = c ≢ 36
