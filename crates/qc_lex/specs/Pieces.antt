-- What a piece of the bytes stands for.
use Rattle.std.specs.Prelude.{ℕ, ◌+◌, ◌-◌, ◌*◌, Bool, true, false, ◌==◌, ◌&&◌, not, nat_le, if◌then◌else◌, List, []}
use Rattle.std.specs.Prelude.{◌∷◌, ◌++◌, length}

-- the number that digits spell, behind the number that earlier digits spell
abbrev pub value_after : ℕ → List ℕ → ℕ
value_after n [] = n
value_after n (d ∷ ds) = value_after (10 * n + (d - 48)) ds

-- the number that digits spell
abbrev pub value : List ℕ → ℕ
value digits = value_after 0 digits

-- bytes with each quote among them doubled
abbrev pub doubled : ℕ → List ℕ → List ℕ
doubled quote [] = []
doubled quote (b ∷ bs) = if b == quote then b ∷ b ∷ doubled quote bs else b ∷ doubled quote bs

-- a content between quotes
abbrev pub quoted : ℕ → List ℕ → List ℕ
quoted quote content = quote ∷ (doubled quote content ++ quote ∷ [])

-- bytes with the second quote of each two in place of both, and without a last quote that is alone; `second` says
-- that a first one came just before
abbrev pub undoubled : ℕ → Bool → List ℕ → List ℕ
undoubled quote second [] = []
undoubled quote second (b ∷ bs) = if b == quote
    then (if second then b ∷ undoubled quote false bs else undoubled quote true bs)
    else b ∷ undoubled quote false bs

-- the content of a piece between quotes: it undoes `quoted`
abbrev pub content : List ℕ → List ℕ
content [] = []
content (quote ∷ bs) = undoubled quote false bs

-- names that a user may give: 1 to 64 bytes, of which `$` is not the first
abbrev pub is_user_name : List ℕ → Bool
is_user_name [] = false
is_user_name (b ∷ bs) = not (b == 36) && nat_le (length (b ∷ bs)) 64
