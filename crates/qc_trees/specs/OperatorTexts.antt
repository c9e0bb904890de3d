-- The written form of names, of operators and of forms. Parts stand one space apart, in parentheses.
use Rattle.std.specs.Prelude.{ℕ, Bool, false, ◌&&◌, ◌||◌, ◌==◌, cond, List, [], ◌∷◌, ◌++◌, codes, decimal}
use Rattle.std.specs.Char.{is_ascii_alphabetic, is_ascii_alphanumeric}
use Rattle.std.specs.List.{list_all}
use Rattle.qc_data.specs.declared.data.Json.TheVariants.{Int, Text}
use Rattle.qc_ops.specs.declared.op.Unary.{Unary}
use Rattle.qc_ops.specs.declared.op.Unary.TheVariants as one
use Rattle.qc_ops.specs.declared.op.Binary.{Binary}
use Rattle.qc_ops.specs.declared.op.Binary.TheVariants as two
use Rattle.qc_schema.specs.Writing.{text_of}

-- ---- names

-- letters and the underscore
abbrev pub begins_word : ℕ → Bool
begins_word b = is_ascii_alphabetic b || (b == 95)

-- letters, digits and the underscore
abbrev pub in_word : ℕ → Bool
in_word b = is_ascii_alphanumeric b || (b == 95)

-- a letter or an underscore, and then letters, digits and underscores
abbrev pub is_word : List ℕ → Bool
is_word [] = false
is_word (b ∷ bs) = begins_word b && list_all in_word bs

-- a name that is a word as it stands, and any other as a JSON text
abbrev pub name_text : List ℕ → List ℕ
name_text name = cond (is_word name) name (text_of (Text name))

-- a variable: v and its number in decimal
abbrev pub variable_text : ℕ → List ℕ
variable_text x = codes "v" ++ decimal x

-- names, each behind a space
abbrev pub after_spaces : List (List ℕ) → List ℕ
after_spaces [] = codes ")"
after_spaces (name ∷ names) = codes " " ++ (name_text name ++ after_spaces names)

-- a list of names
abbrev pub names_text : List (List ℕ) → List ℕ
names_text [] = codes "()"
names_text (name ∷ names) = codes "(" ++ (name_text name ++ after_spaces names)

-- a name with its direction
abbrev pub key_text : List ℕ × Bool → List ℕ
key_text key = name_text key.0 ++ cond key.1 (codes " asc") (codes " desc")

-- keys, each behind a space
abbrev pub keys_after : List (List ℕ × Bool) → List ℕ
keys_after [] = codes ")"
keys_after (key ∷ keys) = codes " " ++ (key_text key ++ keys_after keys)

-- a list of keys
abbrev pub keys_text : List (List ℕ × Bool) → List ℕ
keys_text [] = codes "()"
keys_text (key ∷ keys) = codes "(" ++ (key_text key ++ keys_after keys)

-- ---- operators

-- an operator on one value, with its parameters; a divisor is written as a JSON number, and a pattern as a JSON text
abbrev pub unary_text : Unary → List ℕ
unary_text one.Not = codes "not"
unary_text one.Neg = codes "neg"
unary_text one.Abs = codes "abs"
unary_text (one.DivBy k) = codes "divby " ++ text_of (Int k)
unary_text (one.ModBy k) = codes "modby " ++ text_of (Int k)
unary_text one.Count = codes "count"
unary_text one.Sum = codes "sum"
unary_text one.Min = codes "min"
unary_text one.Max = codes "max"
unary_text one.Avg = codes "avg"
unary_text one.Element = codes "element"
unary_text one.Flatten = codes "flatten"
unary_text one.Distinct = codes "distinct"
unary_text one.Single = codes "single"
unary_text (one.Rec name) = codes "rec " ++ name_text name
unary_text (one.Dot name) = codes "dot " ++ name_text name
unary_text (one.Project names) = codes "project " ++ names_text names
unary_text one.Left = codes "left"
unary_text one.Right = codes "right"
unary_text (one.Brand name) = codes "brand " ++ name_text name
unary_text one.Unbrand = codes "unbrand"
unary_text (one.Cast name) = codes "cast " ++ name_text name
unary_text (one.Order keys) = codes "order " ++ keys_text keys
unary_text (one.Group name names) = codes "group " ++ (name_text name ++ (codes " " ++ names_text names))
unary_text (one.Like pattern) = codes "like " ++ text_of (Text pattern)

-- an operator on two values
abbrev pub binary_text : Binary → List ℕ
binary_text two.Eq = codes "eq"
binary_text two.Lt = codes "lt"
binary_text two.Le = codes "le"
binary_text two.And = codes "and"
binary_text two.Or = codes "or"
binary_text two.Add = codes "add"
binary_text two.Sub = codes "sub"
binary_text two.Mul = codes "mul"
binary_text two.Least = codes "least"
binary_text two.Greatest = codes "greatest"
binary_text two.Union = codes "union"
binary_text two.Except = codes "except"
binary_text two.Intersect = codes "intersect"
binary_text two.Member = codes "member"
binary_text two.Cat = codes "cat"
binary_text two.Merge = codes "merge"
binary_text two.Glue = codes "glue"

-- ---- forms

-- a head and a first part behind it
abbrev pub opened : List ℕ → List ℕ → List ℕ
opened head a = codes "(" ++ (head ++ (codes " " ++ a))

-- a further part
abbrev pub next : List ℕ → List ℕ
next a = codes " " ++ a

-- a head with one, two or three parts
abbrev pub with_one : List ℕ → List ℕ → List ℕ
with_one head a = opened head a ++ codes ")"

abbrev pub with_two : List ℕ → List ℕ → List ℕ → List ℕ
with_two head a b = opened head a ++ (next b ++ codes ")")

abbrev pub with_three : List ℕ → List ℕ → List ℕ → List ℕ → List ℕ
with_three head a b c = opened head a ++ (next b ++ (next c ++ codes ")"))
