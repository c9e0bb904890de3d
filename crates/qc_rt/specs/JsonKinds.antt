-- Trees by their kind.
use Rattle.std.specs.Prelude.{ℕ, Bool, true, false, not, cond, ◌&&◌, codes, is_some, List, [], ◌∷◌}
use Rattle.std.specs.Str.{bytes_eq}
use Rattle.qc_containers.specs.Pairs.{lookup}
use Rattle.qc_data.specs.Outcome.{Outcome, Value, Halts, Stuck, and_then}
use Rattle.qc_data.specs.declared.data.Json.{Json}
use Rattle.qc_data.specs.declared.data.Json.TheOpen.{Json-F}
use Rattle.qc_data.specs.declared.data.Json.TheViews.{out-Json}
use Rattle.qc_ops.specs.Operands.{only_if}
use Rattle.qc_rt.specs.Seen.{has_marker}

-- the name is there
abbrev pub has_name : {A : Type 0} → List ℕ → List (List ℕ × A) → Bool
has_name name ps = is_some (lookup name ps)

-- by the outermost layer of a tree
abbrev pub truth_at : Json-F Json → Outcome Bool
truth_at (Json-F.Bool b) = Value b
truth_at _ = Halts Stuck

abbrev pub text_at : Json-F Json → Outcome (List ℕ)
text_at (Json-F.Text s) = Value s
text_at _ = Halts Stuck

abbrev pub members_at : Json-F Json → Outcome (List (List ℕ × Json))
members_at (Json-F.Object ms) = Value ms
members_at _ = Halts Stuck

-- the truth value, the text and the members that the tree is
abbrev pub json_bool : Json → Outcome Bool
json_bool j = truth_at (out-Json j)

abbrev pub json_text : Json → Outcome (List ℕ)
json_text j = text_at (out-Json j)

abbrev pub json_members : Json → Outcome (List (List ℕ × Json))
json_members j = members_at (out-Json j)

-- the members of a plain object
abbrev pub plain_members : Json → Outcome (List (List ℕ × Json))
plain_members j = and_then (json_members j) (λ ms. only_if (not (has_marker ms)) (Value ms))

-- a class's value of the class, which is a text, and the content
abbrev pub class_named : Json → Json → Outcome (List ℕ × Json)
class_named j content = and_then (json_text j) (λ name. Value (name, content))

-- the same of two members
abbrev pub class_of_two : List ℕ × Json → List ℕ × Json → Outcome (List ℕ × Json)
class_of_two p q = only_if (bytes_eq p.0 (codes "$class") && bytes_eq q.0 (codes "$data")) (class_named p.1 q.1)

-- the class and the content of a class's value, by its members
abbrev pub class_in : List (List ℕ × Json) → Outcome (List ℕ × Json)
class_in [] = Halts Stuck
class_in (p ∷ []) = Halts Stuck
class_in (p ∷ q ∷ []) = class_of_two p q
class_in (p ∷ q ∷ r ∷ ps) = Halts Stuck

-- the class and the content of the class's value that the tree is
abbrev pub json_class : Json → Outcome (List ℕ × Json)
json_class j = and_then (json_members j) class_in

-- whether a side of the name is the left one, and what is there
abbrev pub side_named : List ℕ → Json → Outcome (Bool × Json)
side_named name content =
    cond (bytes_eq name (codes "$left")) (Value (true, content))
    (cond (bytes_eq name (codes "$right")) (Value (false, content)) (Halts Stuck))

-- the same by the members of an object
abbrev pub side_in : List (List ℕ × Json) → Outcome (Bool × Json)
side_in [] = Halts Stuck
side_in (p ∷ []) = side_named p.0 p.1
side_in (p ∷ q ∷ ps) = Halts Stuck

-- whether what the tree has on a side is on the left one, and what it is
abbrev pub json_side : Json → Outcome (Bool × Json)
json_side j = and_then (json_members j) side_in
