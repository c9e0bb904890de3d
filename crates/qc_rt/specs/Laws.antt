-- On operands that encode data, each function gives the encoding of the operator's value.
use Rattle.std.specs.Prelude.{◌≡◌, ◌≢◌, ℕ, pos, Bool, true, false, not, ◌&&◌, List, [], ◌∷◌, ◌++◌, map}
use Rattle.std.specs.List.{AllByRecursion}
use Rattle.qc_containers.specs.Name.{is_marker}
use Rattle.qc_data.specs.Encoding.{enc, encoded}
use Rattle.qc_data.specs.Facts.{all_true, all_values}
use Rattle.qc_data.specs.Outcome.{Mode}
use Rattle.qc_data.specs.declared.data.Datum.{Datum}
use Rattle.qc_data.specs.declared.data.Datum.TheOpen.{Datum-F}
use Rattle.qc_data.specs.declared.data.Datum.TheFolds.{fold-Datum}
use Rattle.qc_data.specs.declared.data.Json.{Json}
use Rattle.qc_data.specs.declared.data.Json.TheVariants.{Bool as Truth, Int, Text, Array}
use Rattle.qc_ops.specs.Operators.{unary, binary}
use Rattle.qc_ops.specs.Records.{is_among}
use Rattle.qc_ops.specs.Sides.{is_under}
use Rattle.qc_ops.specs.declared.op.Unary.{Unary}
use Rattle.qc_ops.specs.declared.op.Unary.TheVariants as one
use Rattle.qc_ops.specs.declared.op.Binary.{Binary}
use Rattle.qc_ops.specs.declared.op.Binary.TheVariants as two
use Rattle.qc_types.specs.Classes.{Defs}
use Rattle.qc_rt.specs.Runtime.{runtime}
use Rattle.qc_rt.specs.Seen.{has_marker}
use Rattle.qc_rt.specs.declared.function.Rt.{Rt}
use Rattle.qc_rt.specs.declared.function.Rt.TheVariants as rt

-- the function of an operator
abbrev pub function1 : Unary → Rt
function1 one.Not = rt.Not
function1 one.Neg = rt.Neg
function1 one.Abs = rt.Abs
function1 (one.DivBy k) = rt.DivBy
function1 (one.ModBy k) = rt.ModBy
function1 one.Count = rt.Count
function1 one.Sum = rt.Sum
function1 one.Min = rt.Min
function1 one.Max = rt.Max
function1 one.Avg = rt.Avg
function1 one.Element = rt.Element
function1 one.Flatten = rt.Flatten
function1 one.Distinct = rt.Distinct
function1 one.Single = rt.Single
function1 (one.Rec name) = rt.Rec
function1 (one.Dot name) = rt.Dot
function1 (one.Project names) = rt.Project
function1 one.Left = rt.Left
function1 one.Right = rt.Right
function1 (one.Brand name) = rt.Brand
function1 one.Unbrand = rt.Unbrand
function1 (one.Cast name) = rt.Cast
function1 (one.Order keys) = rt.Order
function1 (one.Group g names) = rt.Group
function1 (one.Like pattern) = rt.Like

abbrev pub function2 : Binary → Rt
function2 two.Eq = rt.Eq
function2 two.Lt = rt.Lt
function2 two.Le = rt.Le
function2 two.And = rt.And
function2 two.Or = rt.Or
function2 two.Add = rt.Add
function2 two.Sub = rt.Sub
function2 two.Mul = rt.Mul
function2 two.Least = rt.Least
function2 two.Greatest = rt.Greatest
function2 two.Union = rt.Union
function2 two.Except = rt.Except
function2 two.Intersect = rt.Intersect
function2 two.Member = rt.Member
function2 two.Cat = rt.Cat
function2 two.Merge = rt.Merge
function2 two.Glue = rt.Glue

-- names and directions as trees
abbrev pub names_tree : List (List ℕ) → Json
names_tree names = Array (map Text names)

abbrev pub key_names : List (List ℕ × Bool) → Json
key_names keys = Array (map (λ key. Text key.0) keys)

abbrev pub key_directions : List (List ℕ × Bool) → Json
key_directions keys = Array (map (λ key. Truth key.1) keys)

-- the arguments of an operator's function before its operand, where the classes are a class and those below it
abbrev pub arguments1 : List (List ℕ) → Unary → List Json
arguments1 classes (one.DivBy k) = Int k ∷ []
arguments1 classes (one.ModBy k) = Int k ∷ []
arguments1 classes (one.Rec name) = Text name ∷ []
arguments1 classes (one.Dot name) = Text name ∷ []
arguments1 classes (one.Project names) = names_tree names ∷ []
arguments1 classes (one.Brand name) = Text name ∷ []
arguments1 classes (one.Cast name) = names_tree classes ∷ []
arguments1 classes (one.Order keys) = key_names keys ∷ key_directions keys ∷ []
arguments1 classes (one.Group g names) = Text g ∷ names_tree names ∷ []
arguments1 classes (one.Like pattern) = Text pattern ∷ []
arguments1 classes op = []

-- one layer of a datum, given the same of its parts
abbrev pub plain_step : Datum-F Bool → Bool
plain_step (Datum-F.Coll bs) = all_true bs
plain_step (Datum-F.Rec ps) = not (has_marker ps) && all_values ps
plain_step (Datum-F.Left b) = b
plain_step (Datum-F.Right b) = b
plain_step (Datum-F.Brand name b) = b
plain_step x = true

-- no record in the datum has a field whose name is a marker
abbrev pub plain : Datum → Bool
plain = fold-Datum Bool plain_step

-- the names in an operator are no markers, and its divisor is not 0
abbrev pub NoMarkers : List (List ℕ) → Type 0
NoMarkers names = AllByRecursion (λ name. is_marker name ≡ false) names

abbrev pub HasNames : Unary → Type 0
HasNames (one.DivBy k) = k ≢ pos 0
HasNames (one.ModBy k) = k ≢ pos 0
HasNames (one.Rec name) = is_marker name ≡ false
HasNames (one.Dot name) = is_marker name ≡ false
HasNames (one.Project names) = NoMarkers names
HasNames (one.Brand name) = is_marker name ≡ false
HasNames (one.Order keys) = NoMarkers (map (λ key. key.0) keys)
HasNames (one.Group g names) = (is_marker g ≡ false) × NoMarkers names
HasNames op = Unit {0}

-- the list has just the class of a cast and those below it
abbrev pub HasClasses : Defs → Unary → List (List ℕ) → Type 0
HasClasses c (one.Cast name) classes =
    NoMarkers classes × ((other : List ℕ) → is_among other classes ≡ is_under c other name)
HasClasses c op classes = Unit {0}

-- each operator on one plain operand
abbrev pub Encodes1 : Type 0
Encodes1 =
    (m : Mode) (c : Defs) (op : Unary) (classes : List (List ℕ)) (a : Datum) → HasNames op → HasClasses c op classes
    → plain a ≡ true
    → runtime m (function1 op) (arguments1 classes op ++ enc a ∷ []) ≡ encoded (unary m c op a)

-- each operator on two plain operands
abbrev pub Encodes2 : Type 0
Encodes2 =
    (m : Mode) (op : Binary) (a b : Datum) → plain a ≡ true → plain b ≡ true
    → runtime m (function2 op) (enc a ∷ enc b ∷ []) ≡ encoded (binary m op a b)
