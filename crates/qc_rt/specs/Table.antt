-- The functions of the runtime in one table: the word of each, and how many parameters and operands it takes.
use Rattle.std.specs.Prelude.{ℕ, ◌+◌, List, [], ◌∷◌, Option, Some, None, codes, if◌then◌else◌}
use Rattle.std.specs.Str.{bytes_eq}
use Rattle.qc_rt.specs.declared.function.Rt.{Rt}
use Rattle.qc_rt.specs.declared.function.Rt.TheVariants as rt

-- the word by which a program calls the function
abbrev pub word_of : Rt → List ℕ
word_of rt.Not = codes "not"
word_of rt.Neg = codes "neg"
word_of rt.Abs = codes "abs"
word_of rt.DivBy = codes "divby"
word_of rt.ModBy = codes "modby"
word_of rt.Count = codes "count"
word_of rt.Sum = codes "sum"
word_of rt.Min = codes "min"
word_of rt.Max = codes "max"
word_of rt.Avg = codes "avg"
word_of rt.Element = codes "element"
word_of rt.Flatten = codes "flatten"
word_of rt.Distinct = codes "distinct"
word_of rt.Single = codes "single"
word_of rt.Rec = codes "rec"
word_of rt.Dot = codes "dot"
word_of rt.Project = codes "project"
word_of rt.Left = codes "left"
word_of rt.Right = codes "right"
word_of rt.Brand = codes "brand"
word_of rt.Unbrand = codes "unbrand"
word_of rt.Cast = codes "cast"
word_of rt.Order = codes "order"
word_of rt.Group = codes "group"
word_of rt.Like = codes "like"
word_of rt.Eq = codes "eq"
word_of rt.Lt = codes "lt"
word_of rt.Le = codes "le"
word_of rt.And = codes "and"
word_of rt.Or = codes "or"
word_of rt.Add = codes "add"
word_of rt.Sub = codes "sub"
word_of rt.Mul = codes "mul"
word_of rt.Least = codes "least"
word_of rt.Greatest = codes "greatest"
word_of rt.Union = codes "union"
word_of rt.Except = codes "except"
word_of rt.Intersect = codes "intersect"
word_of rt.Member = codes "member"
word_of rt.Cat = codes "cat"
word_of rt.Merge = codes "merge"
word_of rt.Glue = codes "glue"
word_of rt.Nothing = codes "nothing"
word_of rt.IsLeft = codes "isleft"
word_of rt.Payload = codes "payload"

-- how many parameters it takes before its operands
abbrev pub parameters_of : Rt → ℕ
parameters_of rt.DivBy = 1
parameters_of rt.ModBy = 1
parameters_of rt.Rec = 1
parameters_of rt.Dot = 1
parameters_of rt.Project = 1
parameters_of rt.Brand = 1
parameters_of rt.Cast = 1
parameters_of rt.Order = 2
parameters_of rt.Group = 2
parameters_of rt.Like = 1
parameters_of _ = 0

-- how many operands it takes
abbrev pub operands_of : Rt → ℕ
operands_of rt.Eq = 2
operands_of rt.Lt = 2
operands_of rt.Le = 2
operands_of rt.And = 2
operands_of rt.Or = 2
operands_of rt.Add = 2
operands_of rt.Sub = 2
operands_of rt.Mul = 2
operands_of rt.Least = 2
operands_of rt.Greatest = 2
operands_of rt.Union = 2
operands_of rt.Except = 2
operands_of rt.Intersect = 2
operands_of rt.Member = 2
operands_of rt.Cat = 2
operands_of rt.Merge = 2
operands_of rt.Glue = 2
operands_of rt.Nothing = 0
operands_of _ = 1

-- how many arguments it takes
abbrev pub arguments_of : Rt → ℕ
arguments_of f = parameters_of f + operands_of f

-- all functions
abbrev pub all_functions : List Rt
all_functions =
    rt.Not ∷ rt.Neg ∷ rt.Abs ∷ rt.DivBy ∷ rt.ModBy ∷ rt.Count ∷ rt.Sum ∷ rt.Min ∷ rt.Max ∷ rt.Avg ∷ rt.Element ∷
    rt.Flatten ∷ rt.Distinct ∷ rt.Single ∷ rt.Rec ∷ rt.Dot ∷ rt.Project ∷ rt.Left ∷ rt.Right ∷ rt.Brand ∷
    rt.Unbrand ∷ rt.Cast ∷ rt.Order ∷ rt.Group ∷ rt.Like ∷ rt.Eq ∷ rt.Lt ∷ rt.Le ∷ rt.And ∷ rt.Or ∷ rt.Add ∷
    rt.Sub ∷ rt.Mul ∷ rt.Least ∷ rt.Greatest ∷ rt.Union ∷ rt.Except ∷ rt.Intersect ∷ rt.Member ∷ rt.Cat ∷
    rt.Merge ∷ rt.Glue ∷ rt.Nothing ∷ rt.IsLeft ∷ rt.Payload ∷ []

-- the first function of the word
abbrev pub spelled_by : List ℕ → List Rt → Option Rt
spelled_by word [] = None
spelled_by word (f ∷ fs) = if bytes_eq (word_of f) word then Some f else spelled_by word fs

-- the function of the word, if there is one
abbrev pub function_of : List ℕ → Option Rt
function_of word = spelled_by word all_functions
