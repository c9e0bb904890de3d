-- The JSON trees of types, as schema files have them.
use Rattle.std.specs.Prelude.{ℕ, List, [], ◌∷◌, codes}
use Rattle.qc_data.specs.declared.data.Json.{Json}
use Rattle.qc_data.specs.declared.data.Json.TheVariants.{Text, Array, Object}
use Rattle.qc_types.specs.declared.ty.Width.{Width}
use Rattle.qc_types.specs.declared.ty.Width.TheVariants.{Exact, Wide}
use Rattle.qc_types.specs.declared.ty.Ty.{Ty}
use Rattle.qc_types.specs.declared.ty.Ty.TheOpen.{Ty-F}
use Rattle.qc_types.specs.declared.ty.Ty.TheFolds.{fold-Ty}

-- an object of one member
abbrev pub one : List ℕ → Json → Json
one name j = Object ((name, j) ∷ [])

-- the name before a record's fields
abbrev pub width_name : Width → List ℕ
width_name Exact = codes "record"
width_name Wide = codes "open"

-- one layer, whose parts are trees
abbrev pub tree_step : Ty-F Json → Json
tree_step Ty-F.Bottom = Text (codes "bottom")
tree_step Ty-F.Unit = Text (codes "unit")
tree_step Ty-F.Bool = Text (codes "bool")
tree_step Ty-F.Int = Text (codes "int")
tree_step Ty-F.Text = Text (codes "text")
tree_step (Ty-F.Coll j) = one (codes "bag") j
tree_step (Ty-F.Rec width ps) = one (width_name width) (Object ps)
tree_step (Ty-F.Either j k) = one (codes "either") (Array (j ∷ k ∷ []))
tree_step (Ty-F.Brand name) = one (codes "class") (Text name)

-- the tree of a type; no file holds that of `Bottom`, "bottom"
abbrev pub tree_of : Ty → Json
tree_of = fold-Ty Json tree_step
