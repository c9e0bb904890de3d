-- The types of trees, and what it is that they are right.
use Rattle.std.specs.Prelude.{◌≡◌, ℕ, List, ◌∷◌, Option, Some, option_map, option_and_then}
use Rattle.qc_containers.specs.Pairs.{lookup}
use Rattle.qc_data.specs.declared.data.Datum.{Datum}
use Rattle.qc_types.specs.declared.ty.Ty.{Ty}
use Rattle.qc_types.specs.declared.ty.Ty.TheVariants as ty
use Rattle.qc_types.specs.Classes.{Defs}
use Rattle.qc_types.specs.Schemas.{SchemaOf, WorldOf}
use Rattle.qc_lang.specs.Keeping.{IsOf}
use Rattle.qc_typing.specs.Tables.{unary_type, binary_type}
use Rattle.qc_typing.specs.Typed.{HasType, IsTyped}
use Rattle.qc_trees.specs.ConstantTypes.{constant_type}
use Rattle.qc_trees.specs.PartTypes.{join_both, chosen_type}
use Rattle.qc_typing.specs.Kinds.{bound_by, sides_of}
use Rattle.qc_nnrc.specs.declared.tree.Nnrc.{Nnrc}
use Rattle.qc_nnrc.specs.declared.tree.Nnrc.TheOpen.{Nnrc-F}
use Rattle.qc_nnrc.specs.declared.tree.Nnrc.TheFolds.{fold-Nnrc}
use Rattle.qc_nnrc.specs.Meaning.{Values, nnrc}
use Rattle.qc_nnrc.specs.Variables.{look}

-- the types of variables
abbrev pub Types : Type 0
Types = List (ℕ × Ty)

-- the type of a tree, if it has one, by the types of variables
abbrev pub Typing : Type 0
Typing = Types → Option Ty

-- let: the body with a variable of the type
abbrev pub bound_type : ℕ → Typing → Types → Ty → Option Ty
bound_type x b e t = b ((x, t) ∷ e)

-- for: collections of what the body gives with a member
abbrev pub for_type : ℕ → Typing → Types → Ty → Option Ty
for_type x b e t = option_and_then (λ u. option_map (λ v. ty.Coll v) (bound_type x b e u)) (bound_by t)

-- either: the join of what the bodies give with a left and with a right content
abbrev pub either_type : Defs → (left right : Ty → Option Ty) → Ty → Option Ty
either_type c left right t = option_and_then (λ u. join_both c (left u.0) (right u.1)) (sides_of t)

-- a tree by the types of its parts, and the types e of variables
abbrev pub form_type : SchemaOf → Nnrc-F Typing → Typing
form_type s (Nnrc-F.Var x) e = look x e
form_type s (Nnrc-F.Const d) e = constant_type s.classes d
form_type s (Nnrc-F.Global name) e = lookup name s.globals
form_type s (Nnrc-F.Unary op a) e = option_and_then (unary_type s.classes op) (a e)
form_type s (Nnrc-F.Binary op a b) e = option_and_then (λ t. option_and_then (binary_type s.classes op t) (b e)) (a e)
form_type s (Nnrc-F.Let x a b) e = option_and_then (bound_type x b e) (a e)
form_type s (Nnrc-F.For x a b) e = option_and_then (for_type x b e) (a e)
form_type s (Nnrc-F.If a b c) e =
    option_and_then (λ t. option_and_then (λ u. option_and_then (chosen_type s.classes t u) (c e)) (b e)) (a e)
form_type s (Nnrc-F.Either a x b y c) e =
    option_and_then (either_type s.classes (bound_type x b e) (bound_type y c e)) (a e)

-- the type of a tree in a schema, if it has one, by the types of variables
abbrev pub nnrc_type : SchemaOf → Nnrc → Typing
nnrc_type s e = fold-Nnrc Typing (form_type s) e

-- each variable that has a type has a value of it
abbrev pub Fits : Defs → Values → Types → Type 0
Fits c f e = (x : ℕ) (t : Ty) → look x e ≡ Some t → (d : Datum) × (look x f ≡ Some d) × HasType c d t

-- where there is a type, the tree has in each world of the schema, for variables of their types, a value of it at any
-- size, and within bounds the same value or Range
abbrev pub IsSound : SchemaOf → Nnrc → Types → Option Ty → Type 0
IsSound s q e t =
    (w : WorldOf) (f : Values) → IsOf s w → Fits s.classes f e → IsTyped s.classes t (λ m. nnrc m w q f)
