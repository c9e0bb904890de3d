-- The types of trees, and what it is that they are right.
use Rattle.std.specs.Prelude.{Option, Some, option_and_then}
use Rattle.qc_containers.specs.Pairs.{lookup}
use Rattle.qc_data.specs.declared.data.Datum.{Datum}
use Rattle.qc_types.specs.declared.ty.Ty.{Ty}
use Rattle.qc_types.specs.Schemas.{SchemaOf, WorldOf}
use Rattle.qc_lang.specs.Keeping.{IsOf}
use Rattle.qc_typing.specs.Tables.{unary_type, binary_type}
use Rattle.qc_typing.specs.Typed.{HasType, IsTyped}
use Rattle.qc_trees.specs.ConstantTypes.{constant_type}
use Rattle.qc_trees.specs.PartTypes.{join_both, chosen_type}
use Rattle.qc_typing.specs.Kinds.{sides_of}
use Rattle.qc_nra.specs.declared.tree.Nra.{Nra}
use Rattle.qc_nra.specs.declared.tree.Nra.TheOpen.{Nra-F}
use Rattle.qc_nra.specs.declared.tree.Nra.TheFolds.{fold-Nra}
use Rattle.qc_nra_check.specs.FormTypes.{Typing, map_type, select_type, product_type, join_type, default_type}
use Rattle.qc_nra_check.specs.FormTypes.{env_map_type}
use Rattle.qc_nra.specs.Meaning.{nra}

-- a tree by the types of its parts, the type i of its input and the type e of its environment
abbrev pub form_type : SchemaOf → Nra-F Typing → Typing
form_type s (Nra-F.Const d) i e = constant_type s.classes d
form_type s Nra-F.Input i e = Some i
form_type s Nra-F.Env i e = Some e
form_type s (Nra-F.Global name) i e = lookup name s.globals
form_type s (Nra-F.Unary op a) i e = option_and_then (unary_type s.classes op) (a i e)
form_type s (Nra-F.Binary op a b) i e =
    option_and_then (λ t. option_and_then (binary_type s.classes op t) (b i e)) (a i e)
form_type s (Nra-F.Comp a b) i e = option_and_then (λ t. a t e) (b i e)
form_type s (Nra-F.Map a b) i e = option_and_then (map_type a e) (b i e)
form_type s (Nra-F.Select a b) i e = option_and_then (select_type s.classes a e) (b i e)
form_type s (Nra-F.Product a b) i e = option_and_then (λ t. option_and_then (product_type s.classes t) (b i e)) (a i e)
form_type s (Nra-F.DepJoin a b) i e = option_and_then (join_type s.classes a e) (b i e)
form_type s (Nra-F.Default a b) i e = option_and_then (λ t. option_and_then (default_type s.classes t) (b i e)) (a i e)
form_type s (Nra-F.EnvComp a b) i e = option_and_then (λ t. a i t) (b i e)
form_type s (Nra-F.MapEnv a) i e = env_map_type a i e
form_type s (Nra-F.Either a b) i e = option_and_then (λ u. join_both s.classes (a u.0 e) (b u.1 e)) (sides_of i)
form_type s (Nra-F.If a b c) i e =
    option_and_then (λ t. option_and_then (λ x. option_and_then (chosen_type s.classes t x) (c i e)) (b i e)) (a i e)

-- the type of a tree in a schema, if it has one, by the types of its input and its environment
abbrev pub nra_type : SchemaOf → Nra → Typing
nra_type s q = fold-Nra Typing (form_type s) q

-- where there is a type, the tree has in each world of the schema, for an input and an environment of their types, a
-- value of it at any size, and within bounds the same value or Range
abbrev pub IsSound : SchemaOf → Nra → (input env : Ty) → Option Ty → Type 0
IsSound s q input env t =
    (w : WorldOf) (i e : Datum) → IsOf s w → HasType s.classes i input → HasType s.classes e env
    → IsTyped s.classes t (λ m. nra m w q i e)
