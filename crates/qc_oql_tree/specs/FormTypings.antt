-- The types of the forms of expressions, by those of their parts. The parts are checked before the form, in the order
-- of the
-- text, but a condition on which a binding rests is checked before what is bound.
use Rattle.std.specs.Prelude.{ℕ, List, [], ◌∷◌, Option, Some, None, Result, Ok, option_map}
use Rattle.qc_containers.specs.Name.{is_name}
use Rattle.qc_containers.specs.Pairs.{lookup}
use Rattle.qc_types.specs.declared.ty.Width.TheVariants.{Exact}
use Rattle.qc_types.specs.declared.ty.Ty.{Ty}
use Rattle.qc_types.specs.declared.ty.Ty.TheVariants as ty
use Rattle.qc_types.specs.Classes.{Defs}
use Rattle.qc_types.specs.Joins.{join}
use Rattle.qc_types.specs.Schemas.{SchemaOf}
use Rattle.qc_types.specs.Types.{sub}
use Rattle.qc_typing.specs.Checking.{and_check, or_fault, need, each_checked}
use Rattle.qc_typing.specs.Kinds.{when}
use Rattle.qc_typing.specs.FieldTypes.{is_atom}
use Rattle.qc_oql_tree.specs.Bindings.{or_else_some}
use Rattle.qc_oql_tree.specs.PartTypes.{join_all, FieldType, row_of}
use Rattle.qc_typing.specs.Kinds.{bound_by, sides_of}

-- variables and definitions with their types, the newest first
abbrev pub Types : Type 0
Types = List (List ℕ × Ty)

-- the type of an expression by the types of what is bound, or the place of its first fault
abbrev pub Typing : Type 0
Typing = Types → Result Ty ℕ

-- a name with the typing of its expression, and the place of the name
pub record NamedTyping : Type 0 where
  pub at : ℕ
  pub name : List ℕ
  pub of : Typing

-- an expression beside a text, which must be a name
abbrev pub type_beside : ℕ → List ℕ → Typing → Typing
type_beside at name of s = and_check (need at (is_name name)) (λ done. of s)

-- a condition's typing, and the place of `where`
pub record FilterTyping : Type 0 where
  pub at : ℕ
  pub test : Typing

-- the keys' typings, and the place of `order`
pub record OrderTyping : Type 0 where
  pub at : ℕ
  pub keys : List Typing

-- a name is the newest binding of it, or else the global
abbrev pub type_of : SchemaOf → ℕ → List ℕ → Typing
type_of schema at name s = or_fault at (or_else_some (lookup name s) (lookup name schema.globals))

-- an operator of one operand
abbrev pub type_after : ℕ → (Ty → Option Ty) → Typing → Typing
type_after at f a s = and_check (a s) (λ t. or_fault at (f t))

-- an operator of two operands
abbrev pub type_of_both : ℕ → (Ty → Ty → Option Ty) → Typing → Typing → Typing
type_of_both at f a b s = and_check (a s) (λ t. and_check (b s) (λ u. or_fault at (f t u)))

-- match: the join of the two bodies, each with its name bound to the side's type
abbrev pub matched_type : Defs → ℕ → Typing → NamedTyping → NamedTyping → Typing
matched_type c at a l r s =
    and_check (a s) (λ t.
    and_check (or_fault at (sides_of t)) (λ sides.
    and_check (l.of ((l.name, sides.0) ∷ s)) (λ x.
    and_check (r.of ((r.name, sides.1) ∷ s)) (λ y.
    or_fault at (join c x y)))))

-- if: the join of the branches
abbrev pub chosen_type : Defs → ℕ → Typing → Typing → Typing → Typing
chosen_type c at test a b s =
    and_check (test s) (λ t.
    and_check (a s) (λ x.
    and_check (b s) (λ y.
    and_check (need at (sub c t ty.Bool)) (λ done.
    or_fault at (join c x y)))))

-- what a source binds; one that is no collection is a fault at the bound name
abbrev pub source_type : NamedTyping → Typing
source_type source s = and_check (source.of s) (λ t. or_fault source.at (bound_by t))

-- exists, for all: a truth value
abbrev pub quantified_type : Defs → ℕ → NamedTyping → Typing → Typing
quantified_type c at source test s =
    and_check (source_type source s) (λ x.
    and_check (test ((source.name, x) ∷ s)) (λ t.
    or_fault at (when (sub c t ty.Bool) ty.Bool)))

-- bag: of the join of its members
abbrev pub collected_type : Defs → ℕ → List Typing → Typing
collected_type c at members s =
    and_check (each_checked (λ member. member s) members) (λ ts.
    or_fault at (option_map (λ t. ty.Coll t) (join_all c ty.Bottom ts)))

-- a field with its type
abbrev pub typed_field : Types → NamedTyping → Result FieldType ℕ
typed_field s f = and_check (f.of s) (λ t. Ok (record { at = f.at; label = f.name; type = t }))

-- struct: the record of exactly its fields
abbrev pub structured_type : List NamedTyping → Typing
structured_type fields s =
    and_check (each_checked (typed_field s) fields) (λ fs.
    and_check (row_of fs []) (λ row.
    Ok (ty.Rec Exact row)))

-- ---- the select

-- the sources' names, each bound for the later ones
abbrev pub sources_bound : List NamedTyping → Types → Result Types ℕ
sources_bound [] s = Ok s
sources_bound (source ∷ sources) s =
    and_check (source_type source s) (λ t. sources_bound sources ((source.name, t) ∷ s))

-- where
abbrev pub filter_checked : Defs → Option FilterTyping → Types → Result (Unit {0}) ℕ
filter_checked c None s = Ok tt
filter_checked c (Some filter) s = and_check (filter.test s) (λ t. need filter.at (sub c t ty.Bool))

-- the keys are integers, texts or truth values, each tested before the next one
abbrev pub keys_checked : Defs → ℕ → List Typing → Types → Result (Unit {0}) ℕ
keys_checked c at [] s = Ok tt
keys_checked c at (key ∷ keys) s =
    and_check (key s) (λ t. and_check (need at (is_atom c t)) (λ done. keys_checked c at keys s))

-- order by
abbrev pub order_checked : Defs → Option OrderTyping → Types → Result (Unit {0}) ℕ
order_checked c None s = Ok tt
order_checked c (Some order) s = keys_checked c order.at order.keys s

-- a select is checked in the order sources, where, keys, value
abbrev pub selected_type : Defs → Typing → List NamedTyping → Option FilterTyping → Option OrderTyping → Typing
selected_type c value sources filter order s =
    and_check (sources_bound sources s) (λ row.
    and_check (filter_checked c filter row) (λ kept.
    and_check (order_checked c order row) (λ sorted.
    and_check (value row) (λ t.
    Ok (ty.Coll t)))))
