-- The type that a JSON tree means in a schema file.
use Rattle.std.specs.Prelude.{ℕ, List, [], ◌∷◌, ◌&&◌, cond, Option, Some, None, option_map, option_and_then, codes}
use Rattle.std.specs.Str.{bytes_eq}
use Rattle.qc_containers.specs.Name.{is_name}
use Rattle.qc_data.specs.declared.data.Json.{Json}
use Rattle.qc_data.specs.declared.data.Json.TheOpen.{Json-F}
use Rattle.qc_data.specs.declared.data.Json.TheFolds.{fold-Json}
use Rattle.qc_types.specs.Schemas.{user}
use Rattle.qc_types.specs.declared.ty.Width.TheVariants.{Exact, Wide}
use Rattle.qc_types.specs.declared.ty.Ty.{Ty}
use Rattle.qc_types.specs.declared.ty.Ty.TheVariants as ty

-- What a tree says, in each place of a type where a tree stands: as a type, as a record's fields, as two types, and as
-- a class's name.
pub record Said : Type 0 where
  pub ty : Option Ty
  pub row : Option (List (List ℕ × Ty))
  pub two : Option (Ty × Ty)
  pub class : Option (List ℕ)

-- nothing in any place
abbrev pub nothing : Said
nothing = record { ty = None; row = None; two = None; class = None }

-- a text that is a name
abbrev pub name_in : List ℕ → Option (List ℕ)
name_in s = cond (is_name s) (Some s) None

-- a type that has no parts
abbrev pub atom : List ℕ → Option Ty
atom s =
    cond (bytes_eq s (codes "unit")) (Some ty.Unit) (cond (bytes_eq s (codes "bool")) (Some ty.Bool)
    (cond (bytes_eq s (codes "int")) (Some ty.Int) (cond (bytes_eq s (codes "text")) (Some ty.Text) None)))

-- exactly two types
abbrev pub two_of : List Said → Option (Ty × Ty)
two_of [] = None
two_of (a ∷ []) = None
two_of (a ∷ b ∷ []) = option_and_then (λ s. option_map (λ t. (s, t)) b.ty) a.ty
two_of (a ∷ b ∷ c ∷ rs) = None

-- user names, with a type each
abbrev pub row_of : List (List ℕ × Said) → Option (List (List ℕ × Ty))
row_of [] = Some []
row_of (p ∷ ps) =
    cond (is_name p.0 && user p.0) (option_and_then (λ t. option_map (λ r. (p.0, t) ∷ r) (row_of ps)) p.1.ty) None

-- the type that the one member of an object makes, by the member's name
abbrev pub tagged : List ℕ → Said → Option Ty
tagged n r =
    cond (bytes_eq n (codes "bag")) (option_map ty.Coll r.ty)
    (cond (bytes_eq n (codes "record")) (option_map (ty.Rec Exact) r.row)
    (cond (bytes_eq n (codes "open")) (option_map (ty.Rec Wide) r.row)
    (cond (bytes_eq n (codes "either")) (option_map (λ p. ty.Either p.0 p.1) r.two)
    (cond (bytes_eq n (codes "class")) (option_map ty.Brand r.class) None))))

-- an object of one member
abbrev pub object_of : List (List ℕ × Said) → Option Ty
object_of [] = None
object_of (p ∷ []) = tagged p.0 p.1
object_of (p ∷ q ∷ ps) = None

-- one layer, whose parts are read
abbrev pub said_step : Json-F Said → Said
said_step (Json-F.Text s) = record nothing { ty = atom s; class = name_in s }
said_step (Json-F.Array rs) = record nothing { two = two_of rs }
said_step (Json-F.Object ps) = record nothing { ty = object_of ps; row = row_of ps }
said_step x = nothing

-- what the tree says in each place
abbrev pub said : Json → Said
said = fold-Json Said said_step

-- the type that the tree means
abbrev pub type_of : Json → Option Ty
type_of j = (said j).ty
