-- The types of constants.
use Rattle.std.specs.Prelude.{ℕ, Bool, cond, List, [], ◌∷◌, map, Option, Some, None, option_map, option_and_then}
use Rattle.std.specs.Prelude.{is_some, unwrap_or}
use Rattle.std.specs.List.{list_all}
use Rattle.qc_containers.specs.Rising.{on_value}
use Rattle.qc_data.specs.Facts.{rising}
use Rattle.qc_data.specs.declared.data.Datum.{Datum}
use Rattle.qc_data.specs.declared.data.Datum.TheOpen.{Datum-F}
use Rattle.qc_data.specs.declared.data.Datum.TheFolds.{para-Datum}
use Rattle.qc_data.specs.declared.data.Datum.TheVariants as datum
use Rattle.qc_types.specs.declared.ty.Width.TheVariants.{Exact}
use Rattle.qc_types.specs.declared.ty.Ty.{Ty}
use Rattle.qc_types.specs.declared.ty.Ty.TheVariants as ty
use Rattle.qc_types.specs.Classes.{Defs}
use Rattle.qc_types.specs.Joins.{join}
use Rattle.qc_types.specs.Types.{fits}
use Rattle.qc_typing.specs.Kinds.{when}

-- the join of types with those before, from left to right, where each is there
abbrev pub join_all : Defs → Ty → List (Option Ty) → Option Ty
join_all c t [] = Some t
join_all c t (o ∷ os) = option_and_then (λ u. option_and_then (λ v. join_all c v os) (join c t u)) o

-- each field has a type
abbrev pub all_typed : List (List ℕ × Option Ty) → Bool
all_typed fields = list_all (λ f. is_some f.1) fields

-- the type of a field that has one
abbrev pub or_bottom : Option Ty → Ty
or_bottom o = unwrap_or o ty.Bottom

-- the record of exactly the fields, where each has a type
abbrev pub exactly : List (List ℕ × Option Ty) → Option Ty
exactly fields = when (all_typed fields) (ty.Rec Exact (map (on_value or_bottom) fields))

-- one layer of a datum, given its parts and their types; a class value has the type of its class where it conforms
abbrev pub constant_step : Defs → Datum-F (Datum × Option Ty) → Option Ty
constant_step c Datum-F.Unit = Some ty.Unit
constant_step c (Datum-F.Bool b) = Some ty.Bool
constant_step c (Datum-F.Int n) = Some ty.Int
constant_step c (Datum-F.Text s) = Some ty.Text
constant_step c (Datum-F.Coll ps) = option_map (λ t. ty.Coll t) (join_all c ty.Bottom (map (λ p. p.1) ps))
constant_step c (Datum-F.Rec ps) = exactly (map (on_value (λ p. p.1)) ps)
constant_step c (Datum-F.Left p) = option_map (λ t. ty.Either t ty.Bottom) p.1
constant_step c (Datum-F.Right p) = option_map (λ t. ty.Either ty.Bottom t) p.1
constant_step c (Datum-F.Brand n p) = when (fits c (datum.Brand n p.0) (ty.Brand n)) (ty.Brand n)

-- the type of a datum, if it has one
abbrev pub datum_type : Defs → Datum → Option Ty
datum_type c = para-Datum (Option Ty) (constant_step c)

-- the type of a constant, whose records rise as in each datum that code holds
abbrev pub constant_type : Defs → Datum → Option Ty
constant_type c d = cond (rising d) (datum_type c d) None
