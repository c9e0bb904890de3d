-- Which lists of classes are good, which globals a schema has, and which data are its worlds.
use Rattle.std.specs.Prelude.{ℕ, Bool, true, false, not, ◌&&◌, ◌==◌, List, [], ◌∷◌, Option, Some, None}
use Rattle.qc_data.specs.Facts.{all_true, all_values, rising, within64}
use Rattle.qc_containers.specs.Pairs.{lookup}
use Rattle.qc_data.specs.declared.data.Datum.{Datum}
use Rattle.qc_data.specs.declared.data.Datum.TheOpen.{Datum-F}
use Rattle.qc_data.specs.declared.data.Datum.TheViews.{out-Datum}
use Rattle.qc_data.specs.declared.data.Datum.TheFolds.{fold-Datum}
use Rattle.qc_types.specs.declared.ty.ClassDef.{ClassDef}
use Rattle.qc_types.specs.declared.ty.Width.TheVariants.{Exact}
use Rattle.qc_types.specs.declared.ty.Ty.{Ty}
use Rattle.qc_types.specs.declared.ty.Ty.TheOpen.{Ty-F}
use Rattle.qc_types.specs.declared.ty.Ty.TheVariants as ty
use Rattle.qc_types.specs.declared.ty.Ty.TheFolds.{fold-Ty}
use Rattle.qc_types.specs.Classes.{Defs, listed, shape}
use Rattle.qc_types.specs.Types.{fits, sub}

-- a name that does not begin with `$`
abbrev pub user : List ℕ → Bool
user [] = true
user (b ∷ bs) = not (b == 36)

-- one layer of a type, given the same of its parts
abbrev pub lists_step : Defs → Ty-F Bool → Bool
lists_step c (Ty-F.Coll b) = b
lists_step c (Ty-F.Rec w bs) = all_values bs
lists_step c (Ty-F.Either a b) = a && b
lists_step c (Ty-F.Brand n) = listed c n
lists_step c x = true

-- every class that the type names is listed
abbrev pub lists : Defs → Ty → Bool
lists c = fold-Ty Bool (lists_step c)

-- there is a shape over this one, and this one is below it
abbrev pub is_under : Defs → Ty → Option Ty → Bool
is_under c t None = false
is_under c t (Some u) = sub c t u

-- a parent is among the earlier classes, and the shape is below its
abbrev pub extends : Defs → Defs → Option (List ℕ) → Ty → Bool
extends c ds None t = true
extends c ds (Some p) t = is_under c t (shape ds p)

-- a class of c that comes after the classes ds
abbrev pub good_class : Defs → Defs → ClassDef → Bool
good_class c ds d = user d.name && (not (listed ds d.name) && (lists c d.shape && extends c ds d.parent d.shape))

-- each of the classes ds, the last listed first, may come after those before it
abbrev pub good_part : Defs → Defs → Bool
good_part c [] = true
good_part c (d ∷ ds) = good_class c ds d && good_part c ds

-- Names are user names and do not repeat, each parent is listed earlier, shapes name listed classes alone, and each is
-- below its parent's shape.
abbrev pub good_classes : Defs → Bool
good_classes c = good_part c c

-- the globals' names are user names, and their types name listed classes alone
abbrev pub good_globals : Defs → List (List ℕ × Ty) → Bool
good_globals c [] = true
good_globals c (g ∷ gs) = user g.0 && (lists c g.1 && good_globals c gs)

-- classes, and the types of the globals
pub record SchemaOf : Type 0 where
  pub classes : Defs
  pub globals : List (List ℕ × Ty)

-- the names of records' fields are user names, and the values are true
abbrev pub user_fields : List (List ℕ × Bool) → Bool
user_fields [] = true
user_fields (p ∷ ps) = user p.0 && (p.1 && user_fields ps)

-- one layer of a datum, given the same of its parts
abbrev pub user_step : Datum-F Bool → Bool
user_step (Datum-F.Coll bs) = all_true bs
user_step (Datum-F.Rec ps) = user_fields ps
user_step (Datum-F.Left b) = b
user_step (Datum-F.Right b) = b
user_step (Datum-F.Brand n b) = user n && b
user_step x = true

-- every field's and class's name in the datum is a user name
abbrev pub user_named : Datum → Bool
user_named = fold-Datum Bool user_step

-- a datum that fits the record of the globals, has user names alone, in rising order in each record, and integers of 64
-- bits
abbrev pub is_world : Defs → List (List ℕ × Ty) → Datum → Bool
is_world c gs d = fits c d (ty.Rec Exact gs) && (user_named d && (rising d && within64 d))

-- a schema's classes, the types of its globals, and the datum that holds their values
pub record WorldOf : Type 0 where
  pub classes : Defs
  pub globals : List (List ℕ × Ty)
  pub datum : Datum

-- the fields of a record's layer
abbrev pub fields_at : Datum-F Datum → List (List ℕ × Datum)
fields_at (Datum-F.Rec fs) = fs
fields_at x = []

-- the value of the global of a name
abbrev pub global : List ℕ → Datum → Option Datum
global n d = lookup n (fields_at (out-Datum d))
