-- Which data fit a type, and which types are below which.
use Rattle.std.specs.Prelude.{Bool, true, false, ◌&&◌, ◌||◌, Option, Some, None}
use Rattle.std.specs.Str.{bytes_eq}
use Rattle.qc_data.specs.declared.data.Datum.{Datum}
use Rattle.qc_data.specs.declared.data.Datum.TheOpen.{Datum-F}
use Rattle.qc_data.specs.declared.data.Datum.TheFolds.{fold-Datum}
use Rattle.qc_types.specs.declared.ty.Width.TheVariants.{Exact, Wide}
use Rattle.qc_types.specs.declared.ty.Ty.{Ty}
use Rattle.qc_types.specs.declared.ty.Ty.TheOpen.{Ty-F}
use Rattle.qc_types.specs.declared.ty.Ty.TheViews.{out-Ty}
use Rattle.qc_types.specs.declared.ty.Ty.TheFolds.{fold-Ty}
use Rattle.qc_types.specs.Classes.{Defs, below, shape}
use Rattle.qc_types.specs.Rows.{fields_in, all_in}

-- a class value's content against the class's shape, if the class is listed
abbrev pub content : {A : Type 0} → (A → Ty → Bool) → A → Option Ty → Bool
content r x None = false
content r x (Some t) = r x t

-- one level of a datum against one of a type, with r for the parts
abbrev pub fits_layer : {A : Type 0} → Defs → (A → Ty → Bool) → Datum-F A → Ty-F Ty → Bool
fits_layer c r Datum-F.Unit Ty-F.Unit = true
fits_layer c r (Datum-F.Bool b) Ty-F.Bool = true
fits_layer c r (Datum-F.Int n) Ty-F.Int = true
fits_layer c r (Datum-F.Text s) Ty-F.Text = true
fits_layer c r (Datum-F.Coll ds) (Ty-F.Coll t) = all_in (λ d. r d t) ds
fits_layer c r (Datum-F.Rec fs) (Ty-F.Rec w ts) = fields_in w r fs ts
fits_layer c r (Datum-F.Left d) (Ty-F.Either t u) = r d t
fits_layer c r (Datum-F.Right d) (Ty-F.Either t u) = r d u
fits_layer c r (Datum-F.Brand n d) (Ty-F.Brand m) = below c n m && content r d (shape c n)
fits_layer c r _ _ = false

-- one layer of a datum, given what its parts fit
abbrev pub fits_step : Defs → Datum-F (Ty → Bool) → Ty → Bool
fits_step c x t = fits_layer c (λ f u. f u) x (out-Ty t)

-- the datum is of the type
abbrev pub fits : Defs → Datum → Ty → Bool
fits c = fold-Datum (Ty → Bool) (fits_step c)

-- one level of a type against one of another, with r for the parts
abbrev pub sub_layer : {A B : Type 0} → Defs → (A → B → Bool) → Ty-F A → Ty-F B → Bool
sub_layer c r Ty-F.Bottom u = true
sub_layer c r Ty-F.Unit Ty-F.Unit = true
sub_layer c r Ty-F.Bool Ty-F.Bool = true
sub_layer c r Ty-F.Int Ty-F.Int = true
sub_layer c r Ty-F.Text Ty-F.Text = true
sub_layer c r (Ty-F.Coll t) (Ty-F.Coll u) = r t u
sub_layer c r (Ty-F.Rec Exact ts) (Ty-F.Rec Exact us) = fields_in Exact r ts us
sub_layer c r (Ty-F.Rec w ts) (Ty-F.Rec Wide us) = fields_in Wide r ts us
sub_layer c r (Ty-F.Either t u) (Ty-F.Either v w) = r t v && r u w
sub_layer c r (Ty-F.Brand n) (Ty-F.Brand m) = bytes_eq n m || below c n m
sub_layer c r _ _ = false

-- one layer of a type, given what its parts are below
abbrev pub sub_step : Defs → Ty-F (Ty → Bool) → Ty → Bool
sub_step c x u = sub_layer c (λ f t. f t) x (out-Ty u)

-- the first type is below the second
abbrev pub sub : Defs → Ty → Ty → Bool
sub c = fold-Ty (Ty → Bool) (sub_step c)
