-- Constants are of their types.
use Rattle.std.proofs.Common.{◌≡◌, ℕ, List, [], ◌∷◌, map, Option, Some, None, Bool, true, false, cond, IsTrue, refl}
use Rattle.std.proofs.Common.{sym, ◌∙◌, subst}
use Rattle.std.specs.Prelude.{is_some, option_map, option_and_then}
use Rattle.std.specs.Str.{bytes_eq}
use Rattle.qc_containers.specs.Pairs.{lookup}
use Rattle.qc_containers.specs.Rising.{on_value}
use Rattle.qc_data.specs.Facts.{rising}
use Rattle.qc_data.specs.Outcome.{Mode, Outcome, Value}
use Rattle.qc_data.specs.declared.data.Datum.{Datum}
use Rattle.qc_data.specs.declared.data.Datum.TheOpen.{Datum-F}
use Rattle.qc_data.specs.declared.data.Datum.TheVariants as datum
use Rattle.qc_data.specs.declared.data.Datum.TheFolds.{map-Datum, para-roll-Datum}
use Rattle.qc_types.specs.declared.ty.Width.TheVariants.{Exact}
use Rattle.qc_types.specs.declared.ty.Ty.{Ty}
use Rattle.qc_types.specs.declared.ty.Ty.TheOpen.{Ty-F}
use Rattle.qc_types.specs.declared.ty.Ty.TheViews.{out-Ty}
use Rattle.qc_types.specs.declared.ty.Ty.TheVariants as ty
use Rattle.qc_types.specs.Classes.{Defs}
use Rattle.qc_types.specs.Joins.{AboveBoth, join}
use Rattle.qc_types.specs.Rows.{all_in, at_field, fields_in, has_fields, names, same_names}
use Rattle.qc_types.specs.Schemas.{good_classes}
use Rattle.qc_types.specs.Types.{fits, fits_layer}
use Rattle.qc_types.proofs.ClassLaws.{fits_class, fits_mono}
use Rattle.qc_types.proofs.Inductions.{AllOf, AllIn, Held, datum_ind}
use Rattle.qc_types.proofs.JoinLaws.{join_above}
use Rattle.qc_types.proofs.RowLaws.{and_parts, both, has_from, names-map, same_names-refl}
use Rattle.qc_types.proofs.TypeLaws.{fits_roll}
use Rattle.qc_typing.specs.Kinds.{when}
use Rattle.qc_typing.specs.Typed.{HasType}
use Rattle.qc_typing.proofs.Outcomes.{Typed, typed_some}
use Rattle.qc_typing.proofs.Values.{out-Unit, out-Bool, out-Int, out-Text, out-Coll, out-Rec, out-Either, out-Brand}
use Rattle.qc_trees.specs.ConstantTypes.{join_all, all_typed, or_bottom, constant_step, datum_type, constant_type}

-- ---- what is there

some_map : {A B : Type 0} (f : A → B) (o : Option A) (b : B) → option_map f o ≡ Some b
    → (a : A) × (o ≡ Some a) × (f a ≡ b)
some_map f None b e = absurd (cc)
some_map f (Some a) b e = (a, refl, (let same : f a ≡ b = cc in same))

some_when : (b : Bool) (s t : Ty) → when b s ≡ Some t → IsTrue b × (s ≡ t)
some_when true s t e = (refl, (let same : s ≡ t = cc in same))
some_when false s t e = absurd (cc)

pub typed_if : {A T : Type 0} (m : Mode) (R : A → T → Type 0) (b : Bool) (r : Option T) (o : Outcome A)
    → (IsTrue b → Typed m R r o) → Typed m R (cond b r None) o
typed_if m R true r o h = h refl
typed_if m R false r o h = tt

module _ (c : Defs) (g : IsTrue (good_classes c)) where
  abbrev own : Datum → Option Ty
  own d = datum_type c d

  abbrev beside : Datum → Datum × Option Ty
  beside d = (d, own d)

  abbrev Fit : Datum → Type 0
  Fit d = (t : Ty) → own d ≡ Some t → IsTrue (fits c d t)

  abbrev Fits : Datum-F Datum → Ty → Type 0
  Fits x t = IsTrue (fits_layer c (fits c) x (out-Ty t))

  of_type : (x : Datum-F Datum) (s t : Ty) (y : Ty-F Ty) → out-Ty s ≡ y → s ≡ t → IsTrue (fits_layer c (fits c) x y)
      → Fits x t
  of_type x s t y e same h =
      let P : Ty-F Ty → Type 0 = λ z. IsTrue (fits_layer c (fits c) x z) in
      subst (Fits x) same (subst P (sym e) h)

  -- ---- collections

  -- values of the first type, and of those of the members in order
  abbrev Joined : Ty → List Datum → Ty → Type 0
  Joined t ds v = ((d : Datum) → IsTrue (fits c d t) → IsTrue (fits c d v)) × IsTrue (all_in (λ d. fits c d v) ds)

  abbrev types : List Datum → List (Option Ty)
  types ds = map (λ (p : Datum × Option Ty). p.1) (map beside ds)

  joined_next : (t u : Ty) (d : Datum) (ds : List Datum) (v : Ty) (o : Option Ty) → AboveBoth c t u o
      → IsTrue (fits c d u) → ((j : Ty) → join_all c j (types ds) ≡ Some v → Joined j ds v)
      → option_and_then (λ j. join_all c j (types ds)) o ≡ Some v → Joined t (d ∷ ds) v
  joined_next t u d ds v None up h ih e = absurd (cc)
  joined_next t u d ds v (Some j) up h ih e =
      let k = ih j e in (
        λ x i. k.0 x (fits_mono c g x t j i up.0),
        both (fits c d v) (all_in (λ d. fits c d v) ds) (k.0 d (fits_mono c g d u j h up.1)) k.1,
      )

  joined_step : (t : Ty) (d : Datum) (ds : List Datum) (v : Ty) (o : Option Ty) → own d ≡ o → Fit d
      → ((j : Ty) → join_all c j (types ds) ≡ Some v → Joined j ds v)
      → option_and_then (λ u. option_and_then (λ j. join_all c j (types ds)) (join c t u)) o ≡ Some v
      → Joined t (d ∷ ds) v
  joined_step t d ds v None is fit ih e = absurd (cc)
  joined_step t d ds v (Some u) is fit ih e =
      joined_next t u d ds v (join c t u) (join_above c t u) (fit u is) ih e

  joined : (ds : List Datum) → AllOf Fit ds → (t v : Ty) → join_all c t (types ds) ≡ Some v → Joined t ds v
  joined [] h t v e =
      let same : t ≡ v = cc in (λ d i. let P : Ty → Type 0 = λ s. IsTrue (fits c d s) in subst P same i, refl)
  joined (d ∷ ds) h t v e = joined_step t d ds v (own d) refl h.0 (λ j k. joined ds h.1 j v k) e

  -- ---- records

  abbrev typed_fields : List (List ℕ × Datum) → List (List ℕ × Option Ty)
  typed_fields fs = map (on_value (λ (p : Datum × Option Ty). p.1)) (map (on_value beside) fs)

  abbrev row : List (List ℕ × Datum) → List (List ℕ × Ty)
  row fs = map (on_value or_bottom) (typed_fields fs)

  row_names : (fs : List (List ℕ × Datum)) → names (row fs) ≡ names fs
  row_names fs =
      names-map or_bottom (typed_fields fs)
      ∙ names-map (λ (p : Datum × Option Ty). p.1) (map (on_value beside) fs) ∙ names-map beside fs

  typed_fit : (d : Datum) (o : Option Ty) → own d ≡ o → Fit d → IsTrue (is_some o) → IsTrue (fits c d (or_bottom o))
  typed_fit d None is h k = absurd (cc)
  typed_fit d (Some t) is h k = h t is

  field_cond : (b : Bool) (d : Datum) (t : Ty) (x : Option Datum) (y : Option Ty) → IsTrue (fits c d t)
      → IsTrue (at_field (fits c) x y) → IsTrue (at_field (fits c) (cond b (Some d) x) (cond b (Some t) y))
  field_cond true d t x y h k = h
  field_cond false d t x y h k = k

  field_at : (fs : List (List ℕ × Datum)) → AllIn Fit fs → IsTrue (all_typed (typed_fields fs)) → (n : List ℕ)
      → IsTrue (at_field (fits c) (lookup n fs) (lookup n (row fs)))
  field_at [] h k n = refl
  field_at (f ∷ fs) h k n =
      let a = and_parts (is_some (own f.1)) (all_typed (typed_fields fs)) k in
      field_cond (bytes_eq f.0 n) f.1 (or_bottom (own f.1)) (lookup n fs) (lookup n (row fs))
      (typed_fit f.1 (own f.1) refl h.0 a.0) (field_at fs h.1 a.1 n)

  fields_fit : (fs : List (List ℕ × Datum)) → AllIn Fit fs → IsTrue (all_typed (typed_fields fs))
      → IsTrue (fields_in Exact (fits c) fs (row fs))
  fields_fit fs h k =
      both (same_names (names fs) (names (row fs))) (has_fields (fits c) fs (row fs))
      (rw (row_names fs) (same_names-refl (names fs))) (has_from (fits c) fs (row fs) (field_at fs h k))

  -- ---- one layer

  layer : (x : Datum-F Datum) → Held Fit x → (t : Ty)
      → constant_step c (map-Datum Datum (Datum × Option Ty) beside x) ≡ Some t → Fits x t
  layer Datum-F.Unit h t e = of_type Datum-F.Unit ty.Unit t Ty-F.Unit out-Unit (cc) refl
  layer (Datum-F.Bool b) h t e = of_type (Datum-F.Bool b) ty.Bool t Ty-F.Bool out-Bool (cc) refl
  layer (Datum-F.Int n) h t e = of_type (Datum-F.Int n) ty.Int t Ty-F.Int out-Int (cc) refl
  layer (Datum-F.Text s) h t e = of_type (Datum-F.Text s) ty.Text t Ty-F.Text out-Text (cc) refl
  layer (Datum-F.Coll ds) h t e =
      let w = some_map (λ s. ty.Coll s) (join_all c ty.Bottom (types ds)) t e in
      of_type (Datum-F.Coll ds) (ty.Coll w.0) t (Ty-F.Coll w.0) (out-Coll w.0) w.2
      (joined ds h ty.Bottom w.0 w.1).1
  layer (Datum-F.Rec fs) h t e =
      let w = some_when (all_typed (typed_fields fs)) (ty.Rec Exact (row fs)) t e in
      of_type (Datum-F.Rec fs) (ty.Rec Exact (row fs)) t (Ty-F.Rec Exact (row fs)) (out-Rec Exact (row fs)) w.1
      (fields_fit fs h w.0)
  layer (Datum-F.Left d) h t e =
      let w = some_map (λ s. ty.Either s ty.Bottom) (own d) t e in
      of_type (Datum-F.Left d) (ty.Either w.0 ty.Bottom) t (Ty-F.Either w.0 ty.Bottom) (out-Either w.0 ty.Bottom) w.2
      (h w.0 w.1)
  layer (Datum-F.Right d) h t e =
      let w = some_map (λ s. ty.Either ty.Bottom s) (own d) t e in
      of_type (Datum-F.Right d) (ty.Either ty.Bottom w.0) t (Ty-F.Either ty.Bottom w.0) (out-Either ty.Bottom w.0) w.2
      (h w.0 w.1)
  layer (Datum-F.Brand n d) h t e =
      let w = some_when (fits c (datum.Brand n d) (ty.Brand n)) (ty.Brand n) t e in
      of_type (Datum-F.Brand n d) (ty.Brand n) t (Ty-F.Brand n) (out-Brand n) w.1 (sym (fits_class c n n d) ∙ w.0)

  datum_fits : (d : Datum) → Fit d
  datum_fits = datum_ind Fit (λ x h t e.
      fits_roll c x t ∙ layer x h t (sym (para-roll-Datum (Option Ty) (constant_step c) x) ∙ e))

  pub constant_typed : (m : Mode) (d : Datum) → Typed m (HasType c) (constant_type c d) (Value d)
  constant_typed m d =
      typed_if m (HasType c) (rising d) (datum_type c d) (Value d) (λ r.
      typed_some m (HasType c) (datum_type c d) (Value d)
      (λ t e. record { fitting = datum_fits d t e; records = r }))
