-- Values of types: taken apart by kind, and made.
use Rattle.std.proofs.Common.{◌≡◌, ℕ, ℤ, List, [], ◌∷◌, map, Option, Some, None, Bool, true, false, ◌&&◌, IsTrue, refl}
use Rattle.std.proofs.Common.{sym, ap, ◌∙◌, subst, rules}
use Rattle.std.specs.Prelude.{int_le, if◌then◌else◌}
use Rattle.qc_data.specs.Facts.{rising, rising_step, rise, all_true, all_values}
use Rattle.qc_data.specs.Kinds.{int_at, coll_at, as_int, as_coll, made}
use Rattle.qc_data.specs.Outcome.{Mode, any_size, within, Outcome, Value, Halts, Range, bound, each}
use Rattle.qc_containers.specs.Rising.{on_value, Rising}
use Rattle.qc_containers.specs.inner.RisingParts.{Rising-to, Rising-from}
use Rattle.qc_data.specs.declared.data.Datum.{Datum, the_lemmas}
use Rattle.qc_data.specs.declared.data.Datum.TheOpen.{Datum-F}
use Rattle.qc_data.specs.declared.data.Datum.TheViews.{out-Datum}
use Rattle.qc_data.specs.declared.data.Datum.TheFolds.{map-Datum}
use Rattle.qc_data.specs.declared.data.Datum.TheVariants as datum
use Rattle.qc_data.proofs.FactLaws.{rising-roll}
use Rattle.qc_data.proofs.Risen.{rise-is, rise-test}
use Rattle.qc_types.specs.declared.ty.Width.{Width}
use Rattle.qc_types.specs.declared.ty.Ty.{Ty, the_lemmas as ty_lemmas}
use Rattle.qc_types.specs.declared.ty.Ty.TheOpen.{Ty-F}
use Rattle.qc_types.specs.declared.ty.Ty.TheViews.{out-Ty}
use Rattle.qc_types.specs.declared.ty.Ty.TheVariants as ty
use Rattle.qc_types.specs.Classes.{Defs}
use Rattle.qc_types.specs.Rows.{fields_in, all_in}
use Rattle.qc_types.specs.Schemas.{good_classes}
use Rattle.qc_types.specs.Types.{fits, fits_layer, sub}
use Rattle.qc_types.proofs.ClassLaws.{fits_mono}
use Rattle.qc_types.proofs.Inductions.{AllOf, AllIn, roll-out}
use Rattle.qc_types.proofs.RowLaws.{and_parts, both}
use Rattle.qc_types.proofs.TypeLaws.{fits_out}
use Rattle.qc_ops.specs.Numbers.{as_ints}
use Rattle.qc_ops.specs.Operands.{bool_at, text_at, rec_at, brand_at, as_bool, as_text, as_rec, as_brand, optional}
use Rattle.qc_typing.specs.Kinds.{bottom_at, is_bottom, members_at, members, record_at, record_parts, class_at}
use Rattle.qc_typing.specs.Kinds.{own_class}
use Rattle.qc_typing.specs.Typed.{HasType}
use Rattle.qc_typing.proofs.Outcomes.{Holds, Typed, holds_then, holds_each}

-- anything
abbrev pub Any : {A : Type 0} → A → Type 0
Any a = Unit {0}

-- one layer of a datum against one of a type
pub record At (c : Defs) (x : Datum-F Datum) (y : Ty-F Ty) : Type 0 where
  pub fitting : IsTrue (fits_layer c (fits c) x y)
  pub records : IsTrue (rising_step (map-Datum Datum Bool rising x))

-- the fields of a record against those of a type
pub record Fields (c : Defs) (w : Width) (ts : List (List ℕ × Ty)) (fs : List (List ℕ × Datum)) : Type 0 where
  pub fitting : IsTrue (fields_in w (fits c) fs ts)
  pub names : Rising fs
  pub values : AllIn (λ d. IsTrue (rising d)) fs

rising-out : (d : Datum) → rising d ≡ rising_step (map-Datum Datum Bool rising (out-Datum d))
rising-out d = ap rising (sym (roll-out d)) ∙ rising-roll (out-Datum d)

values_of : (fs : List (List ℕ × Datum)) → IsTrue (all_values (map (on_value rising) fs))
    → AllIn (λ d. IsTrue (rising d)) fs
values_of [] h = tt
values_of (f ∷ fs) h =
    let a = and_parts (rising f.1) (all_values (map (on_value rising) fs)) h in (a.0, values_of fs a.1)

values_to : (fs : List (List ℕ × Datum)) → AllIn (λ d. IsTrue (rising d)) fs
    → IsTrue (all_values (map (on_value rising) fs))
values_to [] h = refl
values_to (f ∷ fs) h = both (rising f.1) (all_values (map (on_value rising) fs)) h.0 (values_to fs h.1)

-- ---- each kind of datum and type, opened
pub out-Unit : out-Ty ty.Unit ≡ Ty-F.Unit
out-Unit = search (rules, ty_lemmas)

pub out-Bool : out-Ty ty.Bool ≡ Ty-F.Bool
out-Bool = search (rules, ty_lemmas)

pub out-Int : out-Ty ty.Int ≡ Ty-F.Int
out-Int = search (rules, ty_lemmas)

pub out-Text : out-Ty ty.Text ≡ Ty-F.Text
out-Text = search (rules, ty_lemmas)

pub out-Coll : (t : Ty) → out-Ty (ty.Coll t) ≡ Ty-F.Coll t
out-Coll t = search (rules, ty_lemmas)

pub out-Rec : (w : Width) (ts : List (List ℕ × Ty)) → out-Ty (ty.Rec w ts) ≡ Ty-F.Rec w ts
out-Rec w ts = search (rules, ty_lemmas)

pub out-Either : (t u : Ty) → out-Ty (ty.Either t u) ≡ Ty-F.Either t u
out-Either t u = search (rules, ty_lemmas)

pub out-Brand : (n : List ℕ) → out-Ty (ty.Brand n) ≡ Ty-F.Brand n
out-Brand n = search (rules, ty_lemmas)

outs-Unit : out-Datum datum.Unit ≡ Datum-F.Unit
outs-Unit = search (rules, the_lemmas)

outs-Bool : (b : Bool) → out-Datum (datum.Bool b) ≡ Datum-F.Bool b
outs-Bool b = search (rules, the_lemmas)

outs-Int : (n : ℤ) → out-Datum (datum.Int n) ≡ Datum-F.Int n
outs-Int n = search (rules, the_lemmas)

outs-Text : (s : List ℕ) → out-Datum (datum.Text s) ≡ Datum-F.Text s
outs-Text s = search (rules, the_lemmas)

outs-Coll : (xs : List Datum) → out-Datum (datum.Coll xs) ≡ Datum-F.Coll xs
outs-Coll xs = search (rules, the_lemmas)

outs-Rec : (fs : List (List ℕ × Datum)) → out-Datum (datum.Rec fs) ≡ Datum-F.Rec fs
outs-Rec fs = search (rules, the_lemmas)

outs-Left : (d : Datum) → out-Datum (datum.Left d) ≡ Datum-F.Left d
outs-Left d = search (rules, the_lemmas)

outs-Right : (d : Datum) → out-Datum (datum.Right d) ≡ Datum-F.Right d
outs-Right d = search (rules, the_lemmas)

pub outs-Brand : (n : List ℕ) (d : Datum) → out-Datum (datum.Brand n d) ≡ Datum-F.Brand n d
outs-Brand n d = search (rules, the_lemmas)

module _ (c : Defs) where
  -- ---- layers and wholes
  pub opened : (d : Datum) (t : Ty) → HasType c d t → At c (out-Datum d) (out-Ty t)
  opened d t h = record { fitting = sym (fits_out c d t) ∙ h.fitting; records = sym (rising-out d) ∙ h.records }

  pub opened_as : (d : Datum) (t : Ty) (y : Ty-F Ty) → out-Ty t ≡ y → HasType c d t → At c (out-Datum d) y
  opened_as d t y e h = subst (At c (out-Datum d)) e (opened d t h)

  pub closed : (d : Datum) (t : Ty) → At c (out-Datum d) (out-Ty t) → HasType c d t
  closed d t h = record { fitting = fits_out c d t ∙ h.fitting; records = rising-out d ∙ h.records }

  pub closed_as : (d : Datum) (t : Ty) (x : Datum-F Datum) (y : Ty-F Ty) → out-Datum d ≡ x → out-Ty t ≡ y → At c x y
      → HasType c d t
  closed_as d t x y p q h = closed d t (rw (p, q) h)

  pub below_type : IsTrue (good_classes c) → (d : Datum) (a b : Ty) → HasType c d a → IsTrue (sub c a b) → HasType c d b
  below_type g d a b h s = record { fitting = fits_mono c g d a b h.fitting s; records = h.records }

  -- ---- made
  pub make_unit : HasType c datum.Unit ty.Unit
  make_unit =
      closed_as datum.Unit ty.Unit Datum-F.Unit Ty-F.Unit outs-Unit out-Unit (record { fitting = refl; records = refl })

  pub make_bool : (b : Bool) → HasType c (datum.Bool b) ty.Bool
  make_bool b =
      closed_as (datum.Bool b) ty.Bool (Datum-F.Bool b) Ty-F.Bool (outs-Bool b) out-Bool
      (record { fitting = refl; records = refl })

  pub make_int : (n : ℤ) → HasType c (datum.Int n) ty.Int
  make_int n =
      closed_as (datum.Int n) ty.Int (Datum-F.Int n) Ty-F.Int (outs-Int n) out-Int
      (record { fitting = refl; records = refl })

  pub make_text : (s : List ℕ) → HasType c (datum.Text s) ty.Text
  make_text s =
      closed_as (datum.Text s) ty.Text (Datum-F.Text s) Ty-F.Text (outs-Text s) out-Text
      (record { fitting = refl; records = refl })

  coll_made : (t : Ty) (xs : List Datum) → AllOf (λ x. HasType c x t) xs → At c (Datum-F.Coll xs) (Ty-F.Coll t)
  coll_made t [] h = record { fitting = refl; records = refl }
  coll_made t (x ∷ xs) h = let rest = coll_made t xs h.1 in record {
    fitting = both (fits c x t) (all_in (λ d. fits c d t) xs) h.0.fitting rest.fitting;
    records = both (rising x) (all_true (map rising xs)) h.0.records rest.records;
  }

  pub make_coll : (t : Ty) (xs : List Datum) → AllOf (λ x. HasType c x t) xs → HasType c (datum.Coll xs) (ty.Coll t)
  make_coll t xs h =
      closed_as (datum.Coll xs) (ty.Coll t) (Datum-F.Coll xs) (Ty-F.Coll t) (outs-Coll xs) (out-Coll t)
      (coll_made t xs h)

  pub make_rec : (w : Width) (ts : List (List ℕ × Ty)) (fs : List (List ℕ × Datum)) → Fields c w ts fs
      → HasType c (datum.Rec fs) (ty.Rec w ts)
  make_rec w ts fs h =
      closed_as (datum.Rec fs) (ty.Rec w ts) (Datum-F.Rec fs) (Ty-F.Rec w ts) (outs-Rec fs) (out-Rec w ts) (record {
        fitting = h.fitting;
        records =
            both (rise (map (on_value rising) fs)) (all_values (map (on_value rising) fs))
            (rise-test (map (on_value rising) fs) (Rising-to rising fs h.names)) (values_to fs h.values);
      })

  pub make_left : (d : Datum) (t u : Ty) → HasType c d t → HasType c (datum.Left d) (ty.Either t u)
  make_left d t u h =
      closed_as (datum.Left d) (ty.Either t u) (Datum-F.Left d) (Ty-F.Either t u) (outs-Left d) (out-Either t u)
      (record { fitting = h.fitting; records = h.records })

  pub make_right : (d : Datum) (t u : Ty) → HasType c d u → HasType c (datum.Right d) (ty.Either t u)
  make_right d t u h =
      closed_as (datum.Right d) (ty.Either t u) (Datum-F.Right d) (Ty-F.Either t u) (outs-Right d) (out-Either t u)
      (record { fitting = h.fitting; records = h.records })

  -- one value or none
  abbrev pub Maybe : Ty → Option Datum → Type 0
  Maybe t None = Unit {0}
  Maybe t (Some d) = HasType c d t

  pub make_optional : (t : Ty) (o : Option Datum) → Maybe t o → HasType c (optional o) (ty.Either t ty.Unit)
  make_optional t None h = make_right datum.Unit t ty.Unit make_unit
  make_optional t (Some d) h = make_left d t ty.Unit h

  -- ---- taken apart
  pub nothing_bottom : (x : Datum-F Datum) (y : Ty-F Ty) → IsTrue (bottom_at y) → At c x y → ⊥
  nothing_bottom Datum-F.Unit Ty-F.Bottom e h = let f = h.fitting in absurd (cc)
  nothing_bottom x Ty-F.Bottom e h = let f = h.fitting in absurd (cc)
  nothing_bottom x y e h = absurd (cc)

  -- nothing is of no datum's type
  pub no_bottom : (d : Datum) (a : Ty) → HasType c d a → IsTrue (is_bottom a) → ⊥
  no_bottom d a h e = nothing_bottom (out-Datum d) (out-Ty a) e (opened d a h)

  pub none_bottom : (xs : List Datum) (a : Ty) → IsTrue (is_bottom a) → AllOf (λ x. HasType c x a) xs → xs ≡ []
  none_bottom [] a e h = refl
  none_bottom (x ∷ xs) a e h = absurd (no_bottom x a h.0 e)

  int_layer : (m : Mode) (x : Datum-F Datum) → At c x Ty-F.Int → Holds m Any (int_at x)
  int_layer m (Datum-F.Int n) h = tt
  int_layer m x h = let f = h.fitting in absurd (cc)

  bool_layer : (m : Mode) (x : Datum-F Datum) → At c x Ty-F.Bool → Holds m Any (bool_at x)
  bool_layer m (Datum-F.Bool b) h = tt
  bool_layer m x h = let f = h.fitting in absurd (cc)

  text_layer : (m : Mode) (x : Datum-F Datum) → At c x Ty-F.Text → Holds m Any (text_at x)
  text_layer m (Datum-F.Text s) h = tt
  text_layer m x h = let f = h.fitting in absurd (cc)

  members_all : (t : Ty) (xs : List Datum) → IsTrue (all_in (λ d. fits c d t) xs) → IsTrue (all_true (map rising xs))
      → AllOf (λ x. HasType c x t) xs
  members_all t [] h k = tt
  members_all t (x ∷ xs) h k =
      let a = and_parts (fits c x t) (all_in (λ d. fits c d t) xs) h in
      let b = and_parts (rising x) (all_true (map rising xs)) k in
      (record { fitting = a.0; records = b.0 }, members_all t xs a.1 b.1)

  pub coll_layer : (m : Mode) (t : Ty) (x : Datum-F Datum) → At c x (Ty-F.Coll t)
      → Holds m (AllOf (λ d. HasType c d t)) (coll_at x)
  coll_layer m t (Datum-F.Coll xs) h = members_all t xs h.fitting h.records
  coll_layer m t x h = let f = h.fitting in absurd (cc)

  pub int_holds : (m : Mode) (d : Datum) → HasType c d ty.Int → Holds m Any (as_int d)
  int_holds m d h = int_layer m (out-Datum d) (opened_as d ty.Int Ty-F.Int out-Int h)

  pub bool_holds : (m : Mode) (d : Datum) → HasType c d ty.Bool → Holds m Any (as_bool d)
  bool_holds m d h = bool_layer m (out-Datum d) (opened_as d ty.Bool Ty-F.Bool out-Bool h)

  pub text_holds : (m : Mode) (d : Datum) → HasType c d ty.Text → Holds m Any (as_text d)
  text_holds m d h = text_layer m (out-Datum d) (opened_as d ty.Text Ty-F.Text out-Text h)

  pub coll_holds : (m : Mode) (t : Ty) (d : Datum) → HasType c d (ty.Coll t)
      → Holds m (AllOf (λ x. HasType c x t)) (as_coll d)
  coll_holds m t d h = coll_layer m t (out-Datum d) (opened_as d (ty.Coll t) (Ty-F.Coll t) (out-Coll t) h)

  pub ints_holds : (m : Mode) (d : Datum) → HasType c d (ty.Coll ty.Int) → Holds m Any (as_ints d)
  ints_holds m d h =
      holds_then m (AllOf (λ x. HasType c x ty.Int)) Any (as_coll d) (λ xs. each as_int xs) (coll_holds m ty.Int d h)
      (λ xs all.
      holds_any m (each as_int xs) (holds_each m (λ x. HasType c x ty.Int) Any as_int xs all (λ x k. int_holds m x k)))
    where
      holds_any : {A : Type 0} (m : Mode) (o : Outcome (List A)) → Holds m (AllOf Any) o → Holds m Any o
      holds_any m (Value v) h = tt
      holds_any any_size (Halts why) h = h
      holds_any (within low high) (Halts Range) h = tt
      holds_any (within low high) (Halts why) h = h

  -- ---- by the type that there is

  members_layer : (m : Mode) (x : Datum-F Datum) (y : Ty-F Ty) → At c x y
      → Typed m (λ xs t. AllOf (λ d. HasType c d t) xs) (members_at y) (coll_at x)
  members_layer m x (Ty-F.Coll t) h = coll_layer m t x h
  members_layer m x y h = tt

  pub members_typed : (m : Mode) (d : Datum) (a : Ty) → HasType c d a
      → Typed m (λ xs t. AllOf (λ x. HasType c x t) xs) (members a) (as_coll d)
  members_typed m d a h = members_layer m (out-Datum d) (out-Ty a) (opened d a h)

  fields_layer : (w : Width) (ts : List (List ℕ × Ty)) (fs : List (List ℕ × Datum))
      → At c (Datum-F.Rec fs) (Ty-F.Rec w ts) → Fields c w ts fs
  fields_layer w ts fs h =
      let r = and_parts (rise (map (on_value rising) fs)) (all_values (map (on_value rising) fs)) h.records in
      record {
        fitting = h.fitting;
        names = Rising-from rising fs (rise-is (map (on_value rising) fs) r.0);
        values = values_of fs r.1;
      }

  -- the fields of a record of a type
  pub fields_of : (t : Ty) (w : Width) (ts : List (List ℕ × Ty)) (fs : List (List ℕ × Datum)) → out-Ty t ≡ Ty-F.Rec w ts
      → HasType c (datum.Rec fs) t → Fields c w ts fs
  fields_of t w ts fs e h =
      fields_layer w ts fs (let P : Datum-F Datum → Type 0 = λ x. At c x (Ty-F.Rec w ts) in
      subst P (outs-Rec fs) (opened_as (datum.Rec fs) t (Ty-F.Rec w ts) e h))

  record_layer : (m : Mode) (x : Datum-F Datum) (y : Ty-F Ty) → At c x y
      → Typed m (λ fs r. (x ≡ Datum-F.Rec fs) × Fields c r.0 r.1 fs) (record_at y) (rec_at x)
  record_layer m (Datum-F.Rec fs) (Ty-F.Rec w ts) h = (refl, fields_layer w ts fs h)
  record_layer m x (Ty-F.Rec w ts) h = let f = h.fitting in absurd (cc)
  record_layer m x y h = tt

  -- the fields of a record, of which the datum is made
  pub record_typed : (m : Mode) (d : Datum) (a : Ty) → HasType c d a
      → Typed m (λ fs r. (out-Datum d ≡ Datum-F.Rec fs) × Fields c r.0 r.1 fs) (record_parts a) (as_rec d)
  record_typed m d a h = record_layer m (out-Datum d) (out-Ty a) (opened d a h)

  class_layer : (m : Mode) (x : Datum-F Datum) (y : Ty-F Ty) → At c x y
      → Typed m (λ p n. (x ≡ Datum-F.Brand p.0 p.1) × At c (Datum-F.Brand p.0 p.1) (Ty-F.Brand n)) (class_at y)
      (brand_at x)
  class_layer m (Datum-F.Brand n d) (Ty-F.Brand b) h = (refl, h)
  class_layer m x (Ty-F.Brand b) h = let f = h.fitting in absurd (cc)
  class_layer m x y h = tt

  -- the class and the content of a class value, of which the datum is made
  pub class_typed : (m : Mode) (d : Datum) (a : Ty) → HasType c d a
      → Typed m (λ p n. (out-Datum d ≡ Datum-F.Brand p.0 p.1) × At c (Datum-F.Brand p.0 p.1) (Ty-F.Brand n))
      (own_class a) (as_brand d)
  class_typed m d a h = class_layer m (out-Datum d) (out-Ty a) (opened d a h)

  -- ---- integers that operators make
  bounded : (low high n : ℤ) (b : Bool) → Holds (within low high) Any (if b then Value n else Halts Range)
  bounded low high n true = tt
  bounded low high n false = tt

  bound_holds : (m : Mode) (n : ℤ) → Holds m Any (bound m n)
  bound_holds any_size n = tt
  bound_holds (within low high) n = bounded low high n (int_le low n && int_le n high)

  pub made_holds : (m : Mode) (n : ℤ) → Holds m (λ v. HasType c v ty.Int) (made m n)
  made_holds m n =
      holds_then m Any (λ v. HasType c v ty.Int) (bound m n) (λ k. Value (datum.Int k)) (bound_holds m n)
      (λ k u. make_int k)
