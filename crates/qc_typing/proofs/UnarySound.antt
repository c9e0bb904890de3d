-- On a value of a type, an operator makes a value of the type that it gives.
use Rattle.std.proofs.Common.{◌≡◌, ℕ, ℤ, List, [], ◌∷◌, Option, Some, None, Bool, true, false, ◌||◌, cond, IsTrue, refl}
use Rattle.std.proofs.Common.{sym, ap, ◌∙◌, subst}
use Rattle.std.specs.Prelude.{option_map, not, is_some}
use Rattle.std.specs.Str.{bytes_eq}
use Rattle.qc_data.specs.Kinds.{as_int, as_coll}
use Rattle.qc_data.specs.Outcome.{Mode, Outcome, Value, and_then}
use Rattle.qc_containers.specs.Pairs.{lookup}
use Rattle.qc_data.specs.declared.data.Datum.{Datum}
use Rattle.qc_data.specs.declared.data.Datum.TheOpen.{Datum-F}
use Rattle.qc_data.specs.declared.data.Datum.TheViews.{out-Datum, roll-Datum}
use Rattle.qc_data.specs.declared.data.Datum.TheVariants as datum
use Rattle.qc_types.specs.declared.ty.Width.{Width}
use Rattle.qc_types.specs.declared.ty.Ty.{Ty}
use Rattle.qc_types.specs.declared.ty.Ty.TheOpen.{Ty-F}
use Rattle.qc_types.specs.declared.ty.Ty.TheVariants as ty
use Rattle.qc_types.specs.declared.ty.ClassDef.{ClassDef}
use Rattle.qc_types.specs.Classes.{Defs, below, chain, class_of as class_named, is_in, listed, parents, shape}
use Rattle.qc_types.specs.Schemas.{good_classes}
use Rattle.qc_types.specs.Types.{content, fits, sub}
use Rattle.qc_types.proofs.ClassLaws.{content_fits, fits_class}
use Rattle.qc_types.proofs.Inductions.{AllOf, roll-out}
use Rattle.qc_types.proofs.RowLaws.{and_parts, both}
use Rattle.qc_ops.specs.declared.op.Unary.{Unary}
use Rattle.qc_ops.specs.declared.op.Unary.TheVariants as one
use Rattle.qc_ops.specs.Bags.{firsts, only_of}
use Rattle.qc_ops.specs.Numbers.{as_ints, mean_of, least_of, greatest_of}
use Rattle.qc_ops.specs.Operands.{as_bool, as_text, as_rec, as_brand, optional}
use Rattle.qc_ops.specs.Operators.{unary}
use Rattle.qc_ops.specs.Sides.{is_under}
use Rattle.qc_typing.specs.Kinds.{is_bottom, members, record_parts, own_class, bag_above, when}
use Rattle.qc_typing.specs.FieldTypes.{has_names, is_ordered_by, groups_of}
use Rattle.qc_typing.specs.Tables.{maybe_int, bottom_type, operand_type, unary_type}
use Rattle.qc_typing.specs.Typed.{HasType}
use Rattle.qc_typing.proofs.Outcomes.{Holds, Typed, holds_then, typed_at, typed_by, typed_map, typed_never, typed_some}
use Rattle.qc_typing.proofs.Outcomes.{typed_then, typed_when}
use Rattle.qc_typing.proofs.Values.{Any, At, Fields, Maybe, below_type, bool_holds, class_typed, closed_as, int_holds}
use Rattle.qc_typing.proofs.Values.{ints_holds, made_holds, make_bool, make_coll, make_int, make_left, make_optional}
use Rattle.qc_typing.proofs.Values.{make_right, members_typed, no_bottom, out-Brand, outs-Brand, text_holds}
use Rattle.qc_typing.proofs.RisingLaws.{name_itself, same_name}
use Rattle.qc_typing.proofs.RecordValues.{fields_typed, found_holds, one_field, project_holds}
use Rattle.qc_typing.proofs.BagValues.{firsts_all, flat_typed, only_maybe}
use Rattle.qc_typing.proofs.RowValues.{grouped_typed, ordered_holds}

-- ---- classes

self_at : (d : ClassDef) (ds : Defs) (n : List ℕ) (b : Bool) → IsTrue (is_some (cond b (Some d) (class_named ds n)))
    → (IsTrue (listed ds n) → IsTrue (below ds n n))
    → IsTrue (is_in n (cond b (n ∷ parents (λ p. chain ds p) d.parent) (chain ds n)))
self_at d ds n true h later = rw (name_itself n) refl
self_at d ds n false h later = later h

-- a listed class is below itself
below_self : (c : Defs) (n : List ℕ) → IsTrue (listed c n) → IsTrue (below c n n)
below_self [] n h = absurd (cc)
below_self (d ∷ ds) n h = self_at d ds n (bytes_eq d.name n) h (below_self ds n)

some_listed : (o : Option ClassDef) (t : Ty) → option_map (λ d. d.shape) o ≡ Some t → IsTrue (is_some o)
some_listed None t e = absurd (cc)
some_listed (Some d) t e = refl

shape_listed : (c : Defs) (n : List ℕ) (t : Ty) → shape c n ≡ Some t → IsTrue (listed c n)
shape_listed c n t e = some_listed (class_named c n) t e

content_shape : (c : Defs) (d : Datum) (o : Option Ty) → IsTrue (content (fits c) d o) → (t : Ty) × (o ≡ Some t)
content_shape c d None h = absurd (cc)
content_shape c d (Some t) h = (t, refl)

some_is : {A : Type 0} (a b : A) → Some a ≡ Some b → a ≡ b
some_is a b e = cc

module _ (c : Defs) (g : IsTrue (good_classes c)) (m : Mode) where
  make_brand : (n : List ℕ) (t : Ty) (d : Datum) → shape c n ≡ Some t → HasType c d t
      → HasType c (datum.Brand n d) (ty.Brand n)
  make_brand n t d e h =
      closed_as c (datum.Brand n d) (ty.Brand n) (Datum-F.Brand n d) (Ty-F.Brand n) (outs-Brand n d) (out-Brand n)
      (record {
        fitting =
            both (below c n n) (content (fits c) d (shape c n)) (below_self c n (shape_listed c n t e))
            (rw e h.fitting);
        records = h.records;
      })

  -- a class value, and what it holds
  brand_self : (d : Datum) (p : List ℕ × Datum) → out-Datum d ≡ Datum-F.Brand p.0 p.1 → datum.Brand p.0 p.1 ≡ d
  brand_self d p e = sym (datum.rolls-Brand p.0 p.1) ∙ ap roll-Datum (sym e) ∙ roll-out d

  content_typed : (n : List ℕ) (p : List ℕ × Datum) → At c (Datum-F.Brand p.0 p.1) (Ty-F.Brand n)
      → Typed m (HasType c) (shape c n) (Value p.1)
  content_typed n p k = typed_some m (HasType c) (shape c n) (Value p.1) (λ t e.
      let w = content_fits c g p.0 n p.1 (fits_class c p.0 n p.1 ∙ k.fitting) in
      let P : Ty → Type 0 = λ s. IsTrue (fits c p.1 s) in
      record { fitting = subst P (some_is w.0 t (sym w.1 ∙ e)) w.2; records = k.records })

  under_at : (name b : List ℕ) (p : List ℕ × Datum) (same lower : Bool) → bytes_eq p.0 name ≡ same
      → below c p.0 name ≡ lower → At c (Datum-F.Brand p.0 p.1) (Ty-F.Brand b)
      → Maybe c (ty.Brand name) (cond (same || lower) (Some (datum.Brand p.0 p.1)) None)
  under_at name b p true lower e f k =
      let a = and_parts (below c p.0 b) (content (fits c) p.1 (shape c p.0)) k.fitting in
      let w = content_shape c p.1 (shape c p.0) a.1 in
      let P : List ℕ → Type 0 = λ n. IsTrue (below c p.0 n) in
      let lower = subst P (same_name p.0 name e) (below_self c p.0 (shape_listed c p.0 w.0 w.1)) in
      closed_as c (datum.Brand p.0 p.1) (ty.Brand name) (Datum-F.Brand p.0 p.1) (Ty-F.Brand name) (outs-Brand p.0 p.1)
      (out-Brand name) (record {
        fitting = both (below c p.0 name) (content (fits c) p.1 (shape c p.0)) lower a.1;
        records = k.records;
      })
  under_at name b p false true e f k =
      let a = and_parts (below c p.0 b) (content (fits c) p.1 (shape c p.0)) k.fitting in
      closed_as c (datum.Brand p.0 p.1) (ty.Brand name) (Datum-F.Brand p.0 p.1) (Ty-F.Brand name) (outs-Brand p.0 p.1)
      (out-Brand name) (record {
        fitting = both (below c p.0 name) (content (fits c) p.1 (shape c p.0)) f a.1;
        records = k.records;
      })
  under_at name b p false false e f k = tt

  cast_maybe : (name b : List ℕ) (d : Datum) (p : List ℕ × Datum) → out-Datum d ≡ Datum-F.Brand p.0 p.1
      → At c (Datum-F.Brand p.0 p.1) (Ty-F.Brand b) → Maybe c (ty.Brand name) (cond (is_under c p.0 name) (Some d) None)
  cast_maybe name b d p e k =
      let P : Datum → Type 0 = λ x. Maybe c (ty.Brand name) (cond (is_under c p.0 name) (Some x) None) in
      subst P (brand_self d p e) (under_at name b p (bytes_eq p.0 name) (below c p.0 name) refl refl k)

  -- ---- an operand below a type
  on_below : {A : Type 0} (k : Ty) (as' : Datum → Outcome A) → ((d : Datum) → HasType c d k → Holds m Any (as' d))
      → (a : Ty) (d : Datum) (t : Ty) (f : A → Outcome Datum) → HasType c d a
      → ((v : A) → Holds m (λ w. HasType c w t) (f v))
      → Typed m (HasType c) (when (sub c a k) t) (and_then (as' d) f)
  on_below k as' holds a d t f h go =
      typed_when m (HasType c) (sub c a k) t (and_then (as' d) f)
      (λ s. holds_then m Any (λ w. HasType c w t) (as' d) f (holds d (below_type c g d a k h s)) (λ v u. go v))

  abbrev on_int : (a : Ty) (d : Datum) (t : Ty) (f : ℤ → Outcome Datum) → HasType c d a
      → ((v : ℤ) → Holds m (λ w. HasType c w t) (f v))
      → Typed m (HasType c) (when (sub c a ty.Int) t) (and_then (as_int d) f)
  on_int = on_below ty.Int as_int (int_holds c m)

  abbrev on_ints : (a : Ty) (d : Datum) (t : Ty) (f : List ℤ → Outcome Datum) → HasType c d a
      → ((v : List ℤ) → Holds m (λ w. HasType c w t) (f v))
      → Typed m (HasType c) (when (sub c a (ty.Coll ty.Int)) t) (and_then (as_ints d) f)
  on_ints = on_below (ty.Coll ty.Int) as_ints (ints_holds c m)

  maybe_some : (o : Option ℤ) → HasType c (optional (option_map datum.Int o)) maybe_int
  maybe_some None = make_optional c ty.Int None tt
  maybe_some (Some n) = make_optional c ty.Int (Some (datum.Int n)) (make_int c n)

  mean_holds : (ns : List ℤ) → Holds m (λ v. HasType c v maybe_int) (mean_of m ns)
  mean_holds [] = make_optional c ty.Int None tt
  mean_holds (n ∷ ns) =
      holds_then m (λ v. HasType c v ty.Int) (λ v. HasType c v maybe_int) _ (λ d. Value (optional (Some d)))
      (made_holds c m _) (λ d k. make_optional c ty.Int (Some d) k)

  -- ---- each operator

  abbrev Bag : List Datum → Ty → Type 0
  Bag xs t = AllOf (λ x. HasType c x t) xs

  abbrev Row : List (List ℕ × Datum) → Width × List (List ℕ × Ty) → Type 0
  Row fs r = Fields c r.0 r.1 fs

  operand_sound : (op : Unary) (a : Ty) (d : Datum) → HasType c d a
      → Typed m (HasType c) (operand_type c op a) (unary m c op d)
  operand_sound one.Not a d h = on_below ty.Bool as_bool (bool_holds c m) a d ty.Bool _ h (λ p. make_bool c (not p))
  operand_sound one.Neg a d h = on_int a d ty.Int _ h (λ n. made_holds c m _)
  operand_sound one.Abs a d h = on_int a d ty.Int _ h (λ n. made_holds c m _)
  operand_sound (one.DivBy k) a d h = on_int a d ty.Int _ h (λ n. made_holds c m _)
  operand_sound (one.ModBy k) a d h = on_int a d ty.Int _ h (λ n. made_holds c m _)
  operand_sound one.Count a d h =
      typed_map m Bag (HasType c) (members a) (as_coll d) _ _ (members_typed c m d a h) (λ t xs k. made_holds c m _)
  operand_sound one.Sum a d h = on_ints a d ty.Int _ h (λ ns. made_holds c m _)
  operand_sound one.Min a d h = on_ints a d maybe_int _ h (λ ns. maybe_some (least_of ns))
  operand_sound one.Max a d h = on_ints a d maybe_int _ h (λ ns. maybe_some (greatest_of ns))
  operand_sound one.Avg a d h = on_ints a d maybe_int _ h (λ ns. mean_holds ns)
  operand_sound one.Element a d h =
      typed_map m Bag (HasType c) (members a) (as_coll d) _ _ (members_typed c m d a h)
      (λ t xs k. make_optional c t (only_of xs) (only_maybe c t xs k))
  operand_sound one.Flatten a d h =
      typed_then m Bag (HasType c) (members a) (as_coll d) bag_above _ (members_typed c m d a h)
      (λ t xs k. flat_typed c m t xs k)
  operand_sound one.Distinct a d h =
      typed_map m Bag (HasType c) (members a) (as_coll d) _ _ (members_typed c m d a h)
      (λ t xs k. make_coll c t (firsts xs) (firsts_all (λ x. HasType c x t) xs k))
  operand_sound one.Single a d h = make_coll c a (d ∷ []) (h, tt)
  operand_sound (one.Rec name) a d h = one_field c name a d h
  operand_sound (one.Dot name) a d h =
      typed_then m Row (HasType c) (record_parts a) (as_rec d) _ _ (fields_typed c m d a h)
      (λ r fs k. typed_some m (HasType c) (lookup name r.1) _ (λ t e. found_holds c m r.0 name r.1 fs t e k))
  operand_sound (one.Project names) a d h =
      typed_by m (HasType c) (record_parts a) _ _
      (λ r e. typed_when m (HasType c) (has_names names r.1) _ _
      (λ s. project_holds c m r.0 names r.1 d s
      (typed_at m Row (record_parts a) r (as_rec d) e (fields_typed c m d a h))))
  operand_sound one.Left a d h = make_left c d a ty.Bottom h
  operand_sound one.Right a d h = make_right c d ty.Bottom a h
  operand_sound (one.Brand name) a d h =
      typed_by m (HasType c) (shape c name) _ _
      (λ t e. typed_when m (HasType c) (sub c a t) _ _ (λ s. make_brand name t d e (below_type c g d a t h s)))
  operand_sound one.Unbrand a d h =
      typed_then m _ (HasType c) (own_class a) (as_brand d) (shape c) _ (class_typed c m d a h)
      (λ b p k. content_typed b p k.1)
  operand_sound (one.Cast name) a d h =
      typed_then m _ (HasType c) (own_class a) (as_brand d) _ _ (class_typed c m d a h)
      (λ b p k. typed_when m (HasType c) (listed c name) _ _
      (λ s. make_optional c (ty.Brand name) _ (cast_maybe name b d p k.0 k.1)))
  operand_sound (one.Order keys) a d h =
      typed_then m Bag (HasType c) (members a) (as_coll d) _ _ (members_typed c m d a h)
      (λ t rows k. typed_when m (HasType c) (is_ordered_by c keys t) _ _ (λ s. ordered_holds c g m keys t rows s k))
  operand_sound (one.Group name names) a d h =
      typed_then m Bag (HasType c) (members a) (as_coll d) (groups_of name names) _ (members_typed c m d a h)
      (λ t rows k. grouped_typed c g m name names t rows k)
  operand_sound (one.Like pattern) a d h =
      on_below ty.Text as_text (text_holds c m) a d ty.Bool _ h (λ s. make_bool c _)

  pub unary_sound : (op : Unary) (a : Ty) (d : Datum) → HasType c d a
      → Typed m (HasType c) (unary_type c op a) (unary m c op d)
  unary_sound op a d h =
      typed_never m (HasType c) (is_bottom a) (bottom_type c op) (operand_type c op a) (unary m c op d)
      (λ e. no_bottom c d a h e) (operand_sound op a d h)
