-- On values of two types, an operator makes a value of the type that it gives.
use Rattle.std.proofs.Common.{ℕ, ℤ, ◌+ℤ◌, ◌-ℤ◌, ◌*ℤ◌, List, [], ◌∷◌, ◌++◌, Option, Some, None, Bool, true, false, ◌||◌}
use Rattle.std.proofs.Common.{cond, IsTrue, Ordering, refl}
use Rattle.std.specs.Prelude.{option_map, is_some}
use Rattle.qc_data.specs.Kinds.{as_int, as_coll}
use Rattle.qc_data.specs.Outcome.{Mode, Outcome, Value, and_then}
use Rattle.qc_data.specs.declared.data.Datum.{Datum}
use Rattle.qc_data.specs.declared.data.Datum.TheOpen.{Datum-F}
use Rattle.qc_data.specs.declared.data.Datum.TheViews.{out-Datum}
use Rattle.qc_data.specs.declared.data.Datum.TheVariants as datum
use Rattle.qc_types.specs.declared.ty.Width.{Width}
use Rattle.qc_types.specs.declared.ty.Width.TheVariants.{Exact, Wide}
use Rattle.qc_types.specs.declared.ty.Ty.{Ty}
use Rattle.qc_types.specs.declared.ty.Ty.TheOpen.{Ty-F}
use Rattle.qc_types.specs.declared.ty.Ty.TheVariants as ty
use Rattle.qc_types.specs.Classes.{Defs}
use Rattle.qc_types.specs.Joins.{join, AboveBoth}
use Rattle.qc_types.specs.Schemas.{good_classes}
use Rattle.qc_types.specs.Types.{sub}
use Rattle.qc_types.proofs.Inductions.{AllOf}
use Rattle.qc_types.proofs.JoinLaws.{join_above}
use Rattle.qc_types.proofs.RowLaws.{and_parts}
use Rattle.qc_ops.specs.declared.op.Binary.{Binary}
use Rattle.qc_ops.specs.declared.op.Binary.TheVariants as two
use Rattle.qc_ops.specs.Bags.{on_bags, without, common}
use Rattle.qc_ops.specs.Operands.{as_bool, as_text, as_rec}
use Rattle.qc_ops.specs.Operators.{binary}
use Rattle.qc_ops.specs.Records.{over as over_data, compatible}
use Rattle.qc_ops.specs.Sameness.{same}
use Rattle.qc_ops.specs.Truths.{compared_at, compared}
use Rattle.qc_typing.specs.Kinds.{is_bottom, members, record_parts, when, on_members, on_records}
use Rattle.qc_typing.specs.FieldTypes.{merge_type, shared_join, over}
use Rattle.qc_typing.specs.Tables.{both_below, operands_type, binary_type}
use Rattle.qc_typing.specs.Typed.{HasType}
use Rattle.qc_typing.proofs.Outcomes.{Holds, Typed, all_append, all_to, holds_then, typed_never, typed_then, typed_when}
use Rattle.qc_typing.proofs.Values.{Any, At, Fields, below_type, bool_holds, int_holds, make_bool, make_coll, make_int}
use Rattle.qc_typing.proofs.Values.{make_text, made_holds, members_typed, no_bottom, opened_as, out-Int, out-Text}
use Rattle.qc_typing.proofs.Values.{text_holds}
use Rattle.qc_typing.proofs.RecordValues.{cat_fields, fields_typed}
use Rattle.qc_typing.proofs.BagValues.{common_all, without_all}

-- a fact from either of two
either_true : (P : Type 0) (a b : Bool) → (IsTrue a → P) → (IsTrue b → P) → IsTrue (a || b) → P
either_true P true b f g h = f refl
either_true P false b f g h = g h

module _ (c : Defs) (g : IsTrue (good_classes c)) (m : Mode) where
  -- ---- two operands below a type
  on_both : {A : Type 0} (k : Ty) (as' : Datum → Outcome A) → ((d : Datum) → HasType c d k → Holds m Any (as' d))
      → (a b : Ty) (d e : Datum) (t : Ty) (f : A → A → Outcome Datum) → HasType c d a → HasType c e b
      → ((v w : A) → Holds m (λ x. HasType c x t) (f v w))
      → Typed m (HasType c) (when (both_below c a b k) t) (and_then (as' d) (λ v. and_then (as' e) (f v)))
  on_both k as' holds a b d e t f h j go =
      typed_when m (HasType c) (both_below c a b k) t (and_then (as' d) (λ v. and_then (as' e) (f v))) (λ s.
      let p = and_parts (sub c a k) (sub c b k) s in
      holds_then m Any (λ x. HasType c x t) (as' d) (λ v. and_then (as' e) (f v)) (holds d (below_type c g d a k h p.0))
      (λ v u.
      holds_then m Any (λ x. HasType c x t) (as' e) (f v) (holds e (below_type c g e b k j p.1)) (λ w u. go v w)))

  on_bools : (a b : Ty) (d e : Datum) (f : Bool → Bool → Bool) → HasType c d a → HasType c e b
      → Typed m (HasType c) (when (both_below c a b ty.Bool) ty.Bool)
      (and_then (as_bool d) (λ p. and_then (as_bool e) (λ q. Value (datum.Bool (f p q)))))
  on_bools a b d e f h j =
      on_both ty.Bool as_bool (bool_holds c m) a b d e ty.Bool (λ p q. Value (datum.Bool (f p q))) h j
      (λ p q. make_bool c (f p q))

  on_two_ints : (a b : Ty) (d e : Datum) (f : ℤ → ℤ → Outcome Datum) → HasType c d a → HasType c e b
      → ((x y : ℤ) → Holds m (λ v. HasType c v ty.Int) (f x y))
      → Typed m (HasType c) (when (both_below c a b ty.Int) ty.Int)
      (and_then (as_int d) (λ x. and_then (as_int e) (f x)))
  on_two_ints a b d e f h j go = on_both ty.Int as_int (int_holds c m) a b d e ty.Int f h j go

  -- ---- comparisons
  int_layers : (x y : Datum-F Datum) → At c x Ty-F.Int → At c y Ty-F.Int → Holds m Any (compared_at x y)
  int_layers (Datum-F.Int n) (Datum-F.Int k) h j = tt
  int_layers (Datum-F.Int n) y h j = let f = j.fitting in absurd (cc)
  int_layers x y h j = let f = h.fitting in absurd (cc)

  text_layers : (x y : Datum-F Datum) → At c x Ty-F.Text → At c y Ty-F.Text → Holds m Any (compared_at x y)
  text_layers (Datum-F.Text s) (Datum-F.Text t) h j = tt
  text_layers (Datum-F.Text s) y h j = let f = j.fitting in absurd (cc)
  text_layers x y h j = let f = h.fitting in absurd (cc)

  compared_typed : (a b : Ty) (d e : Datum) (f : Ordering → Bool) → HasType c d a → HasType c e b
      → Typed m (HasType c) (when (both_below c a b ty.Int || both_below c a b ty.Text) ty.Bool)
      (and_then (compared d e) (λ o. Value (datum.Bool (f o))))
  compared_typed a b d e f h j =
      typed_when m (HasType c) (both_below c a b ty.Int || both_below c a b ty.Text) ty.Bool _ (λ s.
      holds_then m Any (λ v. HasType c v ty.Bool) (compared d e) (λ o. Value (datum.Bool (f o)))
      (either_true (Holds m Any (compared d e)) (both_below c a b ty.Int) (both_below c a b ty.Text)
      (λ i. let p = and_parts (sub c a ty.Int) (sub c b ty.Int) i in
      int_layers (out-Datum d) (out-Datum e) (opened_as c d ty.Int Ty-F.Int out-Int (below_type c g d a ty.Int h p.0))
      (opened_as c e ty.Int Ty-F.Int out-Int (below_type c g e b ty.Int j p.1)))
      (λ i. let p = and_parts (sub c a ty.Text) (sub c b ty.Text) i in
      text_layers (out-Datum d) (out-Datum e)
      (opened_as c d ty.Text Ty-F.Text out-Text (below_type c g d a ty.Text h p.0))
      (opened_as c e ty.Text Ty-F.Text out-Text (below_type c g e b ty.Text j p.1)))
      s)
      (λ o u. make_bool c (f o)))

  -- ---- collections
  abbrev Bag : List Datum → Ty → Type 0
  Bag xs t = AllOf (λ x. HasType c x t) xs

  bags_typed : (f : Ty → Ty → Option Ty) (join_of : List Datum → List Datum → List Datum) (a b : Ty) (d e : Datum)
      → HasType c d a → HasType c e b → ((t u : Ty) (xs ys : List Datum) → Bag xs t → Bag ys u
      → Typed m (HasType c) (f t u) (Value (datum.Coll (join_of xs ys))))
      → Typed m (HasType c) (on_members f a b) (on_bags join_of d e)
  bags_typed f join_of a b d e h j go =
      typed_then m Bag (HasType c) (members a) (as_coll d) _ _ (members_typed c m d a h)
      (λ t xs k. typed_then m Bag (HasType c) (members b) (as_coll e) (f t) _ (members_typed c m e b j)
      (λ u ys l. go t u xs ys k l))

  joined_typed : (t u : Ty) (o : Option Ty) (xs ys : List Datum) → AboveBoth c t u o → Bag xs t → Bag ys u
      → Typed m (HasType c) (option_map (λ v. ty.Coll v) o) (Value (datum.Coll (xs ++ ys)))
  joined_typed t u None xs ys s k l = tt
  joined_typed t u (Some v) xs ys s k l = make_coll c v (xs ++ ys) (all_append (λ x. HasType c x v) xs ys
      (all_to (λ x. HasType c x t) (λ x. HasType c x v) xs (λ x i. below_type c g x t v i s.0) k)
      (all_to (λ x. HasType c x u) (λ x. HasType c x v) ys (λ x i. below_type c g x u v i s.1) l))

  kept_typed : (t u : Ty) (xs kept : List Datum) → Bag kept t
      → Typed m (HasType c) (when (is_some (join c t u)) (ty.Coll t)) (Value (datum.Coll kept))
  kept_typed t u xs kept k =
      typed_when m (HasType c) (is_some (join c t u)) (ty.Coll t) (Value (datum.Coll kept)) (λ s. make_coll c t kept k)

  -- ---- records
  abbrev Row : List (List ℕ × Datum) → Width × List (List ℕ × Ty) → Type 0
  Row fs r = Fields c r.0 r.1 fs

  records_typed : (f : Width × List (List ℕ × Ty) → Width × List (List ℕ × Ty) → Option Ty)
      (value : List (List ℕ × Datum) → List (List ℕ × Datum) → Datum) (a b : Ty) (d e : Datum) → HasType c d a
      → HasType c e b
      → ((r s : Width × List (List ℕ × Ty)) (fs gs : List (List ℕ × Datum)) → Row fs r → Row gs s
      → Typed m (HasType c) (f r s) (Value (value fs gs)))
      → Typed m (HasType c) (on_records f a b)
      (and_then (as_rec d) (λ fs. and_then (as_rec e) (λ gs. Value (value fs gs))))
  records_typed f value a b d e h j go =
      typed_then m Row (HasType c) (record_parts a) (as_rec d) _ _ (fields_typed c m d a h)
      (λ r fs k. typed_then m Row (HasType c) (record_parts b) (as_rec e) (f r) _ (fields_typed c m e b j)
      (λ s gs l. go r s fs gs k l))

  merged : (ts us : List (List ℕ × Ty)) (fs gs : List (List ℕ × Datum)) (b : Bool) → Fields c Exact ts fs
      → Fields c Exact us gs → Bag (cond b (datum.Rec (over_data fs gs) ∷ []) []) (ty.Rec Exact (over ts us))
  merged ts us fs gs true k l = (cat_fields c Exact Exact ts us fs gs k l, tt)
  merged ts us fs gs false k l = tt

  merge_typed : (w v : Width) (ts us : List (List ℕ × Ty)) (fs gs : List (List ℕ × Datum)) → Fields c w ts fs
      → Fields c v us gs → Typed m (HasType c) (merge_type c (w, ts) (v, us))
      (Value (datum.Coll (cond (compatible fs gs) (datum.Rec (over_data fs gs) ∷ []) [])))
  merge_typed Exact Exact ts us fs gs k l =
      typed_when m (HasType c) (shared_join c ts us) (ty.Coll (ty.Rec Exact (over ts us))) _
      (λ s. make_coll c (ty.Rec Exact (over ts us)) _ (merged ts us fs gs (compatible fs gs) k l))
  merge_typed Exact Wide ts us fs gs k l = tt
  merge_typed Wide v ts us fs gs k l = tt

  -- ---- each operator

  operands_sound : (op : Binary) (a b : Ty) (d e : Datum) → HasType c d a → HasType c e b
      → Typed m (HasType c) (operands_type c op a b) (binary m op d e)
  operands_sound two.Eq a b d e h j =
      typed_when m (HasType c) (is_some (join c a b)) ty.Bool _ (λ s. make_bool c (same d e))
  operands_sound two.Lt a b d e h j = compared_typed a b d e _ h j
  operands_sound two.Le a b d e h j = compared_typed a b d e _ h j
  operands_sound two.And a b d e h j = on_bools a b d e _ h j
  operands_sound two.Or a b d e h j = on_bools a b d e _ h j
  operands_sound two.Add a b d e h j = on_two_ints a b d e _ h j (λ x y. made_holds c m (x +ℤ y))
  operands_sound two.Sub a b d e h j = on_two_ints a b d e _ h j (λ x y. made_holds c m (x -ℤ y))
  operands_sound two.Mul a b d e h j = on_two_ints a b d e _ h j (λ x y. made_holds c m (x *ℤ y))
  operands_sound two.Least a b d e h j = on_two_ints a b d e _ h j (λ x y. make_int c _)
  operands_sound two.Greatest a b d e h j = on_two_ints a b d e _ h j (λ x y. make_int c _)
  operands_sound two.Union a b d e h j =
      bags_typed _ _ a b d e h j (λ t u xs ys k l. joined_typed t u (join c t u) xs ys (join_above c t u) k l)
  operands_sound two.Except a b d e h j =
      bags_typed _ without a b d e h j (λ t u xs ys k l. kept_typed t u xs (without xs ys)
      (without_all (λ x. HasType c x t) xs ys k))
  operands_sound two.Intersect a b d e h j =
      bags_typed _ common a b d e h j (λ t u xs ys k l. kept_typed t u xs (common xs ys)
      (common_all (λ x. HasType c x t) xs ys k))
  operands_sound two.Member a b d e h j =
      typed_then m Bag (HasType c) (members b) (as_coll e) _ _ (members_typed c m e b j)
      (λ u ys l. typed_when m (HasType c) (is_some (join c a u)) ty.Bool _ (λ s. make_bool c _))
  operands_sound two.Cat a b d e h j =
      records_typed _ _ a b d e h j (λ r s fs gs k l. cat_fields c r.0 s.0 r.1 s.1 fs gs k l)
  operands_sound two.Merge a b d e h j =
      records_typed (merge_type c) _ a b d e h j (λ r s fs gs k l. merge_typed r.0 s.0 r.1 s.1 fs gs k l)
  operands_sound two.Glue a b d e h j =
      on_both ty.Text as_text (text_holds c m) a b d e ty.Text _ h j (λ s t. make_text c (s ++ t))

  pub binary_sound : (op : Binary) (a b : Ty) (d e : Datum) → HasType c d a → HasType c e b
      → Typed m (HasType c) (binary_type c op a b) (binary m op d e)
  binary_sound op a b d e h j =
      typed_never m (HasType c) (is_bottom a || is_bottom b) (Some ty.Bottom) (operands_type c op a b) (binary m op d e)
      (either_true ⊥ (is_bottom a) (is_bottom b) (no_bottom c d a h) (no_bottom c e b j))
      (operands_sound op a b d e h j)
