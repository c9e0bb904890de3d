-- Rows of a type, ordered and grouped.
use Rattle.std.proofs.Common.{◌≡◌, ℕ, List, [], ◌∷◌, map, Option, Some, None, Bool, true, false, ◌&&◌, ◌||◌, IsTrue}
use Rattle.std.proofs.Common.{refl, ap, ◌∙◌, subst}
use Rattle.std.specs.Prelude.{filter, not}
use Rattle.qc_data.specs.Kinds.{as_int}
use Rattle.qc_data.specs.Order.{sort_by}
use Rattle.qc_data.specs.Outcome.{Mode, any_size, Outcome, Value, Halts, and_then, each}
use Rattle.qc_containers.specs.Pairs.{lookup, put}
use Rattle.qc_data.specs.declared.data.Datum.{Datum}
use Rattle.qc_data.specs.declared.data.Datum.TheVariants as datum
use Rattle.qc_containers.proofs.Truth.{not_true}
use Rattle.qc_types.specs.declared.ty.Width.{Width}
use Rattle.qc_types.specs.declared.ty.Width.TheVariants.{Exact}
use Rattle.qc_types.specs.declared.ty.Ty.{Ty}
use Rattle.qc_types.specs.declared.ty.Ty.TheOpen.{Ty-F}
use Rattle.qc_types.specs.declared.ty.Ty.TheViews.{out-Ty}
use Rattle.qc_types.specs.declared.ty.Ty.TheVariants as ty
use Rattle.qc_types.specs.Classes.{Defs}
use Rattle.qc_types.specs.Schemas.{good_classes}
use Rattle.qc_types.specs.Types.{sub}
use Rattle.qc_types.proofs.Inductions.{AllOf}
use Rattle.qc_types.proofs.RowLaws.{and_parts}
use Rattle.qc_ops.specs.Bags.{firsts}
use Rattle.qc_ops.specs.Grouping.{keyed, rows_of, group_of}
use Rattle.qc_ops.specs.Operands.{as_bool, as_text, as_rec, found, only_if, bag}
use Rattle.qc_ops.specs.Records.{is_among, projection}
use Rattle.qc_ops.specs.Sameness.{same}
use Rattle.qc_ops.specs.Sorting.{has_value, one_kind, column, row_cmp}
use Rattle.qc_typing.specs.Kinds.{record_at, record_parts}
use Rattle.qc_typing.specs.FieldTypes.{has_names, chosen, atom_at, ordered_at, is_ordered_by, grouped_at, groups_of}
use Rattle.qc_typing.specs.Typed.{HasType}
use Rattle.qc_typing.proofs.Outcomes.{Holds, Typed, holds_then, holds_each, holds_weaker, typed_at, typed_when}
use Rattle.qc_typing.proofs.FieldLaws.{lookup-chosen}
use Rattle.qc_typing.proofs.RisingLaws.{rising_chosen}
use Rattle.qc_typing.proofs.Values.{Any, Fields, below_type, bool_holds, fields_of, int_holds, make_coll, no_bottom}
use Rattle.qc_typing.proofs.Values.{none_bottom, record_typed, text_holds}
use Rattle.qc_typing.proofs.RecordValues.{fields_typed, found_holds, holds_if, project_holds, put_fields, rec_holds}
use Rattle.qc_typing.proofs.RecordValues.{record_self}
use Rattle.qc_typing.proofs.BagValues.{all_pass, filter_all, firsts_all, map_all, pass_all, sort_all}

valued : {A : Type 0} (P : A → Type 0) (o : Outcome A) → Holds any_size P o → has_value o ≡ true
valued P (Value v) h = refl
valued P (Halts why) h = absurd h

or_left : (a b : Bool) → a ≡ true → (a || b) ≡ true
or_left a b e = rw e refl

or_right : (a b : Bool) → b ≡ true → (a || b) ≡ true
or_right true b e = refl
or_right false b e = e

all_any : {A : Type 0} (xs : List A) → AllOf Any xs
all_any [] = tt
all_any (x ∷ xs) = (tt, all_any xs)

module _ (c : Defs) (g : IsTrue (good_classes c)) where
  -- ---- ordered

  abbrev Row : Ty → List (List ℕ × Datum) → Type 0
  Row t fs = HasType c (datum.Rec fs) t

  record_row : (m : Mode) (keys : List (List ℕ × Bool)) (t : Ty) (y : Ty-F Ty) (d : Datum) → out-Ty t ≡ y
      → IsTrue (ordered_at c keys y) → HasType c d t → Holds m (Row t) (as_rec d)
  record_row m keys t Ty-F.Bottom d e s h = absurd (no_bottom c d t h (rw e refl))
  record_row m keys t (Ty-F.Rec w ts) d e s h =
      holds_weaker m _ (Row t) (as_rec d)
      (λ fs k. let P : Datum → Type 0 = λ x. HasType c x t in subst P (record_self d fs k.0) h)
      (typed_at m _ (record_parts t) (w, ts) (as_rec d) (ap record_at e) (record_typed c m d t h))
  record_row m keys t y d e s h = absurd (cc)

  kinds : (u : Ty) (ds : List Datum) (i s b : Bool) → sub c u ty.Int ≡ i → sub c u ty.Text ≡ s → sub c u ty.Bool ≡ b
      → IsTrue (i || (s || b)) → AllOf (λ d. HasType c d u) ds → one_kind ds ≡ true
  kinds u ds true s b ei es eb e h =
      or_left _ _ (pass_all (λ d. HasType c d u) (λ d. has_value (as_int d)) ds
      (λ d k. valued Any (as_int d) (int_holds c any_size d (below_type c g d u ty.Int k ei))) h)
  kinds u ds false true b ei es eb e h =
      or_right _ _ (or_left _ _ (pass_all (λ d. HasType c d u) (λ d. has_value (as_text d)) ds
      (λ d k. valued Any (as_text d) (text_holds c any_size d (below_type c g d u ty.Text k es))) h))
  kinds u ds false false true ei es eb e h =
      or_right _ _ (or_right _ _ (pass_all (λ d. HasType c d u) (λ d. has_value (as_bool d)) ds
      (λ d k. valued Any (as_bool d) (bool_holds c any_size d (below_type c g d u ty.Bool k eb))) h))
  kinds u ds false false false ei es eb e h = absurd (cc)

  column_at : (m : Mode) (t : Ty) (w : Width) (ts : List (List ℕ × Ty)) (n : List ℕ) (o : Option Ty)
      (records : List (List (List ℕ × Datum))) → out-Ty t ≡ Ty-F.Rec w ts → lookup n ts ≡ o → IsTrue (atom_at c o)
      → AllOf (Row t) records → Holds m Any (column records n)
  column_at m t w ts n None records e f a h = absurd (cc)
  column_at m t w ts n (Some u) records e f a h =
      holds_then m (AllOf (λ d. HasType c d u)) Any (each (λ fs. found (lookup n fs)) records)
      (λ ds. only_if (one_kind ds) (Value ds))
      (holds_each m (Row t) (λ d. HasType c d u) (λ fs. found (lookup n fs)) records h
      (λ fs k. found_holds c m w n ts fs u f (fields_of c t w ts fs e k)))
      (λ ds k. holds_if m Any (one_kind ds) (Value ds)
      (kinds u ds (sub c u ty.Int) (sub c u ty.Text) (sub c u ty.Bool) refl refl refl a k) tt)

  none_rows : (t : Ty) (records : List (List (List ℕ × Datum))) → out-Ty t ≡ Ty-F.Bottom → AllOf (Row t) records
      → records ≡ []
  none_rows t [] e h = refl
  none_rows t (fs ∷ records) e h = absurd (no_bottom c (datum.Rec fs) t h.0 (rw e refl))

  columns_hold : (m : Mode) (keys : List (List ℕ × Bool)) (t : Ty) (y : Ty-F Ty)
      (records : List (List (List ℕ × Datum))) → out-Ty t ≡ y → IsTrue (ordered_at c keys y) → AllOf (Row t) records
      → Holds m (AllOf Any) (each (λ key. column records key.0) keys)
  columns_hold m keys t Ty-F.Bottom records e s h =
      let none = none_rows t records e h in
      rw none (holds_each m Any Any (λ key. column [] key.0) keys (all_any keys) (λ key k. tt))
  columns_hold m keys t (Ty-F.Rec w ts) records e s h =
      holds_each m (λ key. IsTrue (atom_at c (lookup key.0 ts))) Any (λ key. column records key.0) keys
      (all_pass _ keys s) (λ key a. column_at m t w ts key.0 (lookup key.0 ts) records e refl a h)
  columns_hold m keys t y records e s h = absurd (cc)

  pub ordered_holds : (m : Mode) (keys : List (List ℕ × Bool)) (t : Ty) (rows : List Datum)
      → IsTrue (is_ordered_by c keys t) → AllOf (λ x. HasType c x t) rows
      → Holds m (λ v. HasType c v (ty.Coll t))
      (and_then (each as_rec rows) (λ records. and_then (each (λ key. column records key.0) keys)
      (λ columns. Value (datum.Coll (map datum.Rec (sort_by (row_cmp keys) records))))))
  ordered_holds m keys t rows s h =
      holds_then m (AllOf (Row t)) (λ v. HasType c v (ty.Coll t)) (each as_rec rows) _
      (holds_each m (λ x. HasType c x t) (Row t) as_rec rows h (λ x k. record_row m keys t (out-Ty t) x refl s k))
      (λ records all.
      holds_then m (AllOf Any) (λ v. HasType c v (ty.Coll t)) (each (λ key. column records key.0) keys) _
      (columns_hold m keys t (out-Ty t) records refl s all) (λ columns u.
      make_coll c t (map datum.Rec (sort_by (row_cmp keys) records))
      (map_all (Row t) (λ x. HasType c x t) datum.Rec (sort_by (row_cmp keys) records) (λ fs k. k)
      (sort_all (Row t) (row_cmp keys) records all))))

  -- ---- grouped

  -- a row of a type behind its key
  abbrev Keyed : Ty → Ty → Datum × Datum → Type 0
  Keyed key t pair = HasType c pair.0 key × HasType c pair.1 t

  group_holds : (m : Mode) (name : List ℕ) (t : Ty) (ts : List (List ℕ × Ty)) (names : List (List ℕ))
      (pairs : List (Datum × Datum)) (key : Datum) → is_among name names ≡ false
      → AllOf (Keyed (ty.Rec Exact (chosen names ts)) t) pairs → HasType c key (ty.Rec Exact (chosen names ts))
      → Holds m (λ v. HasType c v (ty.Rec Exact (put name (ty.Coll t) (chosen names ts)))) (group_of name pairs key)
  group_holds m name t ts names pairs key new h k =
      holds_then m (Fields c Exact (chosen names ts))
      (λ v. HasType c v (ty.Rec Exact (put name (ty.Coll t) (chosen names ts)))) (as_rec key)
      (λ fields. Value (datum.Rec (put name (datum.Coll (rows_of key pairs)) fields)))
      (rec_holds c m Exact (chosen names ts) key k)
      (λ fields f. put_fields c name (ty.Coll t) (datum.Coll (rows_of key pairs)) (chosen names ts) fields
      (rising_chosen names ts) (lookup-chosen name names ts ∙ rw new refl)
      (make_coll c t (rows_of key pairs)
      (map_all (Keyed (ty.Rec Exact (chosen names ts)) t) (λ x. HasType c x t) (λ pair. pair.1)
      (filter (λ pair. same key pair.0) pairs) (λ pair p. p.1) (filter_all _ (λ pair. same key pair.0) pairs h))) f)

  keyed_holds : (m : Mode) (t : Ty) (w : Width) (ts : List (List ℕ × Ty)) (names : List (List ℕ)) (d : Datum)
      → out-Ty t ≡ Ty-F.Rec w ts → IsTrue (has_names names ts) → HasType c d t
      → Holds m (Keyed (ty.Rec Exact (chosen names ts)) t) (keyed names d)
  keyed_holds m t w ts names d e s h =
      holds_then m (λ v. HasType c v (ty.Rec Exact (chosen names ts))) (Keyed (ty.Rec Exact (chosen names ts)) t)
      (projection names d) (λ key. Value (key, d))
      (project_holds c m w names ts d s (typed_at m _ (record_parts t) (w, ts) (as_rec d) (ap record_at e)
      (fields_typed c m d t h))) (λ key k. (k, h))

  grouped_typed_at : (m : Mode) (name : List ℕ) (names : List (List ℕ)) (t : Ty) (y : Ty-F Ty) (rows : List Datum)
      → out-Ty t ≡ y → AllOf (λ x. HasType c x t) rows
      → Typed m (HasType c) (grouped_at name names t y)
      (only_if (not (is_among name names))
      (and_then (each (keyed names) rows)
      (λ pairs. bag (each (group_of name pairs) (firsts (map (λ pair. pair.0) pairs))))))
  grouped_typed_at m name names t Ty-F.Bottom rows e h =
      typed_when m (HasType c) (not (is_among name names)) (ty.Coll ty.Bottom) _
      (λ s. holds_if m _ (not (is_among name names)) _ s
      (let none = none_bottom c rows t (rw e refl) h in rw none (make_coll c ty.Bottom [] tt)))
  grouped_typed_at m name names t (Ty-F.Rec w ts) rows e h =
      let key = ty.Rec Exact (chosen names ts) in let group = ty.Rec Exact (put name (ty.Coll t) (chosen names ts)) in
      typed_when m (HasType c) (not (is_among name names) && has_names names ts) (ty.Coll group) _ (λ s.
      let a = and_parts (not (is_among name names)) (has_names names ts) s in
      holds_if m _ (not (is_among name names)) _ a.0
      (holds_then m (AllOf (Keyed key t)) (λ v. HasType c v (ty.Coll group)) (each (keyed names) rows) _
      (holds_each m (λ x. HasType c x t) (Keyed key t) (keyed names) rows h
      (λ x k. keyed_holds m t w ts names x e a.1 k))
      (λ pairs all. holds_then m (AllOf (λ x. HasType c x group)) (λ v. HasType c v (ty.Coll group))
      (each (group_of name pairs) (firsts (map (λ pair. pair.0) pairs))) (λ xs. Value (datum.Coll xs))
      (holds_each m (λ x. HasType c x key) (λ x. HasType c x group) (group_of name pairs)
      (firsts (map (λ pair. pair.0) pairs))
      (firsts_all (λ x. HasType c x key) (map (λ pair. pair.0) pairs)
      (map_all (Keyed key t) (λ x. HasType c x key) (λ pair. pair.0) pairs (λ pair p. p.0) all))
      (λ x k. group_holds m name t ts names pairs x (not_true (is_among name names) a.0) all k))
      (λ xs k. make_coll c group xs k))))
  grouped_typed_at m name names t y rows e h = tt

  pub grouped_typed : (m : Mode) (name : List ℕ) (names : List (List ℕ)) (t : Ty) (rows : List Datum)
      → AllOf (λ x. HasType c x t) rows
      → Typed m (HasType c) (groups_of name names t)
      (only_if (not (is_among name names))
      (and_then (each (keyed names) rows)
      (λ pairs. bag (each (group_of name pairs) (firsts (map (λ pair. pair.0) pairs))))))
  grouped_typed m name names t rows h = grouped_typed_at m name names t (out-Ty t) rows refl h
