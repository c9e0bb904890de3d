-- The typings of `select` and of definitions are sound where their parts' are.
use Rattle.std.proofs.Common.{◌≡◌, ℕ, Bool, true, false, ◌||◌, List, [], ◌∷◌, ◌++◌, map, Option, Some, None, IsTrue}
use Rattle.std.proofs.Common.{cond, refl, sym}
use Rattle.std.specs.Prelude.{Result, Ok, Err}
use Rattle.qc_data.specs.Kinds.{as_coll, as_int}
use Rattle.qc_data.specs.Outcome.{Mode, any_size, Outcome, Value, Halts, and_then, gather, each}
use Rattle.qc_data.specs.declared.data.Datum.{Datum}
use Rattle.qc_data.specs.declared.data.Datum.TheVariants as datum
use Rattle.qc_types.specs.declared.ty.Ty.{Ty}
use Rattle.qc_types.specs.declared.ty.Ty.TheVariants as ty
use Rattle.qc_types.specs.Classes.{Defs}
use Rattle.qc_types.specs.Schemas.{good_classes}
use Rattle.qc_types.specs.Types.{sub}
use Rattle.qc_types.proofs.Inductions.{AllOf}
use Rattle.qc_types.proofs.RowLaws.{both}
use Rattle.qc_ops.specs.Operands.{as_bool, as_text}
use Rattle.qc_ops.specs.Sorting.{has_value, one_kind}
use Rattle.qc_typing.specs.Checking.{and_check, or_fault, need}
use Rattle.qc_typing.specs.FieldTypes.{is_atom}
use Rattle.qc_typing.specs.Typed.{HasType}
use Rattle.qc_typing.proofs.Outcomes.{Holds, holds_each, holds_then}
use Rattle.qc_typing.proofs.BagValues.{firsts_all, map_all, pass_all, sort_all}
use Rattle.qc_typing.proofs.RecordValues.{holds_if}
use Rattle.qc_typing.proofs.Values.{Any, below_type, bool_holds, int_holds, make_coll, text_holds}
use Rattle.qc_oql_tree.specs.Bindings.{Bindings, Meaning}
use Rattle.qc_oql_tree.specs.FormMeanings.{NamedMeaning, truth}
use Rattle.qc_oql_tree.specs.Meaning.{defined}
use Rattle.qc_oql_tree.specs.SelectMeaning.{KeyMeaning, KeyedRow, source_items, rows_with, extended, rows_from}
use Rattle.qc_oql_tree.specs.SelectMeaning.{kept_row, filtered, key_values, keyed, first_value, later_values}
use Rattle.qc_oql_tree.specs.SelectMeaning.{are_sortable, keys_cmp, sorted, ordered_by, ordered, distinct_if, selected}
use Rattle.qc_oql_tree.specs.FormTypings.{Types, Typing, NamedTyping, FilterTyping, OrderTyping, source_type}
use Rattle.qc_oql_tree.specs.FormTypings.{sources_bound, filter_checked, keys_checked, order_checked, selected_type}
use Rattle.qc_typing.specs.Kinds.{bound_by}
use Rattle.qc_oql_tree.specs.Typing.{defined_type}
use Rattle.qc_oql_check.proofs.Checked.{Checked, Zip, checked_at, checked_fault, checked_gather, checked_known}
use Rattle.qc_oql_check.proofs.Checked.{checked_map, checked_then, each_zip, zip_through}
use Rattle.qc_oql_check.proofs.Scopes.{Agree, Sound, SoundF, SoundK, SoundN, SoundO}
use Rattle.qc_oql_check.proofs.FormsSound.{bound_typed, truth_holds}

-- both are there or neither, and R holds
abbrev pub Beside : {A B : Type 0} → (A → B → Type 0) → Option A → Option B → Type 0
Beside R None None = Unit {0}
Beside R None (Some y) = ⊥
Beside R (Some x) None = ⊥
Beside R (Some x) (Some y) = R x y

valued : {A : Type 0} (P : A → Type 0) (o : Outcome A) → Holds any_size P o → has_value o ≡ true
valued P (Value v) h = refl
valued P (Halts why) h = absurd h

or_left : (a b : Bool) → a ≡ true → (a || b) ≡ true
or_left a b e = rw e refl

or_right : (a b : Bool) → b ≡ true → (a || b) ≡ true
or_right true b e = refl
or_right false b e = e

-- what two tests of which the first one is needed give
keys_step : {T : Type 0} (at : ℕ) (b : Bool) (r : Result T ℕ) (t : T) → and_check (need at b) (λ done. r) ≡ Ok t
    → IsTrue b × (r ≡ Ok t)
keys_step at true r t e = (refl, e)
keys_step at false r t e = absurd (cc)

module _ (c : Defs) (g : IsTrue (good_classes c)) (m : Mode) where
  -- with the bindings behind it, the row agrees with the types
  abbrev Row : Bindings → Types → Bindings → Type 0
  Row s e row = Agree c (row ++ s) e

  -- ---- sources

  items_checked : (f : NamedTyping) (a : NamedMeaning) (s row : Bindings) (e : Types) → SoundN c m f a → Row s e row
      → Checked m (λ xs t. AllOf (λ x. HasType c x t) xs) (source_type f e) (source_items a s row)
  unfolding source_items
  items_checked f a s row e h i =
      checked_then m (HasType c) (λ xs t. AllOf (λ x. HasType c x t) xs) (f.of e) (a.1 (row ++ s))
      (λ t. or_fault f.at (bound_by t)) as_coll (h.1 (row ++ s) e i) (λ t v j.
      checked_fault m (λ xs t. AllOf (λ x. HasType c x t) xs) f.at (bound_by t) (as_coll v) (bound_typed c g m t v j))

  rows_agree : (name : List ℕ) (label : List ℕ) (s row : Bindings) (e : Types) (t : Ty) (xs : List Datum) → label ≡ name
      → Row s e row → AllOf (λ x. HasType c x t) xs → AllOf (Row s ((label, t) ∷ e)) (rows_with name row xs)
  unfolding rows_with
  rows_agree name label s row e t xs same i all =
      map_all (λ x. HasType c x t) (Row s ((label, t) ∷ e)) (λ x. (name, x) ∷ row) xs (λ x k. ((sym same, k), i)) all

  extended_checked : (f : NamedTyping) (a : NamedMeaning) (s row : Bindings) (e : Types) → SoundN c m f a → Row s e row
      → Checked m (λ rows t. AllOf (Row s ((f.name, t) ∷ e)) rows) (source_type f e) (extended a s row)
  extended_checked f a s row e h i =
      checked_map m (λ xs t. AllOf (λ x. HasType c x t) xs) (λ rows t. AllOf (Row s ((f.name, t) ∷ e)) rows)
      (source_type f e) (source_items a s row) (λ xs. Value (rows_with a.0 row xs)) (items_checked f a s row e h i)
      (λ t xs all. rows_agree a.0 f.name s row e t xs h.0 i all)

  rows_checked : (fs : List NamedTyping) (xs : List NamedMeaning) (s : Bindings) (e : Types) (rows : List Bindings)
      → Zip (SoundN c m) fs xs → AllOf (Row s e) rows
      → Checked m (λ rows e. AllOf (Row s e) rows) (sources_bound fs e) (rows_from xs s rows)
  rows_checked [] [] s e rows z h = h
  rows_checked [] (x ∷ xs) s e rows z h = absurd z
  rows_checked (f ∷ fs) [] s e rows z h = absurd z
  rows_checked (f ∷ fs) (x ∷ xs) s e rows z h =
      checked_then m (λ rows t. AllOf (Row s ((f.name, t) ∷ e)) rows) (λ rows e. AllOf (Row s e) rows) (source_type f e)
      (gather (extended x s) rows) (λ t. sources_bound fs ((f.name, t) ∷ e)) (rows_from xs s)
      (checked_gather m (Row s e) (λ row t. Row s ((f.name, t) ∷ e) row) (source_type f e) (extended x s) rows h
      (λ row i. extended_checked f x s row e z.0 i))
      (λ t more k. rows_checked fs xs s ((f.name, t) ∷ e) more z.1 k)

  -- ---- where

  kept_all : (s : Bindings) (e : Types) (row : Bindings) → Row s e row → (b : Bool)
      → AllOf (Row s e) (cond b (row ∷ []) [])
  kept_all s e row i true = (i, tt)
  kept_all s e row i false = tt

  truth_checked : (f : FilterTyping) (a : Meaning) (s : Bindings) (r : Result Ty ℕ) → Checked m (HasType c) r (a s)
      → Checked m (λ b done. Unit {0}) (and_check r (λ t. need f.at (sub c t ty.Bool))) (truth a s)
  truth_checked f a s (Err at) h = tt
  truth_checked f a s (Ok t) h = needed (sub c t ty.Bool) refl
    where
      needed : (b : Bool) → sub c t ty.Bool ≡ b → Checked m (λ b done. Unit {0}) (need f.at b) (truth a s)
      needed true e = truth_holds c g m a s t e h
      needed false e = tt

  kept_checked : (f : FilterTyping) (a : Meaning) (s : Bindings) (e : Types) (row : Bindings) → SoundF c m f a
      → Row s e row
      → Checked m (λ rows done. AllOf (Row s e) rows) (and_check (f.test e) (λ t. need f.at (sub c t ty.Bool)))
      (kept_row a s row)
  unfolding kept_row
  kept_checked f a s e row h i =
      checked_map m (λ b done. Unit {0}) (λ rows done. AllOf (Row s e) rows)
      (and_check (f.test e) (λ t. need f.at (sub c t ty.Bool))) (truth a (row ++ s))
      (λ holds. Value (cond holds (row ∷ []) []))
      (truth_checked f a (row ++ s) (f.test e) (h (row ++ s) e i)) (λ done b k. kept_all s e row i b)

  filtered_checked : (f : Option FilterTyping) (a : Option Meaning) (s : Bindings) (e : Types) (rows : List Bindings)
      → Beside (SoundF c m) f a → AllOf (Row s e) rows
      → Checked m (λ rows done. AllOf (Row s e) rows) (filter_checked c f e) (filtered a s rows)
  filtered_checked None None s e rows h all = all
  filtered_checked None (Some a) s e rows h all = absurd h
  filtered_checked (Some f) None s e rows h all = absurd h
  filtered_checked (Some f) (Some a) s e rows h all =
      checked_gather m (Row s e) (λ row done. Row s e row) (and_check (f.test e) (λ t. need f.at (sub c t ty.Bool)))
      (kept_row a s) rows all (λ row i. kept_checked f a s e row h i)

  -- ---- order by

  kinds : (u : Ty) (ds : List Datum) (i s b : Bool) → sub c u ty.Int ≡ i → sub c u ty.Text ≡ s → sub c u ty.Bool ≡ b
      → IsTrue (i || (s || b)) → AllOf (λ d. HasType c d u) ds → one_kind ds ≡ true
  kinds u ds true s b ei es eb e h =
      or_left _ _ (pass_all (λ d. HasType c d u) (λ d. has_value (as_int d)) ds
      (λ d k. valued Any (as_int d) (int_holds c any_size d (below_type c g d u ty.Int k ei))) h)
  kinds u ds false true b ei es eb e h =
      or_right _ _ (or_left _ _ (pass_all (λ d. HasType c d u) (λ d. has_value (as_text d)) ds
      (λ d k. valued Any (as_text d) (text_holds c any_size d (below_type c g d u ty.Text k es))) h))
  kinds u ds false false true ei es eb e h =
      or_right _ _ (or_right _ _ (pass_all (λ d. HasType c d u) (λ d. has_value (as_bool d)) ds
      (λ d k. valued Any (as_bool d) (bool_holds c any_size d (below_type c g d u ty.Bool k eb))) h))
  kinds u ds false false false ei es eb e h = absurd (cc)

  -- integers, texts or truth values are of one kind
  atoms_one_kind : (u : Ty) (ds : List Datum) → IsTrue (is_atom c u) → AllOf (λ d. HasType c d u) ds
      → IsTrue (one_kind ds)
  atoms_one_kind u ds e h = kinds u ds (sub c u ty.Int) (sub c u ty.Text) (sub c u ty.Bool) refl refl refl e h

  first_typed : (t : Ty) (ts : List Ty) (ds : List Datum) → Zip (HasType c) ds (t ∷ ts) → HasType c (first_value ds) t
  first_typed t ts [] z = absurd z
  first_typed t ts (d ∷ ds) z = z.0

  later_typed : (t : Ty) (ts : List Ty) (ds : List Datum) → Zip (HasType c) ds (t ∷ ts)
      → Zip (HasType c) (later_values ds) ts
  later_typed t ts [] z = absurd z
  later_typed t ts (d ∷ ds) z = z.1

  sortable : (keys : List KeyMeaning) (ts : List Ty) (rows : List (List Datum))
      → Zip (λ k t. IsTrue (is_atom c t)) keys ts → AllOf (λ ds. Zip (HasType c) ds ts) rows
      → IsTrue (are_sortable (map (λ key. key.1) keys) rows)
  sortable [] ts rows z h = refl
  sortable (k ∷ keys) [] rows z h = absurd z
  sortable (k ∷ keys) (t ∷ ts) rows z h =
      both (one_kind (map first_value rows)) (are_sortable (map (λ key. key.1) keys) (map later_values rows))
      (atoms_one_kind t (map first_value rows) z.0
      (map_all (λ ds. Zip (HasType c) ds (t ∷ ts)) (λ d. HasType c d t) first_value rows (first_typed t ts) h))
      (sortable keys ts (map later_values rows) z.1
      (map_all (λ ds. Zip (HasType c) ds (t ∷ ts)) (λ ds. Zip (HasType c) ds ts) later_values rows
      (later_typed t ts) h))

  -- the types of keys, which are atoms
  abbrev Keys : Types → Typing → Ty → Type 0
  Keys e f t = (f e ≡ Ok t) × IsTrue (is_atom c t)

  keys_first : (at : ℕ) (f : Typing) (fs : List Typing) (e : Types) (r : Result Ty ℕ) (u : Unit {0}) → f e ≡ r
      → and_check r (λ t. and_check (need at (is_atom c t)) (λ done. keys_checked c at fs e)) ≡ Ok u
      → (keys_checked c at fs e ≡ Ok u → (ts : List Ty) × Zip (Keys e) fs ts)
      → (ts : List Ty) × Zip (Keys e) (f ∷ fs) ts
  keys_first at f fs e (Err x) u is k ih = absurd (cc)
  keys_first at f fs e (Ok t) u is k ih =
      let s = keys_step at (is_atom c t) (keys_checked c at fs e) u k in let rest = ih s.1 in
      (t ∷ rest.0, ((is, s.0), rest.1))

  keys_ok : (at : ℕ) (fs : List Typing) (e : Types) (u : Unit {0}) → keys_checked c at fs e ≡ Ok u
      → (ts : List Ty) × Zip (Keys e) fs ts
  keys_ok at [] e u k = ([], tt)
  keys_ok at (f ∷ fs) e u k = keys_first at f fs e (f e) u refl k (keys_ok at fs e u)

  -- a row whose keys' values are of the types
  abbrev KeyedBy : Bindings → Types → List Ty → KeyedRow → Type 0
  KeyedBy s e ts row = Zip (HasType c) row.0 ts × Row s e row.1

  keyed_holds : (fs : List Typing) (ks : List KeyMeaning) (ts : List Ty) (s : Bindings) (e : Types) (row : Bindings)
      → Zip (SoundK c m) fs ks → Zip (Keys e) fs ts → Row s e row → Holds m (KeyedBy s e ts) (keyed ks s row)
  unfolding keyed key_values
  keyed_holds fs ks ts s e row z k i =
      holds_then m (λ ds. Zip (HasType c) ds ts) (KeyedBy s e ts) (each (λ key. key.0 (row ++ s)) ks)
      (λ ds. Value (ds, row))
      (each_zip m (HasType c) (λ key. key.0 (row ++ s)) ks ts
      (zip_through (SoundK c m) (Keys e) (λ key t. Holds m (λ v. HasType c v t) (key.0 (row ++ s))) fs ks ts
      (λ f key t h j. checked_at m (HasType c) (f e) t (key.0 (row ++ s)) j.0 (h (row ++ s) e i)) z k))
      (λ ds h. (h, i))

  ordered_holds : (fs : List Typing) (ks : List KeyMeaning) (ts : List Ty) (s : Bindings) (e : Types)
      (rows : List Bindings) → Zip (SoundK c m) fs ks → Zip (Keys e) fs ts → AllOf (Row s e) rows
      → Holds m (AllOf (Row s e)) (ordered_by ks s rows)
  unfolding ordered_by
  ordered_holds fs ks ts s e rows z k all =
      holds_then m (AllOf (KeyedBy s e ts)) (AllOf (Row s e)) (each (keyed ks s) rows) _
      (holds_each m (Row s e) (KeyedBy s e ts) (keyed ks s) rows all (λ row i. keyed_holds fs ks ts s e row z k i))
      (λ krs h.
      holds_if m (AllOf (Row s e)) (are_sortable (map (λ key. key.1) ks) (map (λ row. row.0) krs))
      (Value (map (λ row. row.1) (sorted (map (λ key. key.1) ks) krs)))
      (sortable ks ts (map (λ row. row.0) krs)
      (zip_through (SoundK c m) (Keys e) (λ key t. IsTrue (is_atom c t)) fs ks ts (λ f key t i j. j.1) z k)
      (map_all (KeyedBy s e ts) (λ ds. Zip (HasType c) ds ts) (λ row. row.0) krs (λ row i. i.0) h))
      (map_all (KeyedBy s e ts) (Row s e) (λ row. row.1) (sorted (map (λ key. key.1) ks) krs) (λ row i. i.1)
      (sort_all (KeyedBy s e ts) (λ a b. keys_cmp (map (λ key. key.1) ks) a.0 b.0) krs h)))

  ordered_checked : (f : Option OrderTyping) (a : Option (List KeyMeaning)) (s : Bindings) (e : Types)
      (rows : List Bindings) → Beside (SoundO c m) f a → AllOf (Row s e) rows
      → Checked m (λ rows done. AllOf (Row s e) rows) (order_checked c f e) (ordered a s rows)
  ordered_checked None None s e rows h all = all
  ordered_checked None (Some a) s e rows h all = absurd h
  ordered_checked (Some f) None s e rows h all = absurd h
  ordered_checked (Some f) (Some a) s e rows h all =
      checked_known m (λ rows done. AllOf (Row s e) rows) (keys_checked c f.at f.keys e) (ordered_by a s rows)
      (λ done k. let ts = keys_ok f.at f.keys e done k in ordered_holds f.keys a ts.0 s e rows h ts.1 all)

  -- ---- the select

  distinct_all : (d : Bool) (t : Ty) (xs : List Datum) → AllOf (λ x. HasType c x t) xs
      → AllOf (λ x. HasType c x t) (distinct_if d xs)
  distinct_all true t xs h = firsts_all (λ x. HasType c x t) xs h
  distinct_all false t xs h = h

  values_checked : (d : Bool) (f : Typing) (a : Meaning) (s : Bindings) (e : Types) (rows : List Bindings)
      (r : Result Ty ℕ) → AllOf (Row s e) rows
      → ((row : Bindings) → Row s e row → Checked m (HasType c) r (a (row ++ s)))
      → Checked m (HasType c) (and_check r (λ t. Ok (ty.Coll t)))
      (and_then (each (λ row. a (row ++ s)) rows) (λ values. Value (datum.Coll (distinct_if d values))))
  values_checked d f a s e rows (Err at) all h = tt
  values_checked d f a s e rows (Ok t) all h =
      holds_then m (AllOf (λ v. HasType c v t)) (λ v. HasType c v (ty.Coll t)) (each (λ row. a (row ++ s)) rows)
      (λ values. Value (datum.Coll (distinct_if d values)))
      (holds_each m (Row s e) (λ v. HasType c v t) (λ row. a (row ++ s)) rows all h)
      (λ values k. make_coll c t (distinct_if d values) (distinct_all d t values k))

  pub sound_selected : (d : Bool) (v : Typing) (a : Meaning) (fs : List NamedTyping) (xs : List NamedMeaning)
      (f : Option FilterTyping) (b : Option Meaning) (o : Option OrderTyping) (ks : Option (List KeyMeaning))
      → Sound c m v a → Zip (SoundN c m) fs xs → Beside (SoundF c m) f b → Beside (SoundO c m) o ks
      → Sound c m (selected_type c v fs f o) (selected d a xs b ks)
  sound_selected d v a fs xs f b o ks h z i j s e k =
      checked_then m (λ rows e. AllOf (Row s e) rows) (HasType c) (sources_bound fs e) (rows_from xs s ([] ∷ [])) _ _
      (rows_checked fs xs s e ([] ∷ []) z (k, tt)) (λ r rows all.
      checked_then m (λ rows done. AllOf (Row s r) rows) (HasType c) (filter_checked c f r) (filtered b s rows) _ _
      (filtered_checked f b s r rows i all) (λ done kept few.
      checked_then m (λ rows done. AllOf (Row s r) rows) (HasType c) (order_checked c o r) (ordered ks s kept) _ _
      (ordered_checked o ks s r kept j few) (λ done inorder same.
      values_checked d v a s r inorder (v r) same (λ row l. h (row ++ s) r l))))

  -- ---- definitions

  pub sound_defined : (fs : List NamedTyping) (xs : List NamedMeaning) (f : Typing) (a : Meaning)
      → Zip (SoundN c m) fs xs → Sound c m f a → Sound c m (defined_type fs f) (defined xs a)
  sound_defined [] [] f a z h s e i = h s e i
  sound_defined [] (x ∷ xs) f a z h s e i = absurd z
  sound_defined (d ∷ fs) [] f a z h s e i = absurd z
  sound_defined (d ∷ fs) (x ∷ xs) f a z h s e i =
      checked_then m (HasType c) (HasType c) (d.of e) (x.1 s) (λ t. defined_type fs f ((d.name, t) ∷ e))
      (λ v. defined xs a ((x.0, v) ∷ s)) (z.0.1 s e i) (λ t v j.
      sound_defined fs xs f a z.1 h ((x.0, v) ∷ s) ((d.name, t) ∷ e) ((sym z.0.0, j), i))
