-- The tree for `order by` keeps the rows: one sort, by fields that are the values of the keys.
use Rattle.std.proofs.Common.{◌≡◌, ℕ, ◌+◌, ◌≤◌, Bool, true, false, cond, List, [], ◌∷◌, ◌++◌, map, Option, Some, None}
use Rattle.std.proofs.Common.{IsTrue, arith, refl, sym, ap, ◌∙◌, subst}
use Rattle.std.specs.Prelude.{codes, unwrap_or}
use Rattle.std.specs.Ordering.{ordering_then}
use Rattle.std.specs.Str.{bytes_eq}
use Rattle.qc_containers.proofs.Truth.{and_parts}
use Rattle.qc_containers.specs.Pairs.{lookup}
use Rattle.qc_data.proofs.KindLaws.{out-Rec}
use Rattle.qc_data.proofs.Outcomes.{each-map}
use Rattle.qc_data.specs.Order.{sort_by}
use Rattle.qc_data.specs.Outcome.{Mode, Outcome, Value, Halts, and_then, each, alone, IsKept}
use Rattle.qc_data.specs.declared.data.Datum.{Datum}
use Rattle.qc_data.specs.declared.data.Datum.TheVariants as datum
use Rattle.qc_nra.specs.declared.tree.Nra.{Nra}
use Rattle.qc_nra.specs.declared.tree.Nra.TheVariants as tree
use Rattle.qc_nra.specs.Forms.{map_of}
use Rattle.qc_nra.specs.Meaning.{nra}
use Rattle.qc_ops.specs.declared.op.Unary.TheVariants as one
use Rattle.qc_ops.specs.declared.op.Binary.TheVariants as two
use Rattle.qc_ops.specs.Operands.{as_rec, bag, found, only_if}
use Rattle.qc_ops.specs.Operators.{unary, binary}
use Rattle.qc_ops.specs.Records.{over}
use Rattle.qc_ops.specs.Sorting.{column, directed, one_kind, row_cmp, ordered as ordered_of}
use Rattle.qc_types.specs.Schemas.{WorldOf}
use Rattle.qc_typing.proofs.RecordValues.{lookup-both}
use Rattle.qc_typing.proofs.RisingLaws.{or_else}
use Rattle.qc_oql_tree.specs.declared.tree.Direction.{Direction}
use Rattle.qc_oql_tree.specs.Bindings.{Bindings}
use Rattle.qc_oql_tree.specs.SelectMeaning.{KeyMeaning, KeyedRow, are_sortable, first_value, is_ascending, key_values}
use Rattle.qc_oql_tree.specs.SelectMeaning.{keyed}
use Rattle.qc_oql_tree.specs.SelectMeaning.{keys_cmp, later_values, ordered, ordered_by, sorted}
use Rattle.qc_oql_nra.specs.OqlForms.{KeyTranslation, Scope, at_row, field_before, folded, key_fields, key_names}
use Rattle.qc_oql_nra.specs.OqlForms.{numeral, ordered_tree, row_field, sorted_tree}
use Rattle.qc_oql_nra.proofs.Environments.{Holds, Same, concatenated, field_is, go_both, go_on}
use Rattle.qc_oql_nra.proofs.KeptLaws.{Kept, Zip, each_more, kept_at, kept_each, kept_still, zip_left, zip_sort}
use Rattle.qc_oql_nra.proofs.KeptLaws.{zip_values}
use Rattle.qc_oql_nra.proofs.NraForms.{nra-Binary, nra-Input, nra-Map, nra-Unary}
use Rattle.qc_oql_nra.proofs.Numerals.{no_numeral, numeral_same, numerals_differ}
use Rattle.qc_oql_nra.proofs.OqlSelect.{Beside, Row, Rows, at_row_is, map_is, on_members, one_field_is}

-- ---- fields that are the values of keys

abbrev Fields : Type 0
Fields = List (List ℕ × Datum)

-- the values stand at the numerals behind a number
abbrev Shows : ℕ → List Direction → List Datum → Fields → Type 0
Shows n [] ds f = Unit {0}
Shows n (d ∷ dirs) ds f = (lookup (numeral (n + 1)) f ≡ Some (first_value ds)) × Shows (n + 1) dirs (later_values ds) f

-- the datum is a record of the values there, and of a row
record Shown (n : ℕ) (dirs : List Direction) (ds : List Datum) (e c : Datum) : Type 0 where
  fields : Fields
  is : c ≡ datum.Rec fields
  shows : Shows n dirs ds fields
  row : lookup (codes "row") fields ≡ Some e
  fresh : (j : ℕ) → j ≤ n → lookup (numeral j) fields ≡ None

module _ (n : ℕ) (v : Datum) (fs : Fields) where
  abbrev more : Fields
  more = over ((numeral (n + 1), v) ∷ []) fs

  behind : (m : List ℕ) (o : Option Datum) → lookup m fs ≡ o
      → lookup m more ≡ or_else o (cond (bytes_eq (numeral (n + 1)) m) (Some v) None)
  behind m o e =
      lookup-both m ((numeral (n + 1), v) ∷ []) fs (tt, tt)
      ∙ ap (λ o. or_else o (cond (bytes_eq (numeral (n + 1)) m) (Some v) None)) e

  shows_more : (k : ℕ) (dirs : List Direction) (ds : List Datum) → Shows k dirs ds fs → Shows k dirs ds more
  shows_more k [] ds h = tt
  shows_more k (d ∷ dirs) ds h =
      (behind (numeral (k + 1)) (Some (first_value ds)) h.0, shows_more (k + 1) dirs (later_values ds) h.1)

-- the value of one more key
with_key : (n : ℕ) (d : Direction) (dirs : List Direction) (v : Datum) (ds : List Datum) (e c : Datum)
    (h : Shown (n + 1) dirs ds e c) → Shown n (d ∷ dirs) (v ∷ ds) e (datum.Rec (more n v h.fields))
with_key n d dirs v ds e c h = record {
  fields = more n v h.fields;
  is = refl;
  shows = (
    behind n v h.fields (numeral (n + 1)) None (h.fresh (n + 1) (omega arith))
        ∙ ap (λ b. cond b (Some v) None) (numeral_same (n + 1)),
    shows_more n v h.fields (n + 1) dirs ds h.shows,
  );
  row = behind n v h.fields (codes "row") (Some e) h.row;
  fresh = λ j lt.
      behind n v h.fields (numeral j) None (h.fresh j (omega (arith, lt)))
      ∙ ap (λ b. cond b (Some v) None) (numerals_differ j (n + 1) (omega (arith, lt)));
}

only_row : (n : ℕ) (e : Datum) → Shown n [] [] e (datum.Rec ((codes "row", e) ∷ []))
only_row n e = record {
  fields = (codes "row", e) ∷ [];
  is = refl;
  shows = tt;
  row = refl;
  fresh = λ j lt. ap (λ b. cond b (Some e) None) (no_numeral j);
}

-- ---- records by the fields

alike : (n : ℕ) (dirs : List Direction) (xs ys : List Datum) (f g : Fields) → Shows n dirs xs f → Shows n dirs ys g
    → keys_cmp dirs xs ys ≡ row_cmp (key_names n dirs) f g
alike n [] xs ys f g h k = refl
alike n (d ∷ dirs) xs ys f g h k =
    let first = sym h.0 in let second = sym k.0 in
    let rest = alike (n + 1) dirs (later_values xs) (later_values ys) f g h.1 k.1 in
    λ i. ordering_then (directed (is_ascending d) (unwrap_or (first i) datum.Unit) (unwrap_or (second i) datum.Unit))
    (rest i)

each_found : (n : ℕ) (d : Direction) (dirs : List Direction) (rows : List (List Datum)) (fs : List Fields)
    → Zip (Shows n (d ∷ dirs)) rows fs
    → each (λ f. found (lookup (numeral (n + 1)) f)) fs ≡ Value (map first_value rows)
each_found n d dirs [] [] z = refl
each_found n d dirs [] (f ∷ fs) z = absurd z
each_found n d dirs (ds ∷ rows) [] z = absurd z
each_found n d dirs (ds ∷ rows) (f ∷ fs) z =
    each_more (λ f. found (lookup (numeral (n + 1)) f)) f fs (first_value ds) (map first_value rows) (ap found z.0.0)
    (each_found n d dirs rows fs z.1)

columns : (n : ℕ) (dirs : List Direction) (rows : List (List Datum)) (fs : List Fields) → Zip (Shows n dirs) rows fs
    → IsTrue (are_sortable dirs rows)
    → (cs : List (List Datum)) × (each (λ key. column fs key.0) (key_names n dirs) ≡ Value cs)
columns n [] rows fs z t = ([], refl)
columns n (d ∷ dirs) rows fs z t =
    let tests = and_parts (one_kind (map first_value rows)) (are_sortable dirs (map later_values rows)) t in
    let first : column fs (numeral (n + 1)) ≡ Value (map first_value rows) =
    go_on (each (λ f. found (lookup (numeral (n + 1)) f)) fs) (λ ds. only_if (one_kind ds) (Value ds))
    (map first_value rows) (each_found n d dirs rows fs z)
    ∙ ap (λ b. only_if b (Value (map first_value rows))) tests.0 in
    let rest =
    columns (n + 1) dirs (map later_values rows) fs
    (zip_left (Shows n (d ∷ dirs)) (Shows (n + 1) dirs) later_values rows fs (λ ds f h. h.1) z) tests.1 in (
      map first_value rows ∷ rest.0,
      each_more (λ (key : List ℕ × Bool). column fs key.0) (numeral (n + 1), is_ascending d) (key_names (n + 1) dirs)
          (map first_value rows) rest.0 first rest.1,
    )

-- ---- rows

-- a keyed row, and the record of the row and the values of its keys
record Keyed (dirs : List Direction) (ns : Scope) (s : Bindings) (kr : KeyedRow) (c : Datum) : Type 0 where
  e : Datum
  row : Row ns s kr.1 e
  shown : Shown 0 dirs kr.0 e c

-- the same by the record's fields
record KeyedFields (dirs : List Direction) (ns : Scope) (s : Bindings) (kr : KeyedRow) (f : Fields) : Type 0 where
  e : Datum
  row : Row ns s kr.1 e
  shows : Shows 0 dirs kr.0 f
  at : lookup (codes "row") f ≡ Some e

-- the records by the fields, in the order that the keys give
record InOrder (dirs : List Direction) (ns : Scope) (s : Bindings) (krs : List KeyedRow)
    (cs : List Datum) : Type 0 where
  sorts : List Fields
  is : ordered_of (key_names 0 dirs) (datum.Coll cs) ≡ Value (datum.Coll (map (λ f. datum.Rec f) sorts))
  zip : Zip (KeyedFields dirs ns s) (sorted dirs krs) sorts

in_order : (dirs : List Direction) (ns : Scope) (s : Bindings) (krs : List KeyedRow) (cs : List Datum)
    → Zip (Keyed dirs ns s) krs cs → IsTrue (are_sortable dirs (map (λ kr. kr.0) krs)) → InOrder dirs ns s krs cs
in_order dirs ns s krs cs z t =
    let names = key_names 0 dirs in
    let read =
    zip_values (Keyed dirs ns s) (KeyedFields dirs ns s) as_rec krs cs
    (λ kr c h. (
      h.shown.fields,
      ap as_rec h.shown.is ∙ rw (out-Rec h.shown.fields) refl,
      record { e = h.e; row = h.row; shows = h.shown.shows; at = h.shown.row },
    )) z in
    let fs = read.0 in
    let sorts = sort_by (row_cmp names) fs in
    let kinds =
    columns 0 dirs (map (λ kr. kr.0) krs) fs
    (zip_left (KeyedFields dirs ns s) (Shows 0 dirs) (λ kr. kr.0) krs fs (λ kr f h. h.shows) read.2) t in
    record {
      sorts = sorts;
      is =
          on_members (λ rows. and_then (each as_rec rows) (λ records.
          and_then (each (λ key. column records key.0) names) (λ columns.
          Value (datum.Coll (map (λ f. datum.Rec f) (sort_by (row_cmp names) records)))))) (datum.Coll cs) cs refl
          ∙ go_on (each as_rec cs) (λ records.
          and_then (each (λ key. column records key.0) names) (λ columns.
          Value (datum.Coll (map (λ f. datum.Rec f) (sort_by (row_cmp names) records))))) fs read.1
          ∙ go_on (each (λ key. column fs key.0) names) (λ columns.
          Value (datum.Coll (map (λ f. datum.Rec f) sorts))) kinds.0 kinds.1;
      zip =
          zip_sort (KeyedFields dirs ns s) (λ a b. keys_cmp dirs a.0 b.0) (row_cmp names)
          (λ x f y g h k. alike 0 dirs x.0 y.0 f g h.shows k.shows) krs fs read.2;
    }

module _ (m : Mode) (w : WorldOf) where
  -- the same of a key
  abbrev pub SameKey : KeyMeaning → KeyTranslation → Type 0
  SameKey a t = (t.1 ≡ a.1) × Same m w a.0 t.0

  same_directions : (ks : List KeyMeaning) (ts : List KeyTranslation) → Zip SameKey ks ts
      → map (λ key. key.1) ts ≡ map (λ key. key.1) ks
  same_directions [] [] z = refl
  same_directions [] (t ∷ ts) z = absurd z
  same_directions (k ∷ ks) [] z = absurd z
  same_directions (k ∷ ks) (t ∷ ts) z =
      let first = z.0.0 in let rest = same_directions ks ts z.1 in λ i. first i ∷ rest i

  -- ---- the values of the keys on a row

  abbrev rest_of : ℕ → List KeyTranslation → Scope → Nra
  rest_of n ts ns = folded field_before (key_fields n ts ns) row_field

  key_before : (n : ℕ) (d : Direction) (dirs : List Direction) (a rest : Nra) (e d' : Datum) (o : Outcome Datum)
      (p : Outcome (List Datum)) → IsKept o (nra m w a e e)
      → Kept (λ ds c. Shown (n + 1) dirs ds e c) p (nra m w rest e d')
      → Kept (λ ds c. Shown n (d ∷ dirs) ds e c) (and_then (alone o) (λ ys. and_then p (λ zs. Value (ys ++ zs))))
      (nra m w (field_before (numeral (n + 1), at_row a) rest) e d')
  key_before n d dirs a rest e d' (Halts why) p h k = tt
  key_before n d dirs a rest e d' (Value v) (Halts why) h k = tt
  key_before n d dirs a rest e d' (Value v) (Value ds) h k =
      let name = numeral (n + 1) in (
        datum.Rec (more n v k.2.fields),
        nra-Binary m w two.Cat (tree.Unary (one.Rec name) (at_row a)) rest e d'
            ∙ go_both (nra m w (tree.Unary (one.Rec name) (at_row a)) e d') (nra m w rest e d') (binary m two.Cat)
            (datum.Rec ((name, v) ∷ [])) (datum.Rec k.2.fields)
            (one_field_is m w name (at_row a) e d' v (at_row_is m w a e d' ∙ h)) (k.1 ∙ ap Value k.2.is)
            ∙ concatenated ((name, v) ∷ []) k.2.fields,
        with_key n d dirs v ds e k.0 k.2,
      )

  values_kept : (n : ℕ) (ks : List KeyMeaning) (ts : List KeyTranslation) → Zip SameKey ks ts → (ns : Scope)
      (s : Bindings) (e d : Datum) → Holds ns s e
      → Kept (λ ds c. Shown n (map (λ key. key.1) ks) ds e c) (each (λ key. key.0 s) ks) (nra m w (rest_of n ts ns) e d)
  values_kept n [] [] z ns s e d h = (
    datum.Rec ((codes "row", e) ∷ []),
    one_field_is m w (codes "row") tree.Input e d e (nra-Input m w e d),
    only_row n e,
  )
  values_kept n [] (t ∷ ts) z ns s e d h = absurd z
  values_kept n (k ∷ ks) [] z ns s e d h = absurd z
  values_kept n (k ∷ ks) (t ∷ ts) z ns s e d h =
      key_before n k.1 (map (λ key. key.1) ks) (t.0 ns) (rest_of (n + 1) ts ns) e d (k.0 s) (each (λ key. key.0 s) ks)
      (z.0.1 ns s e h e) (values_kept (n + 1) ks ts z.1 ns s e d h)

  beside_row : (dirs : List Direction) (ns : Scope) (s row : Bindings) (e : Datum) → Row ns s row e
      → (o : Outcome (List Datum)) (p : Outcome Datum) → Kept (λ ds c. Shown 0 dirs ds e c) o p
      → Kept (Keyed dirs ns s) (and_then o (λ ds. Value (ds, row))) p
  beside_row dirs ns s row e r (Value ds) p h = (h.0, h.1, record { e = e; row = r; shown = h.2 })
  beside_row dirs ns s row e r (Halts why) p h = tt

  keyed_kept : (ks : List KeyMeaning) (ts : List KeyTranslation) → Zip SameKey ks ts → (ns : Scope) (s row : Bindings)
      (e d : Datum) → Row ns s row e
      → Kept (Keyed (map (λ key. key.1) ks) ns s) (keyed ks s row) (nra m w (rest_of 0 ts ns) e d)
  unfolding keyed key_values
  keyed_kept ks ts z ns s row e d h =
      beside_row (map (λ key. key.1) ks) ns s row e h (each (λ key. key.0 (row ++ s)) ks)
      (nra m w (rest_of 0 ts ns) e d)
      (values_kept 0 ks ts z ns (row ++ s) e d h)

  -- ---- the rows in order

  abbrev row_of : Nra
  row_of = tree.Unary (one.Dot (codes "row")) tree.Input

  row_is : (f : Fields) (e d : Datum) → lookup (codes "row") f ≡ Some e → nra m w row_of (datum.Rec f) d ≡ Value e
  row_is f e d h =
      nra-Unary m w (one.Dot (codes "row")) tree.Input (datum.Rec f) d
      ∙ go_on (nra m w tree.Input (datum.Rec f) d) (unary m w.classes (one.Dot (codes "row"))) (datum.Rec f)
      (nra-Input m w (datum.Rec f) d)
      ∙ field_is (codes "row") f ∙ ap found h

  rows_back : (dirs : List Direction) (ns : Scope) (s : Bindings) (krs : List KeyedRow) (sorts : List Fields)
      (d : Datum)
      → Zip (KeyedFields dirs ns s) krs sorts
      → Kept (Rows ns s) (Value (map (λ kr. kr.1) krs))
      (map_of (nra m w row_of) d (datum.Coll (map (λ f. datum.Rec f) sorts)))
  unfolding map_of
  rows_back dirs ns s krs sorts d z =
      let back =
      zip_values (KeyedFields dirs ns s) (λ kr e. Row ns s kr.1 e) (λ f. nra m w row_of (datum.Rec f) d) krs sorts
      (λ kr f h. (h.e, row_is f h.e d h.at, h.row)) z in (
        datum.Coll back.0,
        on_members (λ xs. bag (each (λ x. nra m w row_of x d) xs)) (datum.Coll (map (λ f. datum.Rec f) sorts))
            (map (λ f. datum.Rec f) sorts) refl
            ∙ ap bag (each-map (λ x. nra m w row_of x d) (λ f. datum.Rec f) sorts ∙ back.1),
        (back.0, refl, zip_left (λ kr e. Row ns s kr.1 e) (Row ns s) (λ kr. kr.1) krs back.0 (λ kr e h. h) back.2),
      )

  -- the rows that are in the sorted records
  abbrev taken_out : List Direction → Datum → Outcome (List Datum) → Outcome Datum
  taken_out dirs d p = and_then (and_then (bag p) (ordered_of (key_names 0 dirs))) (map_of (nra m w row_of) d)

  by_keys : (dirs : List Direction) (ns : Scope) (s : Bindings) (d : Datum) (o : Outcome (List KeyedRow))
      (p : Outcome (List Datum)) → Kept (Zip (Keyed dirs ns s)) o p
      → Kept (Rows ns s) (and_then o (λ krs. only_if (are_sortable dirs (map (λ kr. kr.0) krs)) (
      Value (map (λ kr. kr.1) (sorted dirs krs))))) (taken_out dirs d p)
  by_keys dirs ns s d (Halts why) p h = tt
  by_keys dirs ns s d (Value krs) p h = at (are_sortable dirs (map (λ kr. kr.0) krs)) refl
    where
      at : (b : Bool) → are_sortable dirs (map (λ kr. kr.0) krs) ≡ b
          → Kept (Rows ns s) (only_if b (Value (map (λ kr. kr.1) (sorted dirs krs)))) (taken_out dirs d p)
      at false e = tt
      at true e =
          let found = in_order dirs ns s krs h.0 h.2 e in
          let sorts = datum.Coll (map (λ f. datum.Rec f) found.sorts) in
          kept_at (Rows ns s) (Value (map (λ kr. kr.1) (sorted dirs krs))) _ _
          (ap (taken_out dirs d) h.1
          ∙ go_on (ordered_of (key_names 0 dirs) (datum.Coll h.0)) (map_of (nra m w row_of) d) sorts found.is)
          (rows_back dirs ns s (sorted dirs krs) found.sorts d found.zip)

  sorted_is : (keyed : Nra) (names : List (List ℕ × Bool)) (r : Nra) (i d : Datum) (es : List Datum)
      → nra m w r i d ≡ Value (datum.Coll es)
      → nra m w (tree.Map row_of (tree.Unary (one.Order names) (tree.Map keyed r))) i d
      ≡ and_then (and_then (bag (each (λ x. nra m w keyed x d) es)) (ordered_of names)) (map_of (nra m w row_of) d)
  sorted_is keyed names r i d es is =
      nra-Map m w row_of (tree.Unary (one.Order names) (tree.Map keyed r)) i d
      ∙ ap (λ o. and_then o (map_of (nra m w row_of) d))
      (nra-Unary m w (one.Order names) (tree.Map keyed r) i d
      ∙ ap (λ o. and_then o (ordered_of names)) (map_is m w keyed r i d es is))

  keys_kept : (ks : List KeyMeaning) (ts : List KeyTranslation) → Zip SameKey ks ts → (ns : Scope) (s : Bindings)
      (o : Outcome (List Bindings)) (r : Nra) (i d : Datum) → Kept (Rows ns s) o (nra m w r i d)
      → Kept (Rows ns s) (and_then o (ordered_by ks s))
      (nra m w (sorted_tree (key_fields 0 ts ns) (key_names 0 (map (λ key. key.1) ks)) r) i d)
  unfolding ordered_by
  keys_kept ks ts z ns s (Halts why) r i d h = tt
  keys_kept ks ts z ns s (Value rows) r i d h =
      let dirs = map (λ key. key.1) ks in
      let es = h.2.0 in
      kept_at (Rows ns s) (ordered_by ks s rows) _ _
      (sorted_is (rest_of 0 ts ns) (key_names 0 dirs) r i d es (h.1 ∙ ap Value h.2.1))
      (by_keys dirs ns s d (each (keyed ks s) rows) (each (λ x. nra m w (rest_of 0 ts ns) x d) es)
      (kept_each (Row ns s) (Keyed dirs ns s) (keyed ks s) (λ x. nra m w (rest_of 0 ts ns) x d) rows es
      (λ row e r. keyed_kept ks ts z ns s row e d r) h.2.2))

  pub ordered_kept : (a : Option (List KeyMeaning)) (t : Option (List KeyTranslation)) → Beside (Zip SameKey) a t
      → (ns : Scope) (s : Bindings) (o : Outcome (List Bindings)) (r : Nra) (i d : Datum)
      → Kept (Rows ns s) o (nra m w r i d)
      → Kept (Rows ns s) (and_then o (ordered a s)) (nra m w (ordered_tree t ns r) i d)
  ordered_kept None None b ns s o r i d h =
      kept_still (Rows ns s) o (nra m w r i d) (ordered None s) (λ rows. refl) h
  ordered_kept None (Some t) b ns s o r i d h = absurd b
  ordered_kept (Some a) None b ns s o r i d h = absurd b
  ordered_kept (Some a) (Some t) b ns s o r i d h =
      subst (λ dirs. Kept (Rows ns s) (and_then o (ordered (Some a) s))
      (nra m w (sorted_tree (key_fields 0 t ns) (key_names 0 dirs) r) i d)) (sym (same_directions a t b))
      (keys_kept a t b ns s o r i d h)
