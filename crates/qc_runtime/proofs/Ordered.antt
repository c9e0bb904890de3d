-- Rows in the order of their values at keys, where these values are integers, texts and truth values alone.
use Rattle.std.proofs.Common.{◌≡◌, ℕ, zero, suc, Bool, true, false, List, [], ◌∷◌, ◌++◌, map, Ordering}
use Rattle.std.proofs.Common.{refl, sym, ap, ◌∙◌, true≢false}
use Rattle.std.specs.Prelude.{◌&&◌, ◌||◌}
use Rattle.std.specs.List.{list_all, AllByRecursion}
use Rattle.qc_containers.proofs.Truth.{and_parts}
use Rattle.qc_data.specs.Kinds.{as_int, as_coll, int_at}
use Rattle.qc_data.specs.Order.{sort_by}
use Rattle.qc_data.specs.Outcome.{Outcome, Value, Halts, Stuck, and_then, alone, each}
use Rattle.qc_data.specs.declared.data.Datum.{Datum}
use Rattle.qc_data.specs.declared.data.Datum.TheOpen.{Datum-F}
use Rattle.qc_data.specs.declared.data.Datum.TheViews.{out-Datum, roll-Datum}
use Rattle.qc_data.specs.declared.data.Datum.TheVariants as D
use Rattle.qc_data.specs.declared.data.Json.{Json}
use Rattle.qc_data.proofs.Layers.{map-map, roll-out}
use Rattle.qc_data.proofs.SortLaws.{all-sort}
use Rattle.qc_ops.specs.Operands.{as_bool, as_text, as_rec, bool_at, rec_at, text_at}
use Rattle.qc_ops.specs.Sorting.{has_value, one_kind, ordered, row_cmp, value_at}
use Rattle.qc_ops.specs.inner.Columns.{are_columns, nth, values_at, values_cmp, with_values}
use Rattle.qc_ops.proofs.ColumnLaws.{ordered_stuck, ordered_value}
use Rattle.qc_ops.proofs.RowOrder.{columns_are, sort-map, sorted_rows}
use Rattle.qc_rt.specs.Seen.{seen}
use Rattle.qc_runtime.specs.inner.Columns.{atom, atom_at, columns_hold, fields_at, key_values, keyed_row, keyed_rows}
use Rattle.qc_runtime.specs.inner.Columns.{row_fields}
use Rattle.qc_runtime.specs.declared.columns.Keyed.{Keyed}

abbrev Keys : Type 0
Keys = List (List ℕ × Bool)

abbrev Pairs : Type 0
Pairs = List (List ℕ × Datum)

-- ---- what rows may be ordered by is kept

int_atom_at : (x : Datum-F Datum) → as_int (atom_at x) ≡ int_at x
int_atom_at (Datum-F.Bool b) = rw (D.outs-Bool b) refl
int_atom_at (Datum-F.Int n) = rw (D.outs-Int n) refl
int_atom_at (Datum-F.Text s) = rw (D.outs-Text s) refl
int_atom_at x = rw D.outs-Unit refl

int_atom : (d : Datum) → as_int (atom d) ≡ as_int d
int_atom d = int_atom_at (out-Datum d)

text_atom_at : (x : Datum-F Datum) → as_text (atom_at x) ≡ text_at x
text_atom_at (Datum-F.Bool b) = rw (D.outs-Bool b) refl
text_atom_at (Datum-F.Int n) = rw (D.outs-Int n) refl
text_atom_at (Datum-F.Text s) = rw (D.outs-Text s) refl
text_atom_at x = rw D.outs-Unit refl

text_atom : (d : Datum) → as_text (atom d) ≡ as_text d
text_atom d = text_atom_at (out-Datum d)

bool_atom_at : (x : Datum-F Datum) → as_bool (atom_at x) ≡ bool_at x
bool_atom_at (Datum-F.Bool b) = rw (D.outs-Bool b) refl
bool_atom_at (Datum-F.Int n) = rw (D.outs-Int n) refl
bool_atom_at (Datum-F.Text s) = rw (D.outs-Text s) refl
bool_atom_at x = rw D.outs-Unit refl

bool_atom : (d : Datum) → as_bool (atom d) ≡ as_bool d
bool_atom d = bool_atom_at (out-Datum d)

all-atoms : {A : Type 0} (f : Datum → Outcome A) → ((d : Datum) → f (atom d) ≡ f d) → (ds : List Datum)
    → list_all (λ d. has_value (f d)) (map atom ds) ≡ list_all (λ d. has_value (f d)) ds
all-atoms f h [] = refl
all-atoms f h (d ∷ ds) = λ i. has_value (h d i) && all-atoms f h ds i

kind_atoms : (ds : List Datum) → one_kind (map atom ds) ≡ one_kind ds
kind_atoms ds =
    λ i. all-atoms as_int int_atom ds i || (all-atoms as_text text_atom ds i || all-atoms as_bool bool_atom ds i)

-- ---- columns of the values at keys

atom-Unit : atom D.Unit ≡ D.Unit
atom-Unit = rw D.outs-Unit refl

nth-atoms : (i : ℕ) (ds : List Datum) → nth i (map atom ds) ≡ atom (nth i ds)
nth-atoms zero [] = sym atom-Unit
nth-atoms zero (d ∷ ds) = refl
nth-atoms (suc i) [] = sym atom-Unit
nth-atoms (suc i) (d ∷ ds) = nth-atoms i ds

key_values-atoms : (keys : Keys) (fields : Pairs) → key_values keys fields ≡ map atom (values_at keys fields)
key_values-atoms keys fields = sym (map-map (λ key. value_at key.0 fields) atom keys)

column-atoms : (i : ℕ) (keys : Keys) (rows : List Pairs)
    → map (nth i) (map (key_values keys) rows) ≡ map atom (map (λ fields. nth i (values_at keys fields)) rows)
column-atoms i keys [] = refl
column-atoms i keys (fields ∷ rows) =
    λ k. (ap (nth i) (key_values-atoms keys fields) ∙ nth-atoms i (values_at keys fields)) k
    ∷ column-atoms i keys rows k

column_same : (i : ℕ) (keys : Keys) (rows : List Pairs)
    → map (λ (row : List Datum × Pairs). nth i row.0) (map (with_values keys) rows)
    ≡ map (λ fields. nth i (values_at keys fields)) rows
column_same i keys rows = map-map (with_values keys) (λ (row : List Datum × Pairs). nth i row.0) rows

holds_from : (i : ℕ) (all keys : Keys) (rows : List Pairs)
    → columns_hold i keys (map (key_values all) rows) ≡ are_columns i keys (map (with_values all) rows)
holds_from i all [] rows = refl
holds_from i all (key ∷ keys) rows =
    λ k. (ap one_kind (column-atoms i all rows)
    ∙ kind_atoms (map (λ fields. nth i (values_at all fields)) rows) ∙ ap one_kind (sym (column_same i all rows))) k
    && holds_from (suc i) all keys rows k

-- ---- where columns hold the values are those at the keys

head_same : {A : Type 0} (x y : A) (xs ys : List A) → x ∷ xs ≡ y ∷ ys → x ≡ y
head_same x y xs ys e = cc

tail_same : {A : Type 0} (x y : A) (xs ys : List A) → x ∷ xs ≡ y ∷ ys → xs ≡ ys
tail_same x y xs ys e = cc

stuck_value : {A B : Type 0} (a : A) → Halts Stuck ≡ Value a → B
stuck_value a e = absurd (cc)

-- a value that rows may be ordered by
abbrev Firm : Datum → Type 0
Firm d = atom d ≡ d

firm_int : (x : Datum-F Datum) → has_value (int_at x) ≡ true → atom_at x ≡ roll-Datum x
firm_int (Datum-F.Int v) h = sym (D.rolls-Int v)
firm_int x h = absurd (true≢false (sym h))

firm_text : (x : Datum-F Datum) → has_value (text_at x) ≡ true → atom_at x ≡ roll-Datum x
firm_text (Datum-F.Text v) h = sym (D.rolls-Text v)
firm_text x h = absurd (true≢false (sym h))

firm_bool : (x : Datum-F Datum) → has_value (bool_at x) ≡ true → atom_at x ≡ roll-Datum x
firm_bool (Datum-F.Bool v) h = sym (D.rolls-Bool v)
firm_bool x h = absurd (true≢false (sym h))

all_firm : (test : Datum → Bool) → ((d : Datum) → test d ≡ true → Firm d) → (ds : List Datum)
    → list_all test ds ≡ true → map atom ds ≡ ds
all_firm test h [] e = refl
all_firm test h (d ∷ ds) e =
    let p = and_parts (test d) (list_all test ds) e in λ i. h d p.0 i ∷ all_firm test h ds p.1 i

of_one : (a b c : Bool) (ds : List Datum) → list_all (λ d. has_value (as_int d)) ds ≡ a
    → list_all (λ d. has_value (as_text d)) ds ≡ b → list_all (λ d. has_value (as_bool d)) ds ≡ c
    → (a || (b || c)) ≡ true → map atom ds ≡ ds
of_one true b c ds p q r e =
    all_firm (λ d. has_value (as_int d)) (λ d h. firm_int (out-Datum d) h ∙ roll-out d) ds p
of_one false true c ds p q r e =
    all_firm (λ d. has_value (as_text d)) (λ d h. firm_text (out-Datum d) h ∙ roll-out d) ds q
of_one false false c ds p q r e =
    all_firm (λ d. has_value (as_bool d)) (λ d h. firm_bool (out-Datum d) h ∙ roll-out d) ds (r ∙ e)

-- a column of one kind
column_firm : (ds : List Datum) → one_kind ds ≡ true → map atom ds ≡ ds
column_firm ds e =
    of_one (list_all (λ d. has_value (as_int d)) ds) (list_all (λ d. has_value (as_text d)) ds)
    (list_all (λ d. has_value (as_bool d)) ds) ds refl refl refl e

-- values of the rows, a key more
keyed_more : (key : List ℕ × Bool) (keys : Keys) (rows : List Pairs)
    → map atom (map (value_at key.0) rows) ≡ map (value_at key.0) rows
    → map (key_values keys) rows ≡ map (values_at keys) rows
    → map (key_values (key ∷ keys)) rows ≡ map (values_at (key ∷ keys)) rows
keyed_more key keys [] h k = refl
keyed_more key keys (fields ∷ rows) h k =
    λ i. (head_same _ _ _ _ h i ∷ head_same _ _ _ _ k i)
    ∷ keyed_more key keys rows (tail_same _ _ _ _ h) (tail_same _ _ _ _ k) i

values_firm : (keys : Keys) (rows : List Pairs)
    → list_all (λ key. one_kind (map (value_at key.0) rows)) keys ≡ true
    → map (key_values keys) rows ≡ map (values_at keys) rows
values_firm [] rows e = refl
values_firm (key ∷ keys) rows e =
    let p = and_parts (one_kind (map (value_at key.0) rows))
    (list_all (λ key. one_kind (map (value_at key.0) rows)) keys) e in
    keyed_more key keys rows (column_firm (map (value_at key.0) rows) p.0) (values_firm keys rows p.1)

-- ---- the order of rows

-- a row that is a record
abbrev IsRecord : Datum → Type 0
IsRecord d = D.Rec (row_fields d) ≡ d

record_at : (x : Datum-F Datum) (fs : Pairs) → rec_at x ≡ Value fs → D.Rec (fields_at x) ≡ roll-Datum x
record_at (Datum-F.Rec ps) fs e = sym (D.rolls-Rec ps)
record_at x fs e = stuck_value fs e

record_is : (d : Datum) (fs : Pairs) → as_rec d ≡ Value fs → IsRecord d
record_is d fs e = record_at (out-Datum d) fs e ∙ roll-out d

records_next : (o : Outcome Pairs) (rest : Outcome (List Pairs)) (d : Datum) (ds : List Datum) (all : List Pairs)
    → ((fs : Pairs) → o ≡ Value fs → IsRecord d) → ((fss : List Pairs) → rest ≡ Value fss → AllByRecursion IsRecord ds)
    → and_then (alone o) (λ ys. and_then rest (λ zs. Value (ys ++ zs))) ≡ Value all → AllByRecursion IsRecord (d ∷ ds)
records_next (Value fs) (Value fss) d ds all h k e = (h fs refl, k fss refl)
records_next (Value fs) (Halts why) d ds all h k e = absurd (cc)
records_next (Halts why) rest d ds all h k e = absurd (cc)

all_records : (ds : List Datum) (all : List Pairs) → each as_rec ds ≡ Value all → AllByRecursion IsRecord ds
all_records [] all e = tt
all_records (d ∷ ds) all e =
    records_next (as_rec d) (each as_rec ds) d ds all (λ fs. record_is d fs) (λ fss. all_records ds fss) e

rows_back : (ps : List (List Datum × Datum)) → AllByRecursion (λ p. IsRecord p.1) ps
    → map (λ p. D.Rec (row_fields p.1)) ps ≡ map (λ p. p.1) ps
rows_back [] h = refl
rows_back (p ∷ ps) h = λ i. h.0 i ∷ rows_back ps h.1 i

behind_rows : (keys : Keys) (ds : List Datum) → AllByRecursion IsRecord ds
    → AllByRecursion (λ p. IsRecord p.1) (map (keyed_row keys) ds)
behind_rows keys [] h = tt
behind_rows keys (d ∷ ds) h = (h.0, behind_rows keys ds h.1)

rows_paired : (keys : Keys) (ds : List Datum)
    → map (key_values keys) (map row_fields ds) ≡ map (values_at keys) (map row_fields ds)
    → map (λ (p : List Datum × Datum). (p.0, row_fields p.1)) (map (keyed_row keys) ds)
    ≡ map (with_values keys) (map row_fields ds)
rows_paired keys [] h = refl
rows_paired keys (d ∷ ds) h =
    λ i. (head_same _ _ _ _ h i, row_fields d) ∷ rows_paired keys ds (tail_same _ _ _ _ h) i

-- rows sorted by their values
abbrev by_values : {B : Type 0} → Keys → List Datum × B → List Datum × B → Ordering
by_values keys a b = values_cmp 0 keys a.0 b.0

module _ (keys : Keys) (a : Datum) (js : List Json) (rows : List Keyed) (coll : as_coll a ≡ Value (map seen js))
    (records : each as_rec (map seen js) ≡ Value (map row_fields (map seen js)))
    (keyed : keyed_rows rows ≡ map (keyed_row keys) (map seen js)) where
  abbrev ds : List Datum
  ds = map seen js

  abbrev recs : List Pairs
  recs = map row_fields ds

  values_are : map (λ (row : Keyed). row.values) rows ≡ map (key_values keys) recs
  values_are =
      sym (map-map (λ (row : Keyed). (row.values, seen row.tree.now)) (λ (p : List Datum × Datum). p.0) rows)
      ∙ ap (map (λ (p : List Datum × Datum). p.0)) keyed
      ∙ map-map (keyed_row keys) (λ (p : List Datum × Datum). p.0) ds ∙ sym (map-map row_fields (key_values keys) ds)

  holds : columns_hold 0 keys (map (λ (row : Keyed). row.values) rows)
      ≡ are_columns 0 keys (map (with_values keys) recs)
  holds = ap (columns_hold 0 keys) values_are ∙ holds_from 0 keys keys recs

  pub rows_stuck : columns_hold 0 keys (map (λ (row : Keyed). row.values) rows) ≡ false → ordered keys a ≡ Halts Stuck
  rows_stuck e = ordered_stuck keys a ds ds recs coll refl records (sym holds ∙ e)

  module _ (e : columns_hold 0 keys (map (λ (row : Keyed). row.values) rows) ≡ true) (sorted : List Keyed)
      (sort : sorted ≡ sort_by (λ x y. values_cmp 0 keys x.values y.values) rows) where
    firm : map (key_values keys) recs ≡ map (values_at keys) recs
    firm = values_firm keys recs (sym (columns_are keys recs) ∙ sym holds ∙ e)

    -- the rows behind their values, sorted
    pairs : keyed_rows sorted ≡ sort_by (by_values keys) (map (keyed_row keys) ds)
    pairs =
        ap keyed_rows sort
        ∙ sort-map (by_values keys) (λ (row : Keyed). (row.values, seen row.tree.now)) rows
        ∙ ap (sort_by (by_values keys)) keyed

    -- which are the records sorted
    in_order : map (λ (p : List Datum × Datum). p.1) (sort_by (by_values keys) (map (keyed_row keys) ds))
        ≡ map D.Rec (sort_by (row_cmp keys) recs)
    in_order =
        sym (rows_back (sort_by (by_values keys) (map (keyed_row keys) ds))
        (all-sort (by_values keys) (λ p. IsRecord p.1) (map (keyed_row keys) ds)
        (behind_rows keys ds (all_records ds recs records))))
        ∙ sym (map-map (λ (p : List Datum × Datum). (p.0, row_fields p.1)) (λ (p : List Datum × Pairs). D.Rec p.1)
        (sort_by (by_values keys) (map (keyed_row keys) ds)))
        ∙ ap (map (λ (p : List Datum × Pairs). D.Rec p.1))
        (sort-map (by_values keys) (λ (p : List Datum × Datum). (p.0, row_fields p.1)) (map (keyed_row keys) ds)
        ∙ ap (sort_by (by_values keys)) (rows_paired keys ds firm))
        ∙ sorted_rows keys recs

    pub rows_sorted : (made : List Json) → made ≡ map (λ (row : Keyed). row.tree.now) sorted
        → ordered keys a ≡ Value (D.Coll (map seen made))
    rows_sorted made is =
        ordered_value keys a ds ds recs coll refl records (sym holds ∙ e)
        ∙ ap (λ l. Value (D.Coll l)) (sym (ap (map seen) is ∙ map-map (λ (row : Keyed). row.tree.now) seen sorted
        ∙ sym (map-map (λ (row : Keyed). (row.values, seen row.tree.now)) (λ (p : List Datum × Datum). p.1) sorted)
        ∙ ap (map (λ (p : List Datum × Datum). p.1)) pairs ∙ in_order))
