-- Values of types of records: their fields at names, those of two, and one put.
use Rattle.std.proofs.Common.{◌≡◌, ℕ, List, [], ◌∷◌, Option, Some, None, Bool, true, false, ◌||◌, cond, IsTrue, refl}
use Rattle.std.proofs.Common.{sym, ap, ◌∙◌, subst}
use Rattle.std.specs.Prelude.{filter, is_some}
use Rattle.std.specs.Ordering.{is_lt}
use Rattle.std.specs.Str.{bytes_eq}
use Rattle.qc_data.specs.Facts.{rising}
use Rattle.qc_data.specs.Outcome.{Mode, Outcome, Value}
use Rattle.qc_containers.specs.Pairs.{lookup, put}
use Rattle.qc_containers.specs.Rising.{Rising, text_cmp}
use Rattle.qc_data.specs.declared.data.Datum.{Datum}
use Rattle.qc_data.specs.declared.data.Datum.TheOpen.{Datum-F}
use Rattle.qc_data.specs.declared.data.Datum.TheViews.{out-Datum, roll-Datum}
use Rattle.qc_data.specs.declared.data.Datum.TheVariants as datum
use Rattle.qc_containers.proofs.Putting.{Rising-put}
use Rattle.qc_types.specs.declared.ty.Width.{Width}
use Rattle.qc_types.specs.declared.ty.Width.TheVariants.{Exact, Wide}
use Rattle.qc_types.specs.declared.ty.Ty.{Ty}
use Rattle.qc_types.specs.declared.ty.Ty.TheVariants as ty
use Rattle.qc_types.specs.Classes.{Defs}
use Rattle.qc_types.specs.Rows.{names, same_names, at_field, has_fields, fields_in}
use Rattle.qc_types.specs.Types.{fits}
use Rattle.qc_types.proofs.Inductions.{AllIn, roll-out, found as value_at}
use Rattle.qc_types.proofs.RowLaws.{and_parts, both, has_at, has_from, same_names-is, same_names-refl}
use Rattle.qc_ops.specs.Operands.{as_rec, only_if, found}
use Rattle.qc_ops.specs.Records as ops
use Rattle.qc_ops.specs.Records.{is_among, fields_at, part_of, projection}
use Rattle.qc_typing.specs.Kinds.{record_at, record_parts}
use Rattle.qc_typing.specs.FieldTypes.{has_names, chosen, over, cat_type}
use Rattle.qc_typing.specs.Typed.{HasType}
use Rattle.qc_typing.proofs.Outcomes.{Holds, Typed, holds_then, typed_at, typed_weaker}
use Rattle.qc_typing.proofs.RisingLaws.{or_else, same_name, absent_above, same_rising, rising_names, rising_one}
use Rattle.qc_typing.proofs.RisingLaws.{rising_filter, rising_put_new, rising_chosen, rising_over}
use Rattle.qc_types.proofs.PutLaws.{lookup-put}
use Rattle.qc_typing.proofs.FieldLaws.{lookup-put_new, lookup-over, lookup-chosen, lookup-filter}
use Rattle.qc_typing.proofs.Values.{Fields, make_rec, record_typed, out-Rec}

-- both are there, and the first is one that r takes; or neither is
abbrev pub Both : {A B : Type 0} → (A → B → Bool) → Option A → Option B → Type 0
Both r None None = Unit {0}
Both r None (Some b) = ⊥
Both r (Some a) None = ⊥
Both r (Some a) (Some b) = IsTrue (r a b)

-- ---- tests of fields, at one name

both_there : {A B : Type 0} (r : A → B → Bool) (x : Option A) (y : Option B) → Both r x y → is_some x ≡ is_some y
both_there r None None h = refl
both_there r None (Some b) h = absurd h
both_there r (Some a) None h = absurd h
both_there r (Some a) (Some b) h = refl

both_field : {A B : Type 0} (r : A → B → Bool) (x : Option A) (y : Option B) → Both r x y → IsTrue (at_field r x y)
both_field r None None h = refl
both_field r None (Some b) h = absurd h
both_field r (Some a) None h = absurd h
both_field r (Some a) (Some b) h = h

field_both : {A B : Type 0} (r : A → B → Bool) (x : Option A) (y : Option B) → is_some x ≡ is_some y
    → IsTrue (at_field r x y) → Both r x y
field_both r None None e h = tt
field_both r None (Some b) e h = absurd (cc)
field_both r (Some a) None e h = absurd (cc)
field_both r (Some a) (Some b) e h = h

both_else : {A B : Type 0} (r : A → B → Bool) (x x' : Option A) (y y' : Option B) → Both r x y → Both r x' y'
    → Both r (or_else x x') (or_else y y')
both_else r None x' None y' h k = k
both_else r None x' (Some b) y' h k = absurd h
both_else r (Some a) x' None y' h k = absurd h
both_else r (Some a) x' (Some b) y' h k = h

field_else : {A B : Type 0} (r : A → B → Bool) (x x' : Option A) (y y' : Option B) → Both r x y
    → IsTrue (at_field r x' y') → IsTrue (at_field r (or_else x x') (or_else y y'))
field_else r None x' None y' h k = k
field_else r None x' (Some b) y' h k = absurd h
field_else r (Some a) x' None y' h k = absurd h
field_else r (Some a) x' (Some b) y' h k = h

second_field : {A B : Type 0} (r : A → B → Bool) (x x' : Option A) (y : Option B) → IsTrue (at_field r x y)
    → IsTrue (at_field r (or_else x x') y)
second_field r x x' None h = refl
second_field r None x' (Some b) h = absurd (cc)
second_field r (Some a) x' (Some b) h = h

both_chosen : {A B : Type 0} (r : A → B → Bool) (k : Bool) (x : Option A) (y : Option B)
    → (IsTrue k → IsTrue (is_some y)) → IsTrue (at_field r x y) → Both r (cond k x None) (cond k y None)
both_chosen r false x y there h = tt
both_chosen r true x None there h = let t : false ≡ true = there refl in absurd (cc)
both_chosen r true None (Some b) there h = absurd (cc)
both_chosen r true (Some a) (Some b) there h = h

both_put : {A B : Type 0} (r : A → B → Bool) (k : Bool) (a : A) (b : B) (x : Option A) (y : Option B) → IsTrue (r a b)
    → Both r x y → Both r (cond k (Some a) x) (cond k (Some b) y)
both_put r true a b x y h k = h
both_put r false a b x y h k = k

field_there : {A B : Type 0} (r : A → B → Bool) (x : Option A) (y : Option B) → IsTrue (is_some y)
    → IsTrue (at_field r x y) → IsTrue (is_some x)
field_there r x None e h = absurd (cc)
field_there r None (Some b) e h = absurd (cc)
field_there r (Some a) (Some b) e h = refl

-- ---- tests of fields, at all names

names_there : {A B : Type 0} (n : List ℕ) (ps : List (List ℕ × A)) (qs : List (List ℕ × B)) → names ps ≡ names qs
    → is_some (lookup n ps) ≡ is_some (lookup n qs)
names_there n [] [] e = refl
names_there n [] (q ∷ qs) e = absurd (cc)
names_there n (p ∷ ps) [] e = absurd (cc)
names_there n (p ∷ ps) (q ∷ qs) e =
    let first : p.0 ≡ q.0 = cc in let rest : names ps ≡ names qs = cc in
    rw first (there_at (bytes_eq q.0 n) p.1 q.1 (lookup n ps) (lookup n qs) (names_there n ps qs rest))
  where
    there_at : {A B : Type 0} (b : Bool) (v : A) (w : B) (x : Option A) (y : Option B) → is_some x ≡ is_some y
        → is_some (cond b (Some v) x) ≡ is_some (cond b (Some w) y)
    there_at true v w x y e = refl
    there_at false v w x y e = e

pub exact_at : {A B : Type 0} (r : A → B → Bool) (fs : List (List ℕ × A)) (ts : List (List ℕ × B))
    → IsTrue (fields_in Exact r fs ts) → (n : List ℕ) → Both r (lookup n fs) (lookup n ts)
exact_at r fs ts h n =
    let a = and_parts (same_names (names fs) (names ts)) (has_fields r fs ts) h in
    field_both r (lookup n fs) (lookup n ts) (names_there n fs ts (same_names-is (names fs) (names ts) a.0))
    (has_at r fs ts a.1 n)

pub exact_from : {A B : Type 0} (r : A → B → Bool) (fs : List (List ℕ × A)) (ts : List (List ℕ × B)) → Rising fs
    → Rising ts → ((n : List ℕ) → Both r (lookup n fs) (lookup n ts)) → IsTrue (fields_in Exact r fs ts)
exact_from r fs ts p q h =
    both (same_names (names fs) (names ts)) (has_fields r fs ts)
    (rw (same_rising fs ts p q (λ n. both_there r (lookup n fs) (lookup n ts) (h n))) (same_names-refl (names ts)))
    (has_from r fs ts (λ n. both_field r (lookup n fs) (lookup n ts) (h n)))

pub fields_at_names : {A B : Type 0} (w : Width) (r : A → B → Bool) (fs : List (List ℕ × A)) (ts : List (List ℕ × B))
    → IsTrue (fields_in w r fs ts) → (n : List ℕ) → IsTrue (at_field r (lookup n fs) (lookup n ts))
fields_at_names Exact r fs ts h n = both_field r (lookup n fs) (lookup n ts) (exact_at r fs ts h n)
fields_at_names Wide r fs ts h n = has_at r fs ts h n

-- what names of a type a record has
exact_rising : {A B : Type 0} (r : A → B → Bool) (fs : List (List ℕ × A)) (ts : List (List ℕ × B))
    → IsTrue (fields_in Exact r fs ts) → Rising fs → Rising ts
exact_rising r fs ts h p =
    rising_names fs ts (same_names-is (names fs) (names ts)
    (and_parts (same_names (names fs) (names ts)) (has_fields r fs ts) h).0) p

-- ---- values at all names

all_put : {A : Type 0} (P : A → Type 0) (n : List ℕ) (v : A) (ps : List (List ℕ × A)) → P v → AllIn P ps
    → AllIn P (put n v ps)
all_put P n v [] h k = (h, tt)
all_put P n v (p ∷ ps) h k =
    elim (is_lt (text_cmp p.0 n)) as (λ b. AllIn P (cond b (p ∷ put n v ps) ((n, v) ∷ p ∷ ps)))
    [ true ↦ (k.0, all_put P n v ps h k.1) | false ↦ (h, k) ]

all_new : {A : Type 0} (P : A → Type 0) (n : List ℕ) (v : A) (ps : List (List ℕ × A)) (b : Bool) → P v → AllIn P ps
    → AllIn P (cond b ps (put n v ps))
all_new P n v ps true h k = k
all_new P n v ps false h k = all_put P n v ps h k

all_filter : {A : Type 0} (P : A → Type 0) (test : List ℕ × A → Bool) (ps : List (List ℕ × A)) → AllIn P ps
    → AllIn P (filter test ps)
all_filter P test [] k = tt
all_filter P test (p ∷ ps) k =
    elim (test p) as (λ b. AllIn P (cond b (p ∷ filter test ps) (filter test ps)))
    [ true ↦ (k.0, all_filter P test ps k.1) | false ↦ all_filter P test ps k.1 ]

-- ---- the fields of two records of data

over_at : (b : Bool) (v : Datum) (x y : Option Datum) → (IsTrue b → y ≡ None)
    → or_else (or_else x y) (cond b (Some v) None) ≡ or_else x (cond b (Some v) y)
over_at b v (Some w) y h = refl
over_at true v None y h = rw (h refl) refl
over_at false v None None h = refl
over_at false v None (Some w) h = refl

pub lookup-both : (m : List ℕ) (fs gs : List (List ℕ × Datum)) → Rising fs
    → lookup m (ops.over fs gs) ≡ or_else (lookup m gs) (lookup m fs)
lookup-both m [] gs r = or_none (lookup m gs)
  where
    or_none : (o : Option Datum) → o ≡ or_else o None
    or_none None = refl
    or_none (Some v) = refl
lookup-both m (f ∷ fs) gs r =
    lookup-put_new f.0 m f.1 (ops.over fs gs)
    ∙ ap (λ o. or_else o (cond (bytes_eq f.0 m) (Some f.1) None)) (lookup-both m fs gs r.1)
    ∙ over_at (bytes_eq f.0 m) f.1 (lookup m gs) (lookup m fs)
    (λ e. ap (λ n. lookup n fs) (sym (same_name f.0 m e)) ∙ absent_above f.0 fs r.0)

rising_both : (fs gs : List (List ℕ × Datum)) → Rising gs → Rising (ops.over fs gs)
rising_both [] gs r = r
rising_both (f ∷ fs) gs r = rising_put_new f.0 f.1 (ops.over fs gs) (rising_both fs gs r)

all_both : (P : Datum → Type 0) (fs gs : List (List ℕ × Datum)) → AllIn P fs → AllIn P gs → AllIn P (ops.over fs gs)
all_both P [] gs h k = k
all_both P (f ∷ fs) gs h k =
    all_new P f.0 f.1 (ops.over fs gs) (is_some (lookup f.0 (ops.over fs gs))) h.0 (all_both P fs gs h.1 k)

-- ---- names that a type has

among_at : {T : Type 0} (n k : List ℕ) (b later : Bool) (ts : List (List ℕ × T)) → bytes_eq n k ≡ b
    → IsTrue (b || later) → IsTrue (is_some (lookup k ts)) → (IsTrue later → IsTrue (is_some (lookup n ts)))
    → IsTrue (is_some (lookup n ts))
among_at n k true later ts s e h i =
    let P : List ℕ → Type 0 = λ x. IsTrue (is_some (lookup x ts)) in subst P (sym (same_name n k s)) h
among_at n k false later ts s e h i = i e

among_there : {T : Type 0} (n : List ℕ) (ns : List (List ℕ)) (ts : List (List ℕ × T)) → IsTrue (has_names ns ts)
    → IsTrue (is_among n ns) → IsTrue (is_some (lookup n ts))
among_there n [] ts h e = absurd (cc)
among_there n (k ∷ ns) ts h e =
    let a = and_parts (is_some (lookup k ts)) (has_names ns ts) h in
    among_at n k (bytes_eq n k) (is_among n ns) ts refl e a.0 (λ l. among_there n ns ts a.1 l)

names_of_data : (c : Defs) (ns : List (List ℕ)) (fs : List (List ℕ × Datum)) (ts : List (List ℕ × Ty))
    → ((n : List ℕ) → IsTrue (at_field (fits c) (lookup n fs) (lookup n ts))) → IsTrue (has_names ns ts)
    → IsTrue (ops.has_names ns fs)
names_of_data c [] fs ts h e = refl
names_of_data c (n ∷ ns) fs ts h e =
    let a = and_parts (is_some (lookup n ts)) (has_names ns ts) e in
    both (is_some (lookup n fs)) (ops.has_names ns fs) (field_there (fits c) (lookup n fs) (lookup n ts) a.0 (h n))
    (names_of_data c ns fs ts h a.1)

pub holds_if : {A : Type 0} (m : Mode) (P : A → Type 0) (b : Bool) (o : Outcome A) → IsTrue b → Holds m P o
    → Holds m P (only_if b o)
holds_if m P true o e h = h
holds_if m P false o e h = absurd (cc)

pub record_self : (d : Datum) (fs : List (List ℕ × Datum)) → out-Datum d ≡ Datum-F.Rec fs → d ≡ datum.Rec fs
record_self d fs e = sym (roll-out d) ∙ ap roll-Datum e ∙ datum.rolls-Rec fs

module _ (c : Defs) where
  -- ---- at names
  chosen_fields : (w : Width) (ns : List (List ℕ)) (ts : List (List ℕ × Ty)) (fs : List (List ℕ × Datum))
      → IsTrue (has_names ns ts) → Fields c w ts fs → Fields c Exact (chosen ns ts) (fields_at ns fs)
  chosen_fields w ns ts fs e h = record {
    fitting =
        exact_from (fits c) (fields_at ns fs) (chosen ns ts) (rising_filter _ fs h.names) (rising_chosen ns ts)
        (λ n. rw (lookup-filter n ns fs, lookup-chosen n ns ts)
        (both_chosen (fits c) (is_among n ns) (lookup n fs) (lookup n ts) (among_there n ns ts e)
        (fields_at_names w (fits c) fs ts h.fitting n)));
    names = rising_filter _ fs h.names;
    values = all_filter (λ d. IsTrue (rising d)) _ fs h.values;
  }

  pub fields_typed : (m : Mode) (d : Datum) (a : Ty) → HasType c d a
      → Typed m (λ fs r. Fields c r.0 r.1 fs) (record_parts a) (as_rec d)
  fields_typed m d a h =
      typed_weaker m (λ fs r. (out-Datum d ≡ Datum-F.Rec fs) × Fields c r.0 r.1 fs) (λ fs r. Fields c r.0 r.1 fs)
      (record_parts a) (as_rec d) (λ fs r k. k.1) (record_typed c m d a h)

  pub rec_holds : (m : Mode) (w : Width) (ts : List (List ℕ × Ty)) (d : Datum) → HasType c d (ty.Rec w ts)
      → Holds m (Fields c w ts) (as_rec d)
  rec_holds m w ts d h =
      typed_at m (λ fs r. Fields c r.0 r.1 fs) (record_parts (ty.Rec w ts)) (w, ts) (as_rec d)
      (ap record_at (out-Rec w ts)) (fields_typed m d (ty.Rec w ts) h)

  pub project_holds : (m : Mode) (w : Width) (ns : List (List ℕ)) (ts : List (List ℕ × Ty)) (d : Datum)
      → IsTrue (has_names ns ts) → Holds m (Fields c w ts) (as_rec d)
      → Holds m (λ v. HasType c v (ty.Rec Exact (chosen ns ts))) (projection ns d)
  project_holds m w ns ts d e h =
      let P = Fields c Exact (chosen ns ts) in
      holds_then m P (λ v. HasType c v (ty.Rec Exact (chosen ns ts))) (part_of ns d) (λ fs. Value (datum.Rec fs))
      (holds_then m (Fields c w ts) P (as_rec d) (λ fs. only_if (ops.has_names ns fs) (Value (fields_at ns fs))) h
      (λ fs f.
      holds_if m P (ops.has_names ns fs) (Value (fields_at ns fs))
      (names_of_data c ns fs ts (fields_at_names w (fits c) fs ts f.fitting) e) (chosen_fields w ns ts fs e f)))
      (λ fs f. make_rec c Exact (chosen ns ts) fs f)

  -- ---- one field
  pub one_field : (n : List ℕ) (t : Ty) (d : Datum) → HasType c d t
      → HasType c (datum.Rec ((n, d) ∷ [])) (ty.Rec Exact ((n, t) ∷ []))
  one_field n t d h = make_rec c Exact ((n, t) ∷ []) ((n, d) ∷ []) (record {
    fitting =
        exact_from (fits c) ((n, d) ∷ []) ((n, t) ∷ []) (rising_one n d) (rising_one n t)
        (λ k. both_put (fits c) (bytes_eq n k) d t None None h.fitting tt);
    names = rising_one n d;
    values = (h.records, tt);
  })

  -- ---- one more field
  pub put_fields : (g : List ℕ) (u : Ty) (v : Datum) (ts : List (List ℕ × Ty)) (fs : List (List ℕ × Datum)) → Rising ts
      → lookup g ts ≡ None → HasType c v u → Fields c Exact ts fs
      → HasType c (datum.Rec (put g v fs)) (ty.Rec Exact (put g u ts))
  put_fields g u v ts fs r e h k =
      let none = no_field g ts fs e (exact_at (fits c) fs ts k.fitting g) in
      make_rec c Exact (put g u ts) (put g v fs) (record {
        fitting =
            exact_from (fits c) (put g v fs) (put g u ts) (Rising-put g v fs k.names none) (Rising-put g u ts r e)
            (λ n. rw (lookup-put g n v fs, lookup-put g n u ts)
            (both_put (fits c) (bytes_eq g n) v u (lookup n fs) (lookup n ts) h.fitting
            (exact_at (fits c) fs ts k.fitting n)));
        names = Rising-put g v fs k.names none;
        values = all_put (λ d. IsTrue (rising d)) g v fs h.records k.values;
      })
    where
      none_is : (x : Option Datum) (y : Option Ty) → y ≡ None → Both (fits c) x y → x ≡ None
      none_is None y e h = refl
      none_is (Some d) None e h = absurd h
      none_is (Some d) (Some t) e h = absurd (cc)

      no_field : (g : List ℕ) (ts : List (List ℕ × Ty)) (fs : List (List ℕ × Datum)) → lookup g ts ≡ None
          → Both (fits c) (lookup g fs) (lookup g ts) → lookup g fs ≡ None
      no_field g ts fs e h = none_is (lookup g fs) (lookup g ts) e h

  -- ---- two records
  pub cat_fields : (w v : Width) (ts us : List (List ℕ × Ty)) (fs gs : List (List ℕ × Datum)) → Fields c w ts fs
      → Fields c v us gs → HasType c (datum.Rec (ops.over fs gs)) (cat_type (w, ts) (v, us))
  cat_fields Exact Exact ts us fs gs h k = make_rec c Exact (over ts us) (ops.over fs gs) (record {
    fitting =
        exact_from (fits c) (ops.over fs gs) (over ts us) (rising_both fs gs k.names)
        (rising_over ts us (exact_rising (fits c) gs us k.fitting k.names))
        (λ n. rw (lookup-both n fs gs h.names, lookup-over n ts us)
        (both_else (fits c) (lookup n gs) (lookup n fs) (lookup n us) (lookup n ts)
        (exact_at (fits c) gs us k.fitting n) (exact_at (fits c) fs ts h.fitting n)));
    names = rising_both fs gs k.names;
    values = all_both (λ d. IsTrue (rising d)) fs gs h.values k.values;
  })
  cat_fields Wide Exact ts us fs gs h k = make_rec c Wide (over ts us) (ops.over fs gs) (record {
    fitting =
        has_from (fits c) (ops.over fs gs) (over ts us) (λ n. rw (lookup-both n fs gs h.names, lookup-over n ts us)
        (field_else (fits c) (lookup n gs) (lookup n fs) (lookup n us) (lookup n ts)
        (exact_at (fits c) gs us k.fitting n) (has_at (fits c) fs ts h.fitting n)));
    names = rising_both fs gs k.names;
    values = all_both (λ d. IsTrue (rising d)) fs gs h.values k.values;
  })
  cat_fields w Wide ts us fs gs h k = make_rec c Wide us (ops.over fs gs) (record {
    fitting =
        has_from (fits c) (ops.over fs gs) us
        (λ n. rw (lookup-both n fs gs h.names)
        (second_field (fits c) (lookup n gs) (lookup n fs) (lookup n us) (has_at (fits c) gs us k.fitting n)));
    names = rising_both fs gs k.names;
    values = all_both (λ d. IsTrue (rising d)) fs gs h.values k.values;
  })

  -- ---- the value at a name
  pub found_holds : (m : Mode) (w : Width) (n : List ℕ) (ts : List (List ℕ × Ty)) (fs : List (List ℕ × Datum)) (t : Ty)
      → lookup n ts ≡ Some t → Fields c w ts fs → Holds m (λ v. HasType c v t) (found (lookup n fs))
  found_holds m w n ts fs t e h =
      let P : Option Ty → Type 0 = λ o. IsTrue (at_field (fits c) (lookup n fs) o) in
      there_holds (lookup n fs) refl (subst P e (fields_at_names w (fits c) fs ts h.fitting n))
    where
      there_holds : (o : Option Datum) → lookup n fs ≡ o → IsTrue (at_field (fits c) o (Some t))
          → Holds m (λ v. HasType c v t) (found o)
      there_holds None e k = absurd (cc)
      there_holds (Some d) e k = record { fitting = k; records = value_at (λ d. IsTrue (rising d)) fs h.values n d e }
