-- The typing of `struct` is sound where its fields' are.
use Rattle.std.proofs.Common.{◌≡◌, ℕ, Bool, true, false, ◌&&◌, List, [], ◌∷◌, Option, Some, None, IsTrue, cond, refl}
use Rattle.std.proofs.Common.{sym, ap, ◌∙◌, subst}
use Rattle.std.specs.Prelude.{Result, Ok, Err, is_some, not}
use Rattle.std.specs.Ordering.{is_lt}
use Rattle.std.specs.Str.{bytes_eq}
use Rattle.qc_data.specs.Facts.{rising}
use Rattle.qc_containers.specs.Name.{is_name}
use Rattle.qc_data.specs.Outcome.{Mode, Value, and_then, each}
use Rattle.qc_containers.specs.Pairs.{lookup, put}
use Rattle.qc_containers.specs.Rising.{Rising, text_cmp}
use Rattle.qc_data.specs.declared.data.Datum.{Datum}
use Rattle.qc_data.specs.declared.data.Datum.TheVariants as datum
use Rattle.qc_containers.proofs.Putting.{Rising-put}
use Rattle.qc_containers.proofs.Truth.{not_true}
use Rattle.qc_types.specs.declared.ty.Width.TheVariants.{Exact}
use Rattle.qc_types.specs.declared.ty.Ty.{Ty}
use Rattle.qc_types.specs.declared.ty.Ty.TheVariants as ty
use Rattle.qc_types.specs.Classes.{Defs}
use Rattle.qc_types.specs.Types.{fits}
use Rattle.qc_types.proofs.Inductions.{AllIn, AllOf}
use Rattle.qc_types.proofs.RowLaws.{and_parts}
use Rattle.qc_ops.specs.Records.{put_new}
use Rattle.qc_typing.specs.Checking.{and_check, each_checked}
use Rattle.qc_typing.specs.Typed.{HasType}
use Rattle.qc_typing.proofs.Outcomes.{Holds, holds_then}
use Rattle.qc_types.proofs.PutLaws.{lookup-put}
use Rattle.qc_typing.proofs.FieldLaws.{lookup-put_new}
use Rattle.qc_typing.proofs.RecordValues.{Both, exact_from, holds_if}
use Rattle.qc_typing.proofs.RisingLaws.{or_else, rising_put_new}
use Rattle.qc_typing.proofs.Values.{make_rec}
use Rattle.qc_oql_tree.specs.Bindings.{Bindings}
use Rattle.qc_oql_tree.specs.FormMeanings.{NamedMeaning, field_of, record_of, structured}
use Rattle.qc_oql_tree.specs.OperatorMeanings.{name_of}
use Rattle.qc_oql_tree.specs.FormTypings.{Types, NamedTyping, typed_field, structured_type}
use Rattle.qc_oql_tree.specs.PartTypes.{FieldType, row_of}
use Rattle.qc_oql_check.proofs.Checked.{Zip, checked_at, checked_by, each_ok, each_zip, zip_through, zip_with}
use Rattle.qc_oql_check.proofs.Scopes.{Agree, Sound, SoundN}

-- ---- fields of names that are put behind a row

none_there : {T : Type 0} (o : Option T) → is_some o ≡ false → o ≡ None
none_there None e = refl
none_there (Some v) e = absurd (cc)

-- what a row that was made says of its first field
row_step : (b : Bool) (r : Result (List (List ℕ × Ty)) ℕ) (at : ℕ) (row : List (List ℕ × Ty))
    → cond b r (Err at) ≡ Ok row → IsTrue b × (r ≡ Ok row)
row_step true r at row e = (refl, e)
row_step false r at row e = absurd (cc)

new_name : (f : FieldType) (before : List (List ℕ × Ty))
    → IsTrue (is_name f.label && not (is_some (lookup f.label before))) → lookup f.label before ≡ None
new_name f before e =
    none_there (lookup f.label before) (not_true (is_some (lookup f.label before))
    (and_parts (is_name f.label) (not (is_some (lookup f.label before))) e).1)

all_names : (fs : List FieldType) (before row : List (List ℕ × Ty)) → row_of fs before ≡ Ok row
    → AllOf (λ f. IsTrue (is_name f.label)) fs
all_names [] before row e = tt
all_names (f ∷ fs) before row e =
    let s = row_step (is_name f.label && not (is_some (lookup f.label before)))
    (row_of fs (put f.label f.type before)) f.at row e in (
      (and_parts (is_name f.label) (not (is_some (lookup f.label before))) s.0).0,
      all_names fs (put f.label f.type before) row s.1,
    )

row_rising : (fs : List FieldType) (before row : List (List ℕ × Ty)) → row_of fs before ≡ Ok row → Rising before
    → Rising row
row_rising [] before row e r = let same : before ≡ row = cc in subst Rising same r
row_rising (f ∷ fs) before row e r =
    let s = row_step (is_name f.label && not (is_some (lookup f.label before)))
    (row_of fs (put f.label f.type before)) f.at row e in
    row_rising fs (put f.label f.type before) row s.1 (Rising-put f.label f.type before r (new_name f before s.0))

record_rising : (ds : List (List ℕ × Datum)) → Rising (record_of ds)
record_rising [] = tt
record_rising (d ∷ ds) = rising_put_new d.0 d.1 (record_of ds) (record_rising ds)

all_put : {A : Type 0} (P : A → Type 0) (n : List ℕ) (v : A) (ps : List (List ℕ × A)) → P v → AllIn P ps
    → AllIn P (put n v ps)
all_put P n v [] h k = (h, tt)
all_put P n v (p ∷ ps) h k =
    elim (is_lt (text_cmp p.0 n)) as (λ b. AllIn P (cond b (p ∷ put n v ps) ((n, v) ∷ p ∷ ps)))
    [ true ↦ (k.0, all_put P n v ps h k.1) | false ↦ (h, k) ]

all_new : (P : Datum → Type 0) (n : List ℕ) (v : Datum) (ps : List (List ℕ × Datum)) (b : Bool) → P v → AllIn P ps
    → AllIn P (cond b ps (put n v ps))
all_new P n v ps true h k = k
all_new P n v ps false h k = all_put P n v ps h k

else_none : {T : Type 0} (o : Option T) → or_else o None ≡ o
else_none None = refl
else_none (Some v) = refl

else_cond : {T : Type 0} (b : Bool) (v : T) (x y : Option T)
    → or_else (or_else x (cond b (Some v) None)) y ≡ or_else x (cond b (Some v) y)
else_cond true v None y = refl
else_cond false v None y = refl
else_cond b v (Some w) y = refl

both_put : {A B : Type 0} (r : A → B → Bool) (k : Bool) (a : A) (b : B) (x : Option A) (y : Option B) → IsTrue (r a b)
    → Both r x y → Both r (cond k (Some a) x) (cond k (Some b) y)
both_put r true a b x y h k = h
both_put r false a b x y h k = k

ok_is : {A : Type 0} (a b : A) → ◌≡◌ {A = Result A ℕ} (Ok a) (Ok b) → a ≡ b
ok_is a b e = cc

-- the label and the type of a field
label_ok : (f : NamedTyping) (u : FieldType) (r : Result Ty ℕ)
    → and_check r (λ t. Ok (record { at = f.at; label = f.name; type = t })) ≡ Ok u
    → (f.name ≡ u.label) × (r ≡ Ok u.type)
label_ok f u (Ok t) e =
    let same = ok_is _ u e in (ap (λ (x : FieldType). x.label) same, ap (λ (x : FieldType). Ok x.type) same)
label_ok f u (Err at) e = absurd (cc)

module _ (c : Defs) where
  -- a field with a value of its type
  abbrev Has : List ℕ × Datum → FieldType → Type 0
  Has d f = (d.0 ≡ f.label) × HasType c d.1 f.type

  record_values : (ds : List (List ℕ × Datum)) (fs : List FieldType) → Zip Has ds fs
      → AllIn (λ d. IsTrue (rising d)) (record_of ds)
  record_values [] [] z = tt
  record_values [] (f ∷ fs) z = absurd z
  record_values (d ∷ ds) [] z = absurd z
  record_values (d ∷ ds) (f ∷ fs) z =
      all_new (λ d. IsTrue (rising d)) d.0 d.1 (record_of ds) (is_some (lookup d.0 (record_of ds))) z.0.1.records
      (record_values ds fs z.1)

  -- at each name the record has what the row wants, where the values before are what the row before wants
  record_fits : (fs : List FieldType) (before row : List (List ℕ × Ty)) (ds : List (List ℕ × Datum))
      → row_of fs before ≡ Ok row → Zip Has ds fs
      → (n : List ℕ) (x : Option Datum) → Both (fits c) x (lookup n before)
      → Both (fits c) (or_else (lookup n (record_of ds)) x) (lookup n row)
  record_fits [] before row [] e z n x h =
      let same : before ≡ row = cc in subst (λ (l : List (List ℕ × Ty)). Both (fits c) x (lookup n l)) same h
  record_fits [] before row (d ∷ ds) e z n x h = absurd z
  record_fits (f ∷ fs) before row [] e z n x h = absurd z
  record_fits (f ∷ fs) before row (d ∷ ds) e z n x h =
      let s = row_step (is_name f.label && not (is_some (lookup f.label before)))
      (row_of fs (put f.label f.type before)) f.at row e in
      let later = record_fits fs (put f.label f.type before) row ds s.1 z.1 n (cond (bytes_eq d.0 n) (Some d.1) x)
      (rw (lookup-put f.label n f.type before, z.0.0)
      (both_put (fits c) (bytes_eq f.label n) d.1 f.type x (lookup n before) z.0.1.fitting h)) in
      let same : or_else (lookup n (put_new d.0 d.1 (record_of ds))) x
      ≡ or_else (lookup n (record_of ds)) (cond (bytes_eq d.0 n) (Some d.1) x) =
      ap (λ o. or_else o x) (lookup-put_new d.0 n d.1 (record_of ds))
      ∙ else_cond (bytes_eq d.0 n) d.1 (lookup n (record_of ds)) x in
      subst (λ (o : Option Datum). Both (fits c) o (lookup n row)) (sym same) later

  record_made : (fs : List FieldType) (row : List (List ℕ × Ty)) (ds : List (List ℕ × Datum)) → row_of fs [] ≡ Ok row
      → Zip Has ds fs → HasType c (datum.Rec (record_of ds)) (ty.Rec Exact row)
  record_made fs row ds e z = make_rec c Exact row (record_of ds) (record {
    fitting = exact_from (fits c) (record_of ds) row (record_rising ds) (row_rising fs [] row e tt) (λ n.
        subst (λ (o : Option Datum). Both (fits c) o (lookup n row)) (else_none (lookup n (record_of ds)))
        (record_fits fs [] row ds e z n None tt));
    names = record_rising ds;
    values = record_values ds fs z;
  })

  -- ---- the form

  module _ (m : Mode) where
    field_holds : (s : Bindings) (e : Types) → Agree c s e → (f : NamedTyping) (a : NamedMeaning) (u : FieldType)
        → SoundN c m f a → (typed_field e f ≡ Ok u) × IsTrue (is_name u.label) → Holds m (λ d. Has d u) (field_of s a)
    field_holds s e i f a u h k =
        let l = label_ok f u (f.of e) k.0 in
        let same : a.0 ≡ u.label = sym h.0 ∙ l.0 in
        holds_then m (λ n. n ≡ u.label) (λ d. Has d u) (name_of a.0) (λ label. and_then (a.1 s) (λ x. Value (label, x)))
        (rw same (holds_if m (λ n. n ≡ u.label) (is_name u.label) (Value u.label) k.1 refl)) (λ n p.
        holds_then m (λ v. HasType c v u.type) (λ d. Has d u) (a.1 s) (λ x. Value (n, x))
        (checked_at m (HasType c) (f.of e) u.type (a.1 s) l.1 (h.1 s e i)) (λ v q. (p, q)))

    pub sound_structured : (fs : List NamedTyping) (xs : List NamedMeaning) → Zip (SoundN c m) fs xs
        → Sound c m (structured_type fs) (structured xs)
    sound_structured fs xs z s e i =
        checked_by m (HasType c) (each_checked (typed_field e) fs)
        (λ us. and_check (row_of us []) (λ row. Ok (ty.Rec Exact row))) (structured xs s) (λ us p.
        checked_by m (HasType c) (row_of us []) (λ row. Ok (ty.Rec Exact row)) (structured xs s) (λ row q.
        let fields =
        zip_with (λ f u. typed_field e f ≡ Ok u) (λ u. IsTrue (is_name u.label)) fs us (each_ok (typed_field e) fs us p)
        (all_names us [] row q) in
        let held =
        zip_through (SoundN c m) (λ f u. (typed_field e f ≡ Ok u) × IsTrue (is_name u.label))
        (λ a u. Holds m (λ d. Has d u) (field_of s a)) fs xs us (field_holds s e i) z fields in
        holds_then m (λ ds. Zip Has ds us) (λ v. HasType c v (ty.Rec Exact row)) (each (field_of s) xs)
        (λ ds. Value (datum.Rec (record_of ds))) (each_zip m Has (field_of s) xs us held)
        (λ ds k. record_made us row ds q k)))
