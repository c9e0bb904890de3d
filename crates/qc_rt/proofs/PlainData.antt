-- Of plain operands operators make plain data.
use Rattle.std.proofs.Common.{◌≡◌, ℕ, suc, ℤ, Bool, true, false, cond, List, [], ◌∷◌, ◌++◌, map, Option, Some, None}
use Rattle.std.proofs.Common.{refl, sym, ap, subst, ◌∙◌}
use Rattle.std.specs.Prelude.{◌==◌, nat_lt, nat_le, filter, is_some, option_map}
use Rattle.std.specs.List.{AllByRecursion}
use Rattle.std.specs.Ordering.{is_lt}
use Rattle.std.specs.Str.{bytes_eq}
use Rattle.qc_containers.specs.Name.{is_marker}
use Rattle.qc_containers.specs.Pairs.{lookup, put}
use Rattle.qc_containers.specs.Rising.{on_value, text_cmp}
use Rattle.qc_containers.proofs.Truth.{and_parts, and_both}
use Rattle.qc_data.specs.Facts.{all_true}
use Rattle.qc_data.specs.Kinds.{as_int, as_coll, coll_at, made}
use Rattle.qc_data.specs.Order.{sort_by}
use Rattle.qc_data.specs.Outcome.{Mode, Outcome, Value, Halts, bound, and_then, alone, each, gather}
use Rattle.qc_data.specs.declared.data.Datum.{Datum}
use Rattle.qc_data.specs.declared.data.Datum.TheOpen.{Datum-F}
use Rattle.qc_data.specs.declared.data.Datum.TheViews.{out-Datum}
use Rattle.qc_data.specs.declared.data.Datum.TheFolds.{map-Datum}
use Rattle.qc_data.specs.declared.data.Datum.TheVariants as D
use Rattle.qc_data.proofs.Layers.{roll-out}
use Rattle.qc_data.proofs.SortLaws.{all-sort}
use Rattle.qc_types.specs.Classes.{Defs}
use Rattle.qc_ops.specs.Bags.{only_of, kept_by}
use Rattle.qc_ops.specs.Grouping.{keyed, rows_of, group_of}
use Rattle.qc_ops.specs.Numbers.{mean_of, as_ints}
use Rattle.qc_ops.specs.Operands.{as_bool, as_rec, as_brand, as_text, rec_at, brand_at, found, only_if, optional}
use Rattle.qc_ops.specs.Operators.{unary, binary}
use Rattle.qc_ops.specs.Records.{is_among, has_names, fields_at, part_of, projection, over, compatible}
use Rattle.qc_ops.specs.Sameness.{copies}
use Rattle.qc_ops.specs.Sorting.{column, row_cmp}
use Rattle.qc_ops.specs.Truths.{compared}
use Rattle.qc_ops.specs.declared.op.Unary.{Unary}
use Rattle.qc_ops.specs.declared.op.Unary.TheVariants as one
use Rattle.qc_ops.specs.declared.op.Binary.{Binary}
use Rattle.qc_ops.specs.declared.op.Binary.TheVariants as two
use Rattle.qc_rt.specs.Laws.{HasNames, plain, plain_step}
use Rattle.qc_rt.proofs.PlainLaws.{plain-roll, plain-Unit, plain-Bool, plain-Int, plain-Text, plain-Coll, plain-Rec}
use Rattle.qc_rt.proofs.PlainLaws.{plain-Left, plain-Right, plain-Brand}
use Rattle.qc_rt.proofs.PlainLaws.{plain_first, plain_fields}

abbrev Pairs : Type 0
Pairs = List (List ℕ × Datum)

-- ---- plain data, lists and fields

abbrev pub Plain : Datum → Type 0
Plain d = plain d ≡ true

abbrev All : List Datum → Type 0
All xs = AllByRecursion Plain xs

abbrev Field : List ℕ × Datum → Type 0
Field f = (is_marker f.0 ≡ false) × Plain f.1

-- what the content of a class's value is
abbrev Content : List ℕ × Datum → Type 0
Content b = Plain b.1

abbrev Fields : Pairs → Type 0
Fields fs = AllByRecursion Field fs

all_from : (xs : List Datum) → all_true (map plain xs) ≡ true → All xs
all_from [] h = tt
all_from (x ∷ xs) h = let p = and_parts (plain x) (all_true (map plain xs)) h in (p.0, all_from xs p.1)

all_to : (xs : List Datum) → All xs → all_true (map plain xs) ≡ true
all_to [] h = refl
all_to (x ∷ xs) h = and_both (plain x) (all_true (map plain xs)) h.0 (all_to xs h.1)

fields_from : (fs : Pairs) → plain_step (Datum-F.Rec (map (on_value plain) fs)) ≡ true → Fields fs
fields_from [] h = tt
fields_from (f ∷ fs) h =
    let p = plain_first f.0 (plain f.1) (map (on_value plain) fs) h in ((p.name, p.value), fields_from fs p.rest)

fields_to : (fs : Pairs) → Fields fs → plain_step (Datum-F.Rec (map (on_value plain) fs)) ≡ true
fields_to [] h = refl
fields_to (f ∷ fs) h = plain_fields f.0 (plain f.1) (map (on_value plain) fs) h.0.0 h.0.1 (fields_to fs h.1)

bag_plain : (xs : List Datum) → All xs → Plain (D.Coll xs)
bag_plain xs h = plain-Coll xs ∙ all_to xs h

rec_plain : (fs : Pairs) → Fields fs → Plain (D.Rec fs)
rec_plain fs h = plain-Rec fs ∙ fields_to fs h

left_plain : (d : Datum) → Plain d → Plain (D.Left d)
left_plain d h = plain-Left d ∙ h

optional_plain : (o : Option Datum) → ((d : Datum) → o ≡ Some d → Plain d) → Plain (optional o)
optional_plain None h = plain-Right D.Unit ∙ plain-Unit
optional_plain (Some d) h = left_plain d (h d refl)

-- ---- outcomes whose values hold a claim

abbrev Holds : {A : Type 0} → (A → Type 0) → Outcome A → Type 0
Holds P (Value a) = P a
Holds P (Halts why) = Unit {0}

abbrev pub Keeps : Outcome Datum → Type 0
Keeps o = Holds Plain o

then_holds : {A B : Type 0} (P : A → Type 0) (Q : B → Type 0) (o : Outcome A) (f : A → Outcome B) → Holds P o
    → ((a : A) → P a → Holds Q (f a)) → Holds Q (and_then o f)
then_holds P Q (Value a) f h k = k a h
then_holds P Q (Halts why) f h k = tt

any_holds : {A : Type 0} (o : Outcome A) → Holds (λ a. Unit {0}) o
any_holds (Value a) = tt
any_holds (Halts why) = tt

-- where what the first part gives does not matter
after : {A B : Type 0} (Q : B → Type 0) (o : Outcome A) (f : A → Outcome B) → ((a : A) → Holds Q (f a))
    → Holds Q (and_then o f)
after Q o f k = then_holds (λ a. Unit {0}) Q o f (any_holds o) (λ a u. k a)

if_holds : {A : Type 0} (P : A → Type 0) (b : Bool) (o : Outcome A) → Holds P o → Holds P (only_if b o)
if_holds P true o h = h
if_holds P false o h = tt

both : {A : Type 0} (P : A → Type 0) (xs ys : List A) → AllByRecursion P xs → AllByRecursion P ys
    → AllByRecursion P (xs ++ ys)
both P [] ys h k = k
both P (x ∷ xs) ys h k = (h.0, both P xs ys h.1 k)

gather_holds : {A B : Type 0} (P : A → Type 0) (Q : B → Type 0) (f : A → Outcome (List B))
    → ((a : A) → P a → Holds (AllByRecursion Q) (f a)) → (xs : List A) → AllByRecursion P xs
    → Holds (AllByRecursion Q) (gather f xs)
gather_holds P Q f h [] k = tt
gather_holds P Q f h (x ∷ xs) k =
    then_holds (AllByRecursion Q) (AllByRecursion Q) (f x) _ (h x k.0)
    (λ ys p. then_holds (AllByRecursion Q) (AllByRecursion Q) (gather f xs) _ (gather_holds P Q f h xs k.1)
    (λ zs q. both Q ys zs p q))

each_holds : {A B : Type 0} (P : A → Type 0) (Q : B → Type 0) (f : A → Outcome B) → ((a : A) → P a → Holds Q (f a))
    → (xs : List A) → AllByRecursion P xs → Holds (AllByRecursion Q) (each f xs)
each_holds P Q f h xs k =
    gather_holds P Q (λ x. alone (f x))
    (λ a p. then_holds Q (AllByRecursion Q) (f a) (λ x. Value (x ∷ [])) (h a p) (λ b q. (q, tt))) xs k

-- ---- operands by their kind

coll_layer : (x : Datum-F Datum) → plain_step (map-Datum Datum Bool plain x) ≡ true → Holds All (coll_at x)
coll_layer (Datum-F.Coll xs) h = all_from xs h
coll_layer x h = tt

by_layer : {A : Type 0} (P : A → Type 0) (g : Datum-F Datum → Outcome A)
    → ((x : Datum-F Datum) → plain_step (map-Datum Datum Bool plain x) ≡ true → Holds P (g x)) → (d : Datum) → Plain d
    → Holds P (g (out-Datum d))
by_layer P g h d n =
    h (out-Datum d) (sym (plain-roll (out-Datum d)) ∙ ap plain (roll-out d) ∙ n)

coll_plain : (d : Datum) → Plain d → Holds All (as_coll d)
coll_plain d n = by_layer All coll_at coll_layer d n

rec_layer : (x : Datum-F Datum) → plain_step (map-Datum Datum Bool plain x) ≡ true → Holds Fields (rec_at x)
rec_layer (Datum-F.Rec fs) h = fields_from fs h
rec_layer x h = tt

fields_plain : (d : Datum) → Plain d → Holds Fields (as_rec d)
fields_plain d n = by_layer Fields rec_at rec_layer d n

brand_layer : (x : Datum-F Datum) → plain_step (map-Datum Datum Bool plain x) ≡ true → Holds Content (brand_at x)
brand_layer (Datum-F.Brand n d) h = h
brand_layer x h = tt

class_plain : (d : Datum) → Plain d → Holds Content (as_brand d)
class_plain d n = by_layer Content brand_at brand_layer d n

-- ---- lists of plain data

lookup_plain : (n : List ℕ) (fs : Pairs) → Fields fs → Holds Plain (found (lookup n fs))
lookup_plain n [] h = tt
lookup_plain n (f ∷ fs) h =
    elim (bytes_eq f.0 n) as (λ b. Holds Plain (found (cond b (Some f.1) (lookup n fs))))
    [ true ↦ h.0.1 | false ↦ lookup_plain n fs h.1 ]

filter_holds : {A : Type 0} (P : A → Type 0) (test : A → Bool) (xs : List A) → AllByRecursion P xs
    → AllByRecursion P (filter test xs)
filter_holds P test [] h = tt
filter_holds P test (x ∷ xs) h =
    elim (test x) as (λ b. AllByRecursion P (cond b (x ∷ filter test xs) (filter test xs)))
    [ true ↦ (h.0, filter_holds P test xs h.1) | false ↦ filter_holds P test xs h.1 ]

chosen_plain : (b : Bool) (x : Datum) (xs : List Datum) → Plain x → All xs → All (cond b (x ∷ xs) xs)
chosen_plain true x xs h k = (h, k)
chosen_plain false x xs h k = k

kept_plain : (test : ℕ → Datum → Bool) (before xs : List Datum) → All xs → All (kept_by test before xs)
kept_plain test before [] h = tt
kept_plain test before (x ∷ xs) h =
    let rest : All (kept_by test (before ++ x ∷ []) xs) = kept_plain test (before ++ x ∷ []) xs h.1 in
    chosen_plain (test (suc (copies x before)) x) x (kept_by test (before ++ x ∷ []) xs) h.0 rest

put_plain : (n : List ℕ) (v : Datum) (fs : Pairs) → is_marker n ≡ false → Plain v → Fields fs → Fields (put n v fs)
put_plain n v [] e p h = ((e, p), tt)
put_plain n v (f ∷ fs) e p h =
    elim (is_lt (text_cmp f.0 n)) as (λ b. Fields (cond b (f ∷ put n v fs) ((n, v) ∷ f ∷ fs)))
    [ true ↦ (h.0, put_plain n v fs e p h.1) | false ↦ ((e, p), h) ]

over_plain : (fs gs : Pairs) → Fields fs → Fields gs → Fields (over fs gs)
over_plain [] gs h k = k
over_plain (f ∷ fs) gs h k =
    let rest : Fields (over fs gs) = over_plain fs gs h.1 k in
    elim (is_some (lookup f.0 (over fs gs))) as (λ b. Fields (cond b (over fs gs) (put f.0 f.1 (over fs gs))))
    [ true ↦ rest | false ↦ put_plain f.0 f.1 (over fs gs) h.0.0 h.0.1 rest ]

mapped : {A B : Type 0} (P : A → Type 0) (Q : B → Type 0) (f : A → B) → ((a : A) → P a → Q (f a)) → (xs : List A)
    → AllByRecursion P xs → AllByRecursion Q (map f xs)
mapped P Q f h [] k = tt
mapped P Q f h (x ∷ xs) k = (h x k.0, mapped P Q f h xs k.1)

-- ---- what operators make

int_keeps : (m : Mode) (n : ℤ) → Keeps (made m n)
int_keeps m n = after Plain (bound m n) (λ k. Value (D.Int k)) (λ k. plain-Int k)

on_bags_keeps : (f : List Datum → List Datum → List Datum) → ((xs ys : List Datum) → All xs → All ys → All (f xs ys))
    → (a b : Datum) → Plain a → Plain b
    → Keeps (and_then (as_coll a) (λ xs. and_then (as_coll b) (λ ys. Value (D.Coll (f xs ys)))))
on_bags_keeps f h a b p q =
    then_holds All Plain (as_coll a) _ (coll_plain a p)
    (λ xs u. then_holds All Plain (as_coll b) _ (coll_plain b q) (λ ys v. bag_plain (f xs ys) (h xs ys u v)))

part_keeps : (names : List (List ℕ)) (a : Datum) → Plain a → Holds Fields (part_of names a)
part_keeps names a p =
    then_holds Fields Fields (as_rec a) _ (fields_plain a p)
    (λ fs h. if_holds Fields (has_names names fs) (Value (fields_at names fs))
    (filter_holds Field (λ pair. is_among pair.0 names) fs h))

projection_keeps : (names : List (List ℕ)) (a : Datum) → Plain a → Keeps (projection names a)
projection_keeps names a p =
    then_holds Fields Plain (part_of names a) (λ fields. Value (D.Rec fields)) (part_keeps names a p) rec_plain

mean_keeps : (m : Mode) (ns : List ℤ) → Keeps (mean_of m ns)
mean_keeps m [] = plain-Right D.Unit ∙ plain-Unit
mean_keeps m (n ∷ ns) = then_holds Plain Plain (made m _) (λ d. Value (optional (Some d))) (int_keeps m _) left_plain

ints_plain : (o : Option ℤ) → Plain (optional (option_map D.Int o))
ints_plain None = plain-Right D.Unit ∙ plain-Unit
ints_plain (Some n) = left_plain (D.Int n) (plain-Int n)

only_plain : (xs : List Datum) → All xs → Plain (optional (only_of xs))
only_plain [] h = plain-Right D.Unit ∙ plain-Unit
only_plain (x ∷ []) h = left_plain x h.0
only_plain (x ∷ y ∷ ys) h = plain-Right D.Unit ∙ plain-Unit

-- a row behind its key
abbrev Both : Datum × Datum → Type 0
Both p = Plain p.0 × Plain p.1

keyed_keeps : (names : List (List ℕ)) (row : Datum) → Plain row → Holds Both (keyed names row)
keyed_keeps names row p =
    then_holds Plain Both (projection names row) (λ key. Value (key, row)) (projection_keeps names row p)
    (λ key k. (k, p))

rows_plain : (key : Datum) (pairs : List (Datum × Datum)) → AllByRecursion Both pairs → All (rows_of key pairs)
rows_plain key pairs h =
    mapped Both Plain (λ pair. pair.1) (λ pair p. p.1) _ (filter_holds Both _ pairs h)

group_keeps : (g : List ℕ) (pairs : List (Datum × Datum)) → is_marker g ≡ false → AllByRecursion Both pairs
    → (key : Datum)
    → Plain key → Keeps (group_of g pairs key)
group_keeps g pairs e h key k =
    then_holds Fields Plain (as_rec key) _ (fields_plain key k)
    (λ fs p. rec_plain (put g (D.Coll (rows_of key pairs)) fs)
    (put_plain g (D.Coll (rows_of key pairs)) fs e (bag_plain (rows_of key pairs) (rows_plain key pairs h)) p))

groups_keep : (g : List ℕ) (pairs : List (Datum × Datum)) → is_marker g ≡ false → AllByRecursion Both pairs
    → (keys : List Datum) → All keys
    → Keeps (and_then (each (group_of g pairs) keys) (λ xs. Value (D.Coll xs)))
groups_keep g pairs e h keys k =
    then_holds All Plain (each (group_of g pairs) keys) (λ xs. Value (D.Coll xs))
    (each_holds Plain Plain (group_of g pairs) (group_keeps g pairs e h) keys k) bag_plain

merged_plain : (b : Bool) (fs gs : Pairs) → Fields fs → Fields gs → All (cond b (D.Rec (over fs gs) ∷ []) [])
merged_plain true fs gs h k = (rec_plain (over fs gs) (over_plain fs gs h k), tt)
merged_plain false fs gs h k = tt

if_some : {A : Type 0} (b : Bool) (a d : A) → cond b (Some a) None ≡ Some d → a ≡ d
if_some true a d e = cc
if_some false a d e = absurd (cc)

pub unary_keeps : (m : Mode) (c : Defs) (op : Unary) (a : Datum) → HasNames op → Plain a → Keeps (unary m c op a)
unary_keeps m c one.Not a h p = after Plain (as_bool a) _ (λ b. plain-Bool _)
unary_keeps m c one.Neg a h p = after Plain (as_int a) _ (λ n. int_keeps m _)
unary_keeps m c one.Abs a h p = after Plain (as_int a) _ (λ n. int_keeps m _)
unary_keeps m c (one.DivBy k) a h p = after Plain (as_int a) _ (λ n. int_keeps m _)
unary_keeps m c (one.ModBy k) a h p = after Plain (as_int a) _ (λ n. int_keeps m _)
unary_keeps m c one.Count a h p = after Plain (as_coll a) _ (λ xs. int_keeps m _)
unary_keeps m c one.Sum a h p = after Plain (as_ints a) _ (λ ns. int_keeps m _)
unary_keeps m c one.Min a h p = after Plain (as_ints a) _ (λ ns. ints_plain _)
unary_keeps m c one.Max a h p = after Plain (as_ints a) _ (λ ns. ints_plain _)
unary_keeps m c one.Avg a h p = after Plain (as_ints a) (mean_of m) (mean_keeps m)
unary_keeps m c one.Element a h p = then_holds All Plain (as_coll a) _ (coll_plain a p) only_plain
unary_keeps m c one.Flatten a h p =
    then_holds All Plain (as_coll a) _ (coll_plain a p)
    (λ xs u. then_holds All Plain (gather as_coll xs) (λ xs. Value (D.Coll xs))
    (gather_holds Plain Plain as_coll coll_plain xs u) bag_plain)
unary_keeps m c one.Distinct a h p =
    then_holds All Plain (as_coll a) _ (coll_plain a p) (λ xs u. bag_plain _ (kept_plain (λ k x. k == 1) [] xs u))
unary_keeps m c one.Single a h p = bag_plain (a ∷ []) (p, tt)
unary_keeps m c (one.Rec name) a h p = rec_plain ((name, a) ∷ []) ((h, p), tt)
unary_keeps m c (one.Dot name) a h p =
    then_holds Fields Plain (as_rec a) _ (fields_plain a p) (λ fs u. lookup_plain name fs u)
unary_keeps m c (one.Project names) a h p = projection_keeps names a p
unary_keeps m c one.Left a h p = left_plain a p
unary_keeps m c one.Right a h p = plain-Right a ∙ p
unary_keeps m c (one.Brand name) a h p = plain-Brand name a ∙ p
unary_keeps m c one.Unbrand a h p = then_holds Content Plain (as_brand a) _ (class_plain a p) (λ b u. u)
unary_keeps m c (one.Cast name) a h p =
    after Plain (as_brand a) _ (λ b. optional_plain _ (λ d e. subst Plain (if_some _ a d e) p))
unary_keeps m c (one.Order keys) a h p =
    then_holds All Plain (as_coll a) _ (coll_plain a p)
    (λ rows u. then_holds (AllByRecursion Fields) Plain (each as_rec rows) _
    (each_holds Plain Fields as_rec fields_plain rows u)
    (λ records v. after Plain (each (λ key. column records key.0) keys) _
    (λ columns. bag_plain (map D.Rec (sort_by (row_cmp keys) records))
    (mapped Fields Plain D.Rec rec_plain (sort_by (row_cmp keys) records)
    (all-sort (row_cmp keys) Fields records v)))))
unary_keeps m c (one.Group g names) a h p =
    then_holds All Plain (as_coll a) _ (coll_plain a p)
    (λ rows u. if_holds Plain _ _ (then_holds (AllByRecursion Both) Plain (each (keyed names) rows) _
    (each_holds Plain Both (keyed names) (keyed_keeps names) rows u)
    (λ pairs v. groups_keep g pairs h.0 v _
    (kept_plain (λ k x. k == 1) [] (map (λ pair. pair.0) pairs)
    (mapped Both Plain (λ pair. pair.0) (λ pair q. q.0) pairs v)))))
unary_keeps m c (one.Like pattern) a h p = after Plain (as_text a) _ (λ s. plain-Bool _)

ints_keep : (f : ℤ → ℤ → Outcome Datum) → ((x y : ℤ) → Keeps (f x y)) → (a b : Datum)
    → Keeps (and_then (as_int a) (λ x. and_then (as_int b) (f x)))
ints_keep f h a b = after Plain (as_int a) _ (λ x. after Plain (as_int b) (f x) (h x))

append_plain : (xs ys : List Datum) → All xs → All ys → All (xs ++ ys)
append_plain xs ys h k = both Plain xs ys h k

pub binary_keeps : (m : Mode) (op : Binary) (a b : Datum) → Plain a → Plain b → Keeps (binary m op a b)
binary_keeps m two.Eq a b p q = plain-Bool _
binary_keeps m two.Lt a b p q = after Plain (compared a b) _ (λ o. plain-Bool _)
binary_keeps m two.Le a b p q = after Plain (compared a b) _ (λ o. plain-Bool _)
binary_keeps m two.And a b p q = after Plain (as_bool a) _ (λ x. after Plain (as_bool b) _ (λ y. plain-Bool _))
binary_keeps m two.Or a b p q = after Plain (as_bool a) _ (λ x. after Plain (as_bool b) _ (λ y. plain-Bool _))
binary_keeps m two.Add a b p q = ints_keep _ (λ x y. int_keeps m _) a b
binary_keeps m two.Sub a b p q = ints_keep _ (λ x y. int_keeps m _) a b
binary_keeps m two.Mul a b p q = ints_keep _ (λ x y. int_keeps m _) a b
binary_keeps m two.Least a b p q = ints_keep _ (λ x y. plain-Int _) a b
binary_keeps m two.Greatest a b p q = ints_keep _ (λ x y. plain-Int _) a b
binary_keeps m two.Union a b p q = on_bags_keeps (λ xs ys. xs ++ ys) append_plain a b p q
binary_keeps m two.Except a b p q =
    on_bags_keeps _ (λ xs ys u v. kept_plain (λ k x. nat_lt (copies x ys) k) [] xs u) a b p q
binary_keeps m two.Intersect a b p q =
    on_bags_keeps _ (λ xs ys u v. kept_plain (λ k x. nat_le k (copies x ys)) [] xs u) a b p q
binary_keeps m two.Member a b p q = after Plain (as_coll b) _ (λ ys. plain-Bool _)
binary_keeps m two.Cat a b p q =
    then_holds Fields Plain (as_rec a) _ (fields_plain a p)
    (λ fs u. then_holds Fields Plain (as_rec b) _ (fields_plain b q)
    (λ gs v. rec_plain (over fs gs) (over_plain fs gs u v)))
binary_keeps m two.Merge a b p q =
    then_holds Fields Plain (as_rec a) _ (fields_plain a p)
    (λ fs u. then_holds Fields Plain (as_rec b) _ (fields_plain b q)
    (λ gs v. bag_plain _ (merged_plain (compatible fs gs) fs gs u v)))
binary_keeps m two.Glue a b p q = after Plain (as_text a) _ (λ s. after Plain (as_text b) _ (λ t. plain-Text _))
