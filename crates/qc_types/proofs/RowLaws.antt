-- Laws of look-ups and of records against records.
use Rattle.std.proofs.Common.{◌≡◌, ◌≢◌, ℕ, zero, suc, ◌+◌, ◌<◌, length, drop, get_or, arith, add-one, drop-cons, Less}
use Rattle.std.proofs.Common.{List, [], ◌∷◌, map, Option, Some, None, Bool, true, false, ◌&&◌, cond, IsTrue, refl, sym}
use Rattle.std.proofs.Common.{ap, ◌∙◌, subst}
use Rattle.std.specs.Option.{option_map}
use Rattle.std.specs.Prelude.{is_some}
use Rattle.std.specs.Str.{bytes_eq}
use Rattle.std.proofs.lemmas.Slice.Eq.{bytes_eq-Decides}
use Rattle.qc_containers.specs.Pairs.{lookup}
use Rattle.std.specs.Ordering.{is_eq}
use Rattle.std.proofs.lemmas.Map.Text.{is_eq-slice_cmp}
use Rattle.qc_containers.specs.Rising.{on_value, text_cmp, Above, Rising}
use Rattle.std.proofs.Math.Bool.{and-false}
use Rattle.qc_types.specs.declared.ty.Width.{Width}
use Rattle.qc_types.specs.declared.ty.Width.TheVariants.{Exact, Wide}
use Rattle.qc_types.specs.Rows.{names, same_names, all_in, at_field, has_fields, fields_in}
use Rattle.qc_types.specs.inner.Shared.{at_shared, has_shared}

pub and_parts : (a b : Bool) → IsTrue (a && b) → IsTrue a × IsTrue b
and_parts true b e = (refl, e)
and_parts false b e = absurd (cc)

pub both : (a b : Bool) → IsTrue a → IsTrue b → IsTrue (a && b)
both a b p q = rw (p, q) refl

pub lookup-map : {A B : Type 0} (h : A → B) (n : List ℕ) (ps : List (List ℕ × A))
    → lookup n (map (on_value h) ps) ≡ option_map h (lookup n ps)
lookup-map h n [] = refl
lookup-map {A} {B} h n (p ∷ ps) =
    elim (bytes_eq p.0 n) as (λ b. cond b (Some (h p.1)) (lookup n (map (on_value h) ps))
    ≡ option_map h (cond b (Some p.1) (lookup n ps))) [ true ↦ refl | false ↦ lookup-map h n ps ]

pub names-map : {A B : Type 0} (h : A → B) (ps : List (List ℕ × A)) → names (map (on_value h) ps) ≡ names ps
names-map h [] = refl
names-map h (p ∷ ps) = ap (λ (l : List (List ℕ)). p.0 ∷ l) (names-map h ps)

at_field-map : {A B C : Type 0} (r : B → C → Bool) (h : A → B) (x : Option A) (y : Option C)
    → at_field r (option_map h x) y ≡ at_field (λ a c. r (h a) c) x y
at_field-map r h None None = refl
at_field-map r h None (Some c) = refl
at_field-map r h (Some a) None = refl
at_field-map r h (Some a) (Some c) = refl

pub all_in-same : {A : Type 0} (p q : A → Bool) (xs : List A) → ((x : A) → p x ≡ q x) → all_in p xs ≡ all_in q xs
all_in-same p q [] h = refl
all_in-same p q (x ∷ xs) h = rw (h x, all_in-same p q xs h) refl

pub all_in-map : {A B : Type 0} (p : B → Bool) (h : A → B) (xs : List A)
    → all_in p (map h xs) ≡ all_in (λ x. p (h x)) xs
all_in-map p h [] = refl
all_in-map p h (x ∷ xs) = ap (λ b. p (h x) && b) (all_in-map p h xs)

pub has_fields-map : {A B C : Type 0} (r : B → C → Bool) (h : A → B) (fs : List (List ℕ × A)) (ts : List (List ℕ × C))
    → has_fields r (map (on_value h) fs) ts ≡ has_fields (λ a t. r (h a) t) fs ts
has_fields-map r h fs ts =
    all_in-same _ _ (names ts) (λ n. ap (λ o. at_field r o (lookup n ts)) (lookup-map h n fs)
    ∙ at_field-map r h (lookup n fs) (lookup n ts))

pub fields_in-map : {A B C : Type 0} (w : Width) (r : B → C → Bool) (h : A → B) (fs : List (List ℕ × A))
    (ts : List (List ℕ × C)) → fields_in w r (map (on_value h) fs) ts ≡ fields_in w (λ a t. r (h a) t) fs ts
fields_in-map Exact r h fs ts = rw (names-map h fs, has_fields-map r h fs ts) refl
fields_in-map Wide r h fs ts = has_fields-map r h fs ts

-- ---- a test of all names, at one name

at_cond : {T : Type 0} (p : List ℕ → Bool) (m n : List ℕ) (u t : T) (o : Option T) (b : Bool) → bytes_eq m n ≡ b
    → cond b (Some u) o ≡ Some t → IsTrue (p m) → (o ≡ Some t → IsTrue (p n)) → IsTrue (p n)
at_cond p m n u t o true e at here later =
    let P : List ℕ → Type 0 = λ k. IsTrue (p k) in subst P ((bytes_eq-Decides m n).0 e) here
at_cond p m n u t o false e at here later = later at

pub all_at : {T : Type 0} (p : List ℕ → Bool) (ts : List (List ℕ × T)) → IsTrue (all_in p (names ts))
    → (n : List ℕ) (t : T) → lookup n ts ≡ Some t → IsTrue (p n)
all_at p [] h n t e = absurd (cc)
all_at p (q ∷ qs) h n t e =
    let a = and_parts (p q.0) (all_in p (names qs)) h in
    at_cond p q.0 n q.1 t (lookup n qs) (bytes_eq q.0 n) refl e a.0 (λ k. all_at p qs a.1 n t k)

pub all_from : {A : Type 0} (p : A → Bool) (xs : List A) → ((x : A) → IsTrue (p x)) → IsTrue (all_in p xs)
all_from p [] h = refl
all_from p (x ∷ xs) h = both (p x) (all_in p xs) (h x) (all_from p xs h)

pub at_none : {A B : Type 0} (r : A → B → Bool) (x : Option A) (y : Option B)
    → ((t : B) → y ≡ Some t → IsTrue (at_field r x y)) → IsTrue (at_field r x y)
at_none r x None h = refl
at_none r x (Some t) h = h t refl

pub has_at : {A B : Type 0} (r : A → B → Bool) (fs : List (List ℕ × A)) (ts : List (List ℕ × B))
    → IsTrue (has_fields r fs ts) → (n : List ℕ) → IsTrue (at_field r (lookup n fs) (lookup n ts))
has_at r fs ts h n =
    at_none r (lookup n fs) (lookup n ts) (λ t e. all_at (λ m. at_field r (lookup m fs) (lookup m ts)) ts h n t e)

pub has_from : {A B : Type 0} (r : A → B → Bool) (fs : List (List ℕ × A)) (ts : List (List ℕ × B))
    → ((n : List ℕ) → IsTrue (at_field r (lookup n fs) (lookup n ts))) → IsTrue (has_fields r fs ts)
has_from r fs ts h = all_from _ (names ts) h

-- ---- names
pub same_names-is : (ms ns : List (List ℕ)) → IsTrue (same_names ms ns) → ms ≡ ns
same_names-is [] [] h = refl
same_names-is [] (n ∷ ns) h = absurd (cc)
same_names-is (m ∷ ms) [] h = absurd (cc)
same_names-is (m ∷ ms) (n ∷ ns) h =
    let a = and_parts (bytes_eq m n) (same_names ms ns) h in
    λ i. (bytes_eq-Decides m n).0 a.0 i ∷ same_names-is ms ns a.1 i

pub same_names-refl : (ns : List (List ℕ)) → IsTrue (same_names ns ns)
same_names-refl [] = refl
same_names-refl (n ∷ ns) = both (bytes_eq n n) (same_names ns ns) ((bytes_eq-Decides n n).1 refl) (same_names-refl ns)

-- ---- one after another

at_trans : {A B C : Type 0} (r : A → B → Bool) (s : B → C → Bool) (q : A → C → Bool) (x : Option A) (y : Option B)
    (z : Option C)
    → ((a : A) (b : B) (c : C) → x ≡ Some a → IsTrue (r a b) → IsTrue (s b c) → IsTrue (q a c))
    → IsTrue (at_field r x y) → IsTrue (at_field s y z) → IsTrue (at_field q x z)
at_trans r s q x y None h j k = refl
at_trans r s q x None (Some c) h j k = absurd (cc)
at_trans r s q None (Some b) (Some c) h j k = absurd (cc)
at_trans r s q (Some a) (Some b) (Some c) h j k = h a b c refl j k

pub has_trans : {A B C : Type 0} (r : A → B → Bool) (s : B → C → Bool) (q : A → C → Bool) (fs : List (List ℕ × A))
    (ts : List (List ℕ × B)) (us : List (List ℕ × C))
    → ((n : List ℕ) (a : A) (b : B) (c : C) → lookup n fs ≡ Some a → IsTrue (r a b) → IsTrue (s b c) → IsTrue (q a c))
    → IsTrue (has_fields r fs ts) → IsTrue (has_fields s ts us) → IsTrue (has_fields q fs us)
has_trans r s q fs ts us h j k =
    has_from q fs us (λ n. at_trans r s q (lookup n fs) (lookup n ts) (lookup n us) (λ a b c e. h n a b c e)
    (has_at r fs ts j n) (has_at s ts us k n))

pub exact_trans : {A B C : Type 0} (r : A → B → Bool) (s : B → C → Bool) (q : A → C → Bool) (fs : List (List ℕ × A))
    (ts : List (List ℕ × B)) (us : List (List ℕ × C))
    → ((n : List ℕ) (a : A) (b : B) (c : C) → lookup n fs ≡ Some a → IsTrue (r a b) → IsTrue (s b c) → IsTrue (q a c))
    → IsTrue (fields_in Exact r fs ts) → IsTrue (fields_in Exact s ts us) → IsTrue (fields_in Exact q fs us)
exact_trans r s q fs ts us h j k =
    let a = and_parts (same_names (names fs) (names ts)) (has_fields r fs ts) j in
    let b = and_parts (same_names (names ts) (names us)) (has_fields s ts us) k in
    both (same_names (names fs) (names us)) (has_fields q fs us) (rw (same_names-is (names fs) (names ts) a.0) b.0)
    (has_trans r s q fs ts us h a.1 b.1)

at_refl : {A : Type 0} (r : A → A → Bool) (x : Option A) → ((a : A) → x ≡ Some a → IsTrue (r a a))
    → IsTrue (at_field r x x)
at_refl r None h = refl
at_refl r (Some a) h = h a refl

pub has_refl : {A : Type 0} (r : A → A → Bool) (fs : List (List ℕ × A))
    → ((n : List ℕ) (a : A) → lookup n fs ≡ Some a → IsTrue (r a a)) → IsTrue (has_fields r fs fs)
has_refl r fs h = has_from r fs fs (λ n. at_refl r (lookup n fs) (λ a e. h n a e))

-- ---- the code's loops
own_at : {T : Type 0} (b : Bool) (q : List ℕ × T) (n : List ℕ) (v : T) (o : Option T) → b ≡ false → o ≡ Some v
    → cond b (Some q.1) o ≡ Some v
own_at true q n v o e h = absurd (cc)
own_at false q n v o e h = h

pub above_at : {T : Type 0} (n : List ℕ) (ps : List (List ℕ × T)) (k : ℕ) (p : List ℕ × T) → Above n ps → k < length ps
    → p ≡ get_or ps k p → text_cmp n p.0 ≡ Less
above_at n [] k p a lt e = absurd (omega arith)
above_at n (q ∷ qs) zero p a lt e = rw e a.0
above_at n (q ∷ qs) (suc k) p a lt e = above_at n qs k p a.1 (omega arith) e

pub lookup-own : {T : Type 0} (ps : List (List ℕ × T)) (k : ℕ) (p : List ℕ × T) → Rising ps → k < length ps
    → p ≡ get_or ps k p → lookup p.0 ps ≡ Some p.1
lookup-own [] k p r lt e = absurd (omega arith)
lookup-own (q ∷ qs) zero p r lt e = rw (e, (bytes_eq-Decides q.0 q.0).1 refl) refl
lookup-own (q ∷ qs) (suc k) p r lt e =
    let up : text_cmp q.0 p.0 ≡ Less = above_at q.0 qs k p r.0 (omega arith) e in
    own_at (bytes_eq q.0 p.0) q p.0 p.1 (lookup p.0 qs) (sym (is_eq-slice_cmp q.0 p.0) ∙ ap is_eq up)
    (lookup-own qs k p r.1 (omega arith) e)

pub has_more : {A T : Type 0} (r : A → T → Bool) (fs : List (List ℕ × A)) (ts us : List (List ℕ × T)) (k : ℕ)
    (p : List ℕ × T) → us ≡ ts → Rising us → k < length us → p ≡ get_or us k p
    → all_in (λ n. at_field r (lookup n fs) (lookup n ts)) (names (drop k us))
    ≡ (at_field r (lookup p.0 fs) (Some p.1)
    && all_in (λ n. at_field r (lookup n fs) (lookup n ts)) (names (drop (k + 1) us)))
has_more r fs ts us k p w h lt e =
    let own : lookup p.0 ts ≡ Some p.1 = rw (← w) (lookup-own us k p h lt e) in
    rw (drop-cons us k p lt, ← e, own, add-one) refl

pub names_differ : (ms ns : List (List ℕ)) → length ms ≢ length ns → same_names ms ns ≡ false
names_differ [] [] h = absurd (h refl)
names_differ [] (n ∷ ns) h = refl
names_differ (m ∷ ms) [] h = refl
names_differ (m ∷ ms) (n ∷ ns) h = rw (names_differ ms ns (λ e. h (ap suc e))) (and-false (bytes_eq m n))

pub length-names : {T : Type 0} (ps : List (List ℕ × T)) → length (names ps) ≡ length ps
length-names [] = refl
length-names (p ∷ ps) = ap suc (length-names ps)

pub rows_differ : {T U : Type 0} (ps : List (List ℕ × T)) (qs : List (List ℕ × U)) → length ps ≢ length qs
    → false ≡ same_names (names ps) (names qs)
rows_differ ps qs h = sym (names_differ (names ps) (names qs) (λ e. h (sym (length-names ps) ∙ e ∙ length-names qs)))

-- ---- what is wanted, by the names that are there

pub same_truth : (a b : Bool) → (IsTrue a → IsTrue b) → (IsTrue b → IsTrue a) → a ≡ b
same_truth true b f g = sym (f refl)
same_truth false true f g = g refl
same_truth false false f g = refl

at_parts : {A B : Type 0} (r : A → B → Bool) (x : Option A) (y : Option B) → IsTrue (at_field r x y)
    → IsTrue (at_shared r x y)
at_parts r None y h = refl
at_parts r (Some a) None h = refl
at_parts r (Some a) (Some b) h = h

at_there : {A B : Type 0} (r : A → B → Bool) (x : Option A) (t : B) → IsTrue (at_field r x (Some t))
    → IsTrue (is_some x)
at_there r None t h = absurd (cc)
at_there r (Some a) t h = refl

at_whole : {A B : Type 0} (r : A → B → Bool) (x : Option A) (y : Option B) → IsTrue (is_some x)
    → IsTrue (at_shared r x y) → IsTrue (at_field r x y)
at_whole r None y i h = absurd (cc)
at_whole r (Some a) None i h = refl
at_whole r (Some a) (Some b) i h = h

-- two tests of each, and what they give together
all_two : {A : Type 0} (p q s : A → Bool) (xs : List A) → ((x : A) → IsTrue (p x) → IsTrue (q x) → IsTrue (s x))
    → IsTrue (all_in p xs) → IsTrue (all_in q xs) → IsTrue (all_in s xs)
all_two p q s [] h i j = refl
all_two p q s (x ∷ xs) h i j =
    let a = and_parts (p x) (all_in p xs) i in let b = and_parts (q x) (all_in q xs) j in
    both (s x) (all_in s xs) (h x a.0 b.0) (all_two p q s xs h a.1 b.1)

some_later : {T : Type 0} (b : Bool) (v : T) (o : Option T) → IsTrue (is_some o) → IsTrue (is_some (cond b (Some v) o))
some_later true v o h = refl
some_later false v o h = h

-- a row has its own names
pub own_there : {T : Type 0} (ts : List (List ℕ × T)) → IsTrue (all_in (λ n. is_some (lookup n ts)) (names ts))
own_there [] = refl
own_there (q ∷ qs) =
    let first : is_some (lookup q.0 (q ∷ qs)) ≡ true = rw ((bytes_eq-Decides q.0 q.0).1 refl) refl in
    let rest =
    all_two (λ n. is_some (lookup n qs)) (λ n. true) (λ n. is_some (lookup n (q ∷ qs))) (names qs)
    (λ n h i. some_later (bytes_eq q.0 n) q.1 (lookup n qs) h) (own_there qs)
    (all_from (λ n. true) (names qs) (λ n. refl)) in
    both (is_some (lookup q.0 (q ∷ qs))) (all_in (λ n. is_some (lookup n (q ∷ qs))) (names qs)) first rest

at_own : {A B : Type 0} (r : A → B → Bool) (x : Option A) (y : Option B) → IsTrue (is_some y) → IsTrue (at_field r x y)
    → IsTrue (is_some x)
at_own r x None i h = absurd (cc)
at_own r x (Some t) i h = at_there r x t h

has_whole : {A B : Type 0} (r : A → B → Bool) (fs : List (List ℕ × A)) (ts : List (List ℕ × B))
    → IsTrue (all_in (λ n. is_some (lookup n fs)) (names ts)) → IsTrue (has_shared r fs ts)
    → IsTrue (has_fields r fs ts)
has_whole r fs ts i h =
    has_from r fs ts (λ n. at_none r (lookup n fs) (lookup n ts)
    (λ t e. rw e (at_found n t (lookup n fs) refl e (all_at (λ m. is_some (lookup m fs)) ts i n t e))))
  where
    at_found : (n : List ℕ) (t : _) (x : Option _) → lookup n fs ≡ x → lookup n ts ≡ Some t
        → IsTrue (is_some (lookup n fs)) → IsTrue (at_field r (lookup n fs) (Some t))
    at_found n t None e k there = absurd (cc)
    at_found n t (Some a) e k there =
        rw e (let P : Option _ → Type 0 = λ y. IsTrue (at_shared r (Some a) y) in
        subst P k (let Q : Option _ → Type 0 = λ y. IsTrue (at_shared r y (lookup n ts)) in
        subst Q e (all_at (λ m. at_shared r (lookup m fs) (lookup m ts)) fs h n a e)))

-- each wanted name is there, and what is there is taken
pub wide_parts : {A B : Type 0} (r : A → B → Bool) (fs : List (List ℕ × A)) (ts : List (List ℕ × B))
    → (all_in (λ n. is_some (lookup n fs)) (names ts) && has_shared r fs ts) ≡ has_fields r fs ts
wide_parts r fs ts =
    let there = all_in (λ n. is_some (lookup n fs)) (names ts) in
    same_truth (there && has_shared r fs ts) (has_fields r fs ts)
    (λ h. let a = and_parts there (has_shared r fs ts) h in has_whole r fs ts a.0 a.1)
    (λ h. both there (has_shared r fs ts)
    (all_two (λ n. is_some (lookup n ts)) (λ n. at_field r (lookup n fs) (lookup n ts)) (λ n. is_some (lookup n fs))
    (names ts) (λ n i k. at_own r (lookup n fs) (lookup n ts) i k) (own_there ts) h)
    (all_from _ (names fs) (λ n. at_parts r (lookup n fs) (lookup n ts) (has_at r fs ts h n))))

-- the names are those wanted, and what is there is taken
pub exact_parts : {A B : Type 0} (r : A → B → Bool) (fs : List (List ℕ × A)) (ts : List (List ℕ × B))
    → (same_names (names fs) (names ts) && has_shared r fs ts) ≡ fields_in Exact r fs ts
exact_parts r fs ts = exact_at (same_names (names fs) (names ts)) refl
  where
    exact_at : (b : Bool) → same_names (names fs) (names ts) ≡ b → (b && has_shared r fs ts) ≡ (b && has_fields r fs ts)
    exact_at false e = refl
    exact_at true e =
        let there : IsTrue (all_in (λ n. is_some (lookup n fs)) (names ts)) =
        rw (← same_names-is (names fs) (names ts) e) (own_there fs) in
        ap (λ b. b && has_shared r fs ts) (sym there) ∙ wide_parts r fs ts

pub shared_more : {A T : Type 0} (r : A → T → Bool) (fs : List (List ℕ × A)) (ts : List (List ℕ × T))
    (us : List (List ℕ × A)) (k : ℕ) (p : List ℕ × A) → us ≡ fs → Rising us → k < length us → p ≡ get_or us k p
    → all_in (λ n. at_shared r (lookup n fs) (lookup n ts)) (names (drop k us))
    ≡ (at_shared r (Some p.1) (lookup p.0 ts)
    && all_in (λ n. at_shared r (lookup n fs) (lookup n ts)) (names (drop (k + 1) us)))
shared_more r fs ts us k p w h lt e =
    let own : lookup p.0 fs ≡ Some p.1 = rw (← w) (lookup-own us k p h lt e) in
    rw (drop-cons us k p lt, ← e, own, add-one) refl
