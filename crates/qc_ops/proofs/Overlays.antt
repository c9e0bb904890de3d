-- Records in one, of which the names rise.
use Rattle.std.proofs.Common.{◌≡◌, ℕ, ◌+◌, ◌<◌, suc, List, [], ◌∷◌, ◌++◌, length, take, drop, get_or, Option, Some}
use Rattle.std.proofs.Common.{None, Bool, true, false, cond, Ordering, Less, Equal, Greater, refl, sym, subst, ap, ◌∙◌}
use Rattle.std.proofs.Common.{append_assoc, append-nil, add-one, drop-cons, zero, ◌≤◌, ◌-◌, ◌⊎◌, inl, inr, arith}
use Rattle.std.specs.Prelude.{is_some, filter}
use Rattle.std.specs.Ordering.{is_lt, is_eq, ordering_reverse}
use Rattle.std.specs.Str.{bytes_eq}
use Rattle.std.proofs.lemmas.List.{take-append-drop, take_rest}
use Rattle.std.proofs.lemmas.List.Elements.{filter_more}
use Rattle.std.proofs.lemmas.Cmp.{nat_list_cmp_total}
use Rattle.std.proofs.lemmas.Slice.Eq.{bytes_eq-Decides}
use Rattle.std.proofs.lemmas.Map.Text.{is_eq-slice_cmp}
use Rattle.qc_containers.proofs.Putting.{Rising-put, Rising-take}
use Rattle.qc_containers.specs.Pairs.{lookup, put}
use Rattle.qc_containers.specs.Rising.{text_cmp, Above, Rising}
use Rattle.qc_data.specs.declared.data.Datum.{Datum}
use Rattle.qc_ops.specs.Records.{over, put_new}

abbrev Pairs : Type 0
Pairs = List (List ℕ × Datum)

-- ---- parts of what rises

above_before : {T : Type 0} (n : List ℕ) (xs ys : List (List ℕ × T)) → Above n (xs ++ ys) → Above n xs
above_before n [] ys a = tt
above_before n (x ∷ xs) ys a = (a.0, above_before n xs ys a.1)

pub Rising-before : {T : Type 0} (xs ys : List (List ℕ × T)) → Rising (xs ++ ys) → Rising xs
Rising-before [] ys r = tt
Rising-before (x ∷ xs) ys r = (above_before x.0 xs ys r.0, Rising-before xs ys r.1)

-- the next of some that rise may go last
pub Rising-with_next : {T : Type 0} (xs ys : List (List ℕ × T)) (p : List ℕ × T) → Rising (xs ++ p ∷ ys)
    → Rising (xs ++ p ∷ [])
Rising-with_next xs ys p r = Rising-before (xs ++ p ∷ []) ys (subst Rising (sym (append_assoc xs (p ∷ []) ys)) r)

-- ---- a field put among those that rise

pub after_less : (m n : List ℕ) → text_cmp m n ≡ Less → text_cmp n m ≡ Greater
after_less m n e = nat_list_cmp_total.antisymm n m ∙ ap ordering_reverse e

pub unlike : (m n : List ℕ) (o : Ordering) → text_cmp m n ≡ o → bytes_eq m n ≡ is_eq o
unlike m n o e = sym (is_eq-slice_cmp m n) ∙ ap is_eq e

pub lookup-above : (n : List ℕ) (ps : Pairs) → Above n ps → lookup n ps ≡ None
lookup-above n [] a = refl
lookup-above n (p ∷ ps) a = rw (unlike p.0 n Greater (after_less n p.0 a.0)) (lookup-above n ps a.1)

put-above : (n : List ℕ) (v : Datum) (ps : Pairs) → Above n ps → put n v ps ≡ (n, v) ∷ ps
put-above n v [] a = refl
put-above n v (p ∷ ps) a = rw (after_less n p.0 a.0) refl

put_new-above : (n : List ℕ) (v : Datum) (ps : Pairs) → Above n ps → put_new n v ps ≡ (n, v) ∷ ps
put_new-above n v ps a = rw (lookup-above n ps a) (put-above n v ps a)

put_new-below : (n : List ℕ) (v : Datum) (p : List ℕ × Datum) (ps : Pairs) → text_cmp p.0 n ≡ Less
    → put_new n v (p ∷ ps) ≡ p ∷ put_new n v ps
put_new-below n v p ps e =
    rw (unlike p.0 n Less e, e) (elim (is_some (lookup n ps)) as (λ b. cond b (p ∷ ps) (p ∷ put n v ps)
    ≡ p ∷ cond b ps (put n v ps)) [ true ↦ refl | false ↦ refl ])

put_new-there : (n : List ℕ) (v : Datum) (p : List ℕ × Datum) (ps : Pairs) → text_cmp p.0 n ≡ Equal
    → put_new n v (p ∷ ps) ≡ p ∷ ps
put_new-there n v p ps e = rw (unlike p.0 n Equal e) refl

Above-put : (m n : List ℕ) (v : Datum) (ps : Pairs) → text_cmp m n ≡ Less → Above m ps → Above m (put n v ps)
Above-put m n v [] e a = (e, tt)
Above-put m n v (p ∷ ps) e a =
    elim (is_lt (text_cmp p.0 n)) as (λ b. Above m (cond b (p ∷ put n v ps) ((n, v) ∷ p ∷ ps)))
    [ true ↦ (a.0, Above-put m n v ps e a.1) | false ↦ (e, a) ]

Above-put_new : (m n : List ℕ) (v : Datum) (ps : Pairs) → text_cmp m n ≡ Less → Above m ps → Above m (put_new n v ps)
Above-put_new m n v ps e a =
    elim (is_some (lookup n ps)) as (λ b. Above m (cond b ps (put n v ps)))
    [ true ↦ a | false ↦ Above-put m n v ps e a ]

Rising-put_new : (n : List ℕ) (v : Datum) (ps : Pairs) (o : Option Datum) → lookup n ps ≡ o → Rising ps
    → Rising (put_new n v ps)
Rising-put_new n v ps None e r = rw e (Rising-put n v ps r e)
Rising-put_new n v ps (Some w) e r = rw e r

-- ---- one record over another

pub Above-trans : (m n : List ℕ) (ps : Pairs) → text_cmp m n ≡ Less → Above n ps → Above m ps
Above-trans m n [] e a = tt
Above-trans m n (p ∷ ps) e a = (nat_list_cmp_total.trans m n p.0 e a.0, Above-trans m n ps e a.1)

text_equal : (m n : List ℕ) → text_cmp m n ≡ Equal → m ≡ n
text_equal m n e = (bytes_eq-Decides m n).0 (unlike m n Equal e)

Above-equal : (m n : List ℕ) (ps : Pairs) → text_cmp m n ≡ Equal → Above n ps → Above m ps
Above-equal m n ps e a = subst (λ k. Above k ps) (sym (text_equal m n e)) a

Above-over : (n : List ℕ) (fs gs : Pairs) → Above n fs → Above n gs → Above n (over fs gs)
Above-over n [] gs a b = b
Above-over n (f ∷ fs) gs a b = Above-put_new n f.0 f.1 (over fs gs) a.0 (Above-over n fs gs a.1 b)

pub Rising-over : (fs gs : Pairs) → Rising gs → Rising (over fs gs)
Rising-over [] gs r = r
Rising-over (f ∷ fs) gs r = Rising-put_new f.0 f.1 (over fs gs) (lookup f.0 (over fs gs)) refl (Rising-over fs gs r)

over-second : (fs : Pairs) (g : List ℕ × Datum) (gs : Pairs) → Above g.0 fs → over fs (g ∷ gs) ≡ g ∷ over fs gs
over-second [] g gs a = refl
over-second (f ∷ fs) g gs a = ap (put_new f.0 f.1) (over-second fs g gs a.1) ∙ put_new-below f.0 f.1 g (over fs gs) a.0

-- by how the first names compare
pub over-less : (f g : List ℕ × Datum) (fs gs : Pairs) → text_cmp f.0 g.0 ≡ Less → Rising (f ∷ fs) → Rising (g ∷ gs)
    → over (f ∷ fs) (g ∷ gs) ≡ f ∷ over fs (g ∷ gs)
over-less f g fs gs e r s =
    put_new-above f.0 f.1 (over fs (g ∷ gs)) (Above-over f.0 fs (g ∷ gs) r.0 (e, Above-trans f.0 g.0 gs e s.0))

pub over-equal : (f g : List ℕ × Datum) (fs gs : Pairs) → text_cmp f.0 g.0 ≡ Equal → Rising (f ∷ fs)
    → over (f ∷ fs) (g ∷ gs) ≡ over fs (g ∷ gs)
over-equal f g fs gs e r =
    let back : text_cmp g.0 f.0 ≡ Equal = nat_list_cmp_total.antisymm g.0 f.0 ∙ ap ordering_reverse e in
    let above : Above g.0 fs = Above-equal g.0 f.0 fs back r.0 in
    ap (put_new f.0 f.1) (over-second fs g gs above) ∙ put_new-there f.0 f.1 g (over fs gs) back
    ∙ sym (over-second fs g gs above)

pub over-greater : (f g : List ℕ × Datum) (fs gs : Pairs) → text_cmp f.0 g.0 ≡ Greater → Rising (f ∷ fs)
    → over (f ∷ fs) (g ∷ gs) ≡ g ∷ over (f ∷ fs) gs
over-greater f g fs gs e r =
    let up : text_cmp g.0 f.0 ≡ Less = nat_list_cmp_total.antisymm g.0 f.0 ∙ ap ordering_reverse e in
    over-second (f ∷ fs) g gs (up, Above-trans g.0 f.0 fs up r.0)

pub over-nil : (fs : Pairs) → Rising fs → over fs [] ≡ fs
over-nil [] r = refl
over-nil (f ∷ fs) r = ap (put_new f.0 f.1) (over-nil fs r.1) ∙ put_new-above f.0 f.1 fs r.0

pub over-none : (fs gs : Pairs) → length gs ≡ 0 → Rising fs → over fs gs ≡ fs
over-none fs [] e r = over-nil fs r
over-none fs (g ∷ gs) e r = absurd (omega arith)

pub none-over : (fs gs : Pairs) → length fs ≡ 0 → over fs gs ≡ gs
none-over [] gs e = refl
none-over (f ∷ fs) gs e = absurd (omega arith)

pub ruleset over_none = (over-none, none-over)

-- ---- two records gone through together, from places i and j on

Above-drop : (n : List ℕ) (i : ℕ) (ps : Pairs) → Above n ps → Above n (drop i ps)
Above-drop n zero ps a = a
Above-drop n (suc i) [] a = tt
Above-drop n (suc i) (p ∷ ps) a = Above-drop n i ps a.1

pub Rising-drop : (i : ℕ) (ps : Pairs) → Rising ps → Rising (drop i ps)
Rising-drop zero ps r = r
Rising-drop (suc i) [] r = tt
Rising-drop (suc i) (p ∷ ps) r = Rising-drop i ps r.1

pub from_place : {X : Type 0} (ps : List X) (i : ℕ) (p : X) → i < length ps → p ≡ get_or ps i p
    → drop i ps ≡ p ∷ drop (i + 1) ps
from_place ps i p lt at = drop-cons ps i p lt ∙ (λ k. sym at k ∷ drop (sym (add-one i) k) ps)

pub next-less : (fs gs : Pairs) (i j : ℕ) (f g : List ℕ × Datum) → Rising fs → Rising gs → i < length fs → j < length gs
    → f ≡ get_or fs i f → g ≡ get_or gs j g → text_cmp f.0 g.0 ≡ Less
    → over (drop i fs) (drop j gs) ≡ f ∷ over (drop (i + 1) fs) (drop j gs)
next-less fs gs i j f g r s lt lt' at at' e =
    let mine = from_place fs i f lt at in
    let theirs = from_place gs j g lt' at' in
    rw (mine, theirs) (over-less f g (drop (i + 1) fs) (drop (j + 1) gs) e (subst Rising mine (Rising-drop i fs r))
    (subst Rising theirs (Rising-drop j gs s)))

pub next-equal : (fs gs : Pairs) (i j : ℕ) (f g : List ℕ × Datum) → Rising fs → i < length fs → j < length gs
    → f ≡ get_or fs i f → g ≡ get_or gs j g → text_cmp f.0 g.0 ≡ Equal
    → over (drop i fs) (drop j gs) ≡ over (drop (i + 1) fs) (drop j gs)
next-equal fs gs i j f g r lt lt' at at' e =
    let mine = from_place fs i f lt at in
    let theirs = from_place gs j g lt' at' in
    rw (mine, theirs) (over-equal f g (drop (i + 1) fs) (drop (j + 1) gs) e (subst Rising mine (Rising-drop i fs r)))

pub next-greater : (fs gs : Pairs) (i j : ℕ) (f g : List ℕ × Datum) → Rising fs → i < length fs → j < length gs
    → f ≡ get_or fs i f → g ≡ get_or gs j g → text_cmp f.0 g.0 ≡ Greater
    → over (drop i fs) (drop j gs) ≡ g ∷ over (drop i fs) (drop (j + 1) gs)
next-greater fs gs i j f g r lt lt' at at' e =
    let mine = from_place fs i f lt at in
    let theirs = from_place gs j g lt' at' in
    rw (mine, theirs) (over-greater f g (drop (i + 1) fs) (drop (j + 1) gs) e (subst Rising mine (Rising-drop i fs r)))

-- the next field may go last, and then what is left follows it
pub may_go_last : (whole all rest left : Pairs) (p : List ℕ × Datum) → Rising whole → whole ≡ all ++ left
    → left ≡ p ∷ rest → Rising (all ++ p ∷ [])
may_go_last whole all rest left p r e is = Rising-with_next all rest p (subst Rising (e ∙ ap (λ l. all ++ l) is) r)

pub gone_last : (whole all rest left next : Pairs) (p : List ℕ × Datum) → whole ≡ all ++ left → left ≡ p ∷ rest
    → next ≡ all ++ p ∷ [] → whole ≡ next ++ rest
gone_last whole all rest left next p e is made =
    e ∙ ap (λ l. all ++ l) is ∙ sym (append_assoc all (p ∷ []) rest) ∙ ap (λ l. l ++ rest) (sym made)

-- where one record has ended the other follows
pub past : {X : Type 0} (ps : List X) (i : ℕ) → length ps ≤ i → drop i ps ≡ []
past [] zero h = refl
past [] (suc i) h = refl
past (p ∷ ps) zero h = absurd (omega arith)
past (p ∷ ps) (suc i) h = past ps i (omega arith)

pub ended : (fs gs : Pairs) (i j : ℕ) → Rising fs → (length fs ≤ i) ⊎ (length gs ≤ j)
    → over (drop i fs) (drop j gs) ≡ drop i fs ++ drop j gs
ended fs gs i j r (inl h) = rw (past fs i h) refl
ended fs gs i j r (inr h) = rw (past gs j h) (over-nil (drop i fs) (Rising-drop i fs r) ∙ sym (append-nil (drop i fs)))

-- ---- parts of a record

-- one field more of some that rise behind others
pub Rising-more : (done ps all : Pairs) (i : ℕ) (p : List ℕ × Datum) → Rising (done ++ ps) → i < length ps
    → p ≡ get_or ps i p → all ≡ done ++ take i ps → Rising (all ++ p ∷ [])
Rising-more done ps all i p r lt at is =
    let parts : take i ps ++ p ∷ drop (i + 1) ps ≡ ps =
    ap (λ l. take i ps ++ l) (sym (from_place ps i p lt at)) ∙ take-append-drop i ps in
    Rising-with_next all (drop (i + 1) ps) p
    (subst Rising (ap (λ l. done ++ l) (sym parts) ∙ sym (append_assoc done (take i ps) (p ∷ drop (i + 1) ps))
    ∙ ap (λ l. l ++ p ∷ drop (i + 1) ps) (sym is)) r)

Above-filter : (test : List ℕ × Datum → Bool) (n : List ℕ) (ps : Pairs) → Above n ps → Above n (filter test ps)
Above-filter test n [] a = tt
Above-filter test n (p ∷ ps) a =
    elim (test p) as (λ b. Above n (cond b (p ∷ filter test ps) (filter test ps)))
    [ true ↦ (a.0, Above-filter test n ps a.1) | false ↦ Above-filter test n ps a.1 ]

Rising-filter : (test : List ℕ × Datum → Bool) (ps : Pairs) → Rising ps → Rising (filter test ps)
Rising-filter test [] r = tt
Rising-filter test (p ∷ ps) r =
    elim (test p) as (λ b. Rising (cond b (p ∷ filter test ps) (filter test ps)))
    [ true ↦ (Above-filter test p.0 ps r.0, Rising-filter test ps r.1) | false ↦ Rising-filter test ps r.1 ]

-- one field more of those that pass the test
pub Rising-filter_more : (test : List ℕ × Datum → Bool) (ps part : Pairs) (i : ℕ) (p : List ℕ × Datum) → Rising ps
    → i < length ps → p ≡ get_or ps i p → test p ≡ true → part ≡ filter test (take i ps) → Rising (part ++ p ∷ [])
Rising-filter_more test ps part i p r lt at pass is =
    let passed : test (get_or ps i p) ≡ true = ap test (sym at) ∙ pass in
    let more : filter test (take (i + 1) ps) ≡ part ++ p ∷ [] =
    filter_more test ps i p lt ∙ rw (passed, ← at, ← is) refl in
    subst Rising more (Rising-filter test (take (i + 1) ps) (Rising-take (i + 1) ps r))

-- ---- the ends of both put last, where one record has ended

module _ (fs gs all : Pairs) (i j : ℕ) (r : Rising fs) (s : Rising gs) (one : (length fs ≤ i) ⊎ (length gs ≤ j))
    (so_far : over fs gs ≡ all ++ over (drop i fs) (drop j gs)) where
  whole : over fs gs ≡ (all ++ drop i fs) ++ drop j gs
  whole = so_far ∙ ap (λ l. all ++ l) (ended fs gs i j r one) ∙ sym (append_assoc all (drop i fs) (drop j gs))

  pub Rising-last_left : Rising (all ++ take (length fs - i) (drop i fs))
  Rising-last_left =
      rw (take_rest fs i) (Rising-before (all ++ drop i fs) (drop j gs) (subst Rising whole (Rising-over fs gs s)))

  pub Rising-last_right : (next : Pairs) → next ≡ all ++ take (length fs - i) (drop i fs)
      → Rising (next ++ take (length gs - j) (drop j gs))
  Rising-last_right next e = rw (e, take_rest fs i, take_rest gs j) (subst Rising whole (Rising-over fs gs s))

  pub last_is : (next made : Pairs) → next ≡ all ++ take (length fs - i) (drop i fs)
      → made ≡ next ++ take (length gs - j) (drop j gs) → made ≡ over fs gs
  last_is next made e e' = e' ∙ rw (e, take_rest fs i, take_rest gs j) (sym whole)

-- what texts compare as is what names compare as
pub compared_as : (o : Ordering) (s t m n : List ℕ) → o ≡ text_cmp s t → s ≡ m → t ≡ n → text_cmp m n ≡ o
compared_as o s t m n e p q = (λ i. text_cmp (sym p i) (sym q i)) ∙ sym e
