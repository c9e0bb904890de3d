-- Classes by their places in the order listed.
use Rattle.std.proofs.Common.{◌≡◌, ◌⊎◌, inl, inr, ℕ, zero, suc, ◌+◌, ◌-◌, ◌<◌, ◌≤◌, List, [], ◌∷◌, length, drop}
use Rattle.std.proofs.Common.{reverse, slice_get, get_or, Option, Some, None, Bool, true, false, cond, IsTrue, refl}
use Rattle.std.proofs.Common.{sym, ap, ◌∙◌, subst, arith, drop-cons}
use Rattle.std.specs.Prelude.{is_some}
use Rattle.std.specs.Str.{bytes_eq}
use Rattle.std.proofs.lemmas.List.{get_or-reverse, length-reverse, length-drop}
use Rattle.std.proofs.lemmas.Option.{slice_get_within, slice_get-get_or, slice_get_cases, get_or_from_slice_get}
use Rattle.std.proofs.lemmas.Slice.Eq.{bytes_eq-Decides}
use Rattle.qc_types.specs.declared.ty.ClassDef.{ClassDef}
use Rattle.qc_types.specs.Classes.{Defs, chain, class_of, listed, parents}
use Rattle.qc_types.specs.inner.Places.{New, Within, earlier, own_chain, parent_at, parent_of, parent_place, path}
use Rattle.qc_types.specs.inner.Places.{place_of}

pub same_some : {X : Type 0} (x y : X) → ◌≡◌ {A = Option X} (Some x) (Some y) → x ≡ y
same_some x y e = let un : Option _ → _ = λ o. elim o [ Some v ↦ v | None ↦ x ] in ap un e

pub own_name : (a : List ℕ) → bytes_eq a a ≡ true
own_name a = (bytes_eq-Decides a a).1 refl

-- ---- lists read from their ends

pub last_at : {X : Type 0} (x : X) (xs : List X) → slice_get (reverse (x ∷ xs)) (length xs) ≡ Some x
last_at x xs =
    slice_get-get_or (reverse (x ∷ xs)) (length xs) x (omega (arith, length-reverse (x ∷ xs)))
    ∙ ap Some (get_or-reverse (x ∷ xs) (length xs) x (omega arith)
    ∙ ap (λ i. get_or (x ∷ xs) i x) (let e : suc (length xs) - 1 - length xs ≡ 0 = omega arith in e))

pub later_at : {X : Type 0} (x : X) (xs : List X) (n : ℕ) → n < length xs
    → slice_get (reverse (x ∷ xs)) n ≡ slice_get (reverse xs) n
later_at x xs n lt =
    slice_get-get_or (reverse (x ∷ xs)) n x (omega (arith, length-reverse (x ∷ xs)))
    ∙ ap Some (get_or-reverse (x ∷ xs) n x (omega arith)
    ∙ ap (λ i. get_or (x ∷ xs) i x) (let e : suc (length xs) - 1 - n ≡ suc (length xs - 1 - n) = omega arith in e)
    ∙ sym (get_or-reverse xs n x lt))
    ∙ sym (slice_get-get_or (reverse xs) n x (omega (arith, length-reverse xs)))

-- what is read is the last or stands before it
abbrev Read : {X : Type 0} → X → List X → ℕ → X → Type 0
Read x xs n e = ((n ≡ length xs) × (x ≡ e)) ⊎ ((n < length xs) × (slice_get (reverse xs) n ≡ Some e))

pub read_at : {X : Type 0} (x : X) (xs : List X) (n : ℕ) (e : X) → slice_get (reverse (x ∷ xs)) n ≡ Some e
    → Read x xs n e
read_at x xs n e h =
    let within : n < suc (length xs) =
    omega (arith, slice_get_within (reverse (x ∷ xs)) n e h, length-reverse (x ∷ xs)) in
    elim (slice_get_cases (reverse xs) n).1 [
      | inl w ↦ let lt : n < length xs = omega (arith, w.1, length-reverse xs) in inr (lt, sym (later_at x xs n lt) ∙ h)
      | inr w ↦ let at : n ≡ length xs = omega (arith, w.0, length-reverse xs) in
          inl (at, same_some x e (sym (last_at x xs) ∙ ap (slice_get (reverse (x ∷ xs))) (sym at) ∙ h))
    ]

-- what stands at a place that there is
pub there : {X : Type 0} (xs : List X) (n : ℕ) → n < length xs → (x : X) × (slice_get (reverse xs) n ≡ Some x)
there xs n lt =
    elim (slice_get_cases (reverse xs) n).1
    [ inl w ↦ (w.0, w.2) | inr w ↦ absurd (omega (arith, w.0, length-reverse xs)) ]

-- ---- those listed before a place

module _ (d : ClassDef) (ds : Defs) where
  pub before_later : (n : ℕ) → n ≤ length ds → earlier (d ∷ ds) n ≡ earlier ds n
  before_later n le = ap (λ k. drop k (d ∷ ds)) (let e : suc (length ds) - n ≡ suc (length ds - n) = omega arith in e)

  before_end : earlier (d ∷ ds) (suc (length ds)) ≡ d ∷ ds
  before_end = ap (λ k. drop k (d ∷ ds)) (let e : suc (length ds) - suc (length ds) ≡ 0 = omega arith in e)

pub before_all : (c : Defs) → earlier c (length c) ≡ c
before_all c = ap (λ k. drop k c) (let e : length c - length c ≡ 0 = omega arith in e)

pub length_earlier : (c : Defs) (n : ℕ) → n ≤ length c → length (earlier c n) ≡ n
length_earlier c n le = length-drop (length c - n) c ∙ (let e : length c - (length c - n) ≡ n = omega arith in e)

-- the class at a place comes first among those up to it
pub up_to : (c : Defs) (n : ℕ) (d : ClassDef) → slice_get (reverse c) n ≡ Some d → earlier c (suc n) ≡ d ∷ earlier c n
up_to c n d e =
    let lt : n < length c = omega (arith, slice_get_within (reverse c) n d e, length-reverse c) in
    let at : get_or c (length c - suc n) d ≡ d =
    ap (λ i. get_or c i d) (let i : length c - suc n ≡ length c - 1 - n = omega arith in i)
    ∙ sym (get_or-reverse c n d lt) ∙ get_or_from_slice_get (reverse c) n d d e in
    drop-cons c (length c - suc n) d (omega arith)
    ∙ (λ i. at i ∷ drop ((let k : suc (length c - suc n) ≡ length c - n = omega arith in k) i) c)

-- ---- places by name

place_case : (P : Type 0) (d : ClassDef) (ds : Defs) (a : List ℕ) (n : ℕ) (k : Bool) → bytes_eq d.name a ≡ k
    → place_of (d ∷ ds) a ≡ Some n
    → (bytes_eq d.name a ≡ true → length ds ≡ n → P) → (bytes_eq d.name a ≡ false → place_of ds a ≡ Some n → P) → P
place_case P d ds a n true e h f g =
    f e (same_some (length ds) n (let r : Some (length ds) ≡ place_of (d ∷ ds) a = rw e refl in r ∙ h))
place_case P d ds a n false e h f g = g e (let r : place_of ds a ≡ place_of (d ∷ ds) a = rw e refl in r ∙ h)

none_case : (d : ClassDef) (ds : Defs) (a : List ℕ) (k : Bool) → bytes_eq d.name a ≡ k → place_of (d ∷ ds) a ≡ None
    → (bytes_eq d.name a ≡ false) × (place_of ds a ≡ None)
none_case d ds a true e h =
    let r : Some (length ds) ≡ place_of (d ∷ ds) a = rw e refl in
    let bad : ◌≡◌ {A = Option ℕ} (Some (length ds)) None = r ∙ h in absurd (cc)
none_case d ds a false e h = (e, (let r : place_of ds a ≡ place_of (d ∷ ds) a = rw e refl in r ∙ h))

pub place_within : (c : Defs) (a : List ℕ) (n : ℕ) → place_of c a ≡ Some n → n < length c
place_within [] a n h = absurd (cc)
place_within (d ∷ ds) a n h =
    place_case (n < suc (length ds)) d ds a n (bytes_eq d.name a) refl h (λ e l. omega arith)
    (λ e p. omega (arith, place_within ds a n p))

-- the class of a name stands at its place
pub found_class : (c : Defs) (a : List ℕ) (n : ℕ) → place_of c a ≡ Some n → slice_get (reverse c) n ≡ class_of c a
found_class [] a n h = absurd (cc)
found_class (d ∷ ds) a n h =
    place_case (slice_get (reverse (d ∷ ds)) n ≡ class_of (d ∷ ds) a) d ds a n (bytes_eq d.name a) refl h
    (λ e l. ap (slice_get (reverse (d ∷ ds))) (sym l) ∙ last_at d ds
    ∙ (let r : Some d ≡ class_of (d ∷ ds) a = rw e refl in r))
    (λ e p. later_at d ds n (place_within ds a n p) ∙ found_class ds a n p
    ∙ (let r : class_of ds a ≡ class_of (d ∷ ds) a = rw e refl in r))

pub no_class : (c : Defs) (a : List ℕ) → place_of c a ≡ None → class_of c a ≡ None
no_class [] a h = refl
no_class (d ∷ ds) a h = let n = none_case d ds a (bytes_eq d.name a) refl h in rw n.0 (no_class ds a n.1)

pub listed_is : (c : Defs) (a : List ℕ) → listed c a ≡ is_some (place_of c a)
listed_is [] a = refl
listed_is (d ∷ ds) a =
    elim (bytes_eq d.name a) as (λ k. is_some (cond k (Some d) (class_of ds a))
    ≡ is_some (cond k (Some (length ds)) (place_of ds a))) [ true ↦ refl | false ↦ listed_is ds a ]

pub place_there : (o : Option ℕ) → IsTrue (is_some o) → (n : ℕ) × (o ≡ Some n)
place_there None h = absurd (cc)
place_there (Some n) h = (n, refl)

pub listed_at : (c : Defs) (a : List ℕ) (n : ℕ) → place_of c a ≡ Some n → IsTrue (listed c a)
listed_at c a n h = listed_is c a ∙ ap is_some h

pub unlisted : (c : Defs) (a : List ℕ) → place_of c a ≡ None → listed c a ≡ false
unlisted c a h = listed_is c a ∙ ap is_some h

-- ---- look-ups among those listed before a place

drop_none : (k : ℕ) (c : Defs) (a : List ℕ) → class_of c a ≡ None → class_of (drop k c) a ≡ None
drop_none zero c a h = h
drop_none (suc k) [] a h = refl
drop_none (suc k) (d ∷ ds) a h = drop_none k ds a (rest (bytes_eq d.name a) h)
  where
    rest : (b : Bool) → cond b (Some d) (class_of ds a) ≡ None → class_of ds a ≡ None
    rest true e = absurd (cc)
    rest false e = e

drop_still : (k : ℕ) (c : Defs) (a : List ℕ) (n : ℕ) → place_of c a ≡ Some n → n + k < length c
    → class_of (drop k c) a ≡ class_of c a
drop_still zero c a n h lt = refl
drop_still (suc k) [] a n h lt = refl
drop_still (suc k) (d ∷ ds) a n h lt =
    place_case (class_of (drop k ds) a ≡ class_of (d ∷ ds) a) d ds a n (bytes_eq d.name a) refl h
    (λ e l. absurd (omega arith))
    (λ e p. drop_still k ds a n p (omega arith) ∙ (let r : class_of ds a ≡ class_of (d ∷ ds) a = rw e refl in r))

gone : (o : Option ClassDef) → is_some o ≡ false → o ≡ None
gone None h = refl
gone (Some d) h = absurd (cc)

drop_gone : (k : ℕ) (c : Defs) → New c → (a : List ℕ) (n : ℕ) → place_of c a ≡ Some n → length c ≤ n + k
    → class_of (drop k c) a ≡ None
drop_gone zero c w a n h le = absurd (omega (arith, place_within c a n h))
drop_gone (suc k) [] w a n h le = refl
drop_gone (suc k) (d ∷ ds) w a n h le = place_case (class_of (drop k ds) a ≡ None) d ds a n (bytes_eq d.name a) refl h
    (λ e l. drop_none k ds a (gone (class_of ds a) (ap (listed ds) (sym ((bytes_eq-Decides d.name a).0 e)) ∙ w.0)))
    (λ e p. drop_gone k ds w.1 a n p (omega arith))

pub before_none : (c : Defs) (n : ℕ) (a : List ℕ) → place_of c a ≡ None → class_of (earlier c n) a ≡ None
before_none c n a h = drop_none (length c - n) c a (no_class c a h)

pub before_there : (c : Defs) (n m : ℕ) (a : List ℕ) → place_of c a ≡ Some m → m < n
    → class_of (earlier c n) a ≡ slice_get (reverse c) m
before_there c n m a h lt =
    drop_still (length c - n) c a m h (omega (arith, place_within c a m h)) ∙ sym (found_class c a m h)

pub before_gone : (c : Defs) → New c → (n m : ℕ) (a : List ℕ) → place_of c a ≡ Some m → n ≤ m
    → class_of (earlier c n) a ≡ None
before_gone c w n m a h le = drop_gone (length c - n) c w a m h (omega (arith, place_within c a m h))

-- ---- from a place upward

pub parent_is : (c : Defs) (n : ℕ) (d : ClassDef) → slice_get (reverse c) n ≡ Some d
    → parent_at c n ≡ parent_place (earlier c n) d.parent
parent_is c n d h = ap (parent_of (earlier c n)) h

pub place_in : (c : Defs) (a : List ℕ) → Within (length c) (place_of c a)
place_in c a = at (place_of c a) refl
  where
    at : (o : Option ℕ) → place_of c a ≡ o → Within (length c) o
    at None e = tt
    at (Some n) e = place_within c a n e

pub place_in_parent : (c : Defs) (o : Option (List ℕ)) → Within (length c) (parent_place c o)
place_in_parent c None = tt
place_in_parent c (Some p) = place_in c p

-- a parent stands before its children
pub parent_before : (c : Defs) (n : ℕ) → Within n (parent_at c n)
parent_before c n = elim (slice_get_cases (reverse c) n).1 [
  | inl w ↦ let le : n ≤ length c = omega (arith, w.1, length-reverse c) in
      subst (Within n) (sym (parent_is c n w.0 w.2))
      (subst (λ k. Within k (parent_place (earlier c n) w.0.parent)) (length_earlier c n le)
      (place_in_parent (earlier c n) w.0.parent))
  | inr w ↦ subst (Within n) (sym (ap (parent_of (earlier c n)) w.1)) tt
]

-- a parent's place is before its child's
pub less_up : (c : Defs) (n m : ℕ) → parent_at c n ≡ Some m → m < n
less_up c n m e = subst (Within n) e (parent_before c n)

pub within_less : (k m : ℕ) (o : Option ℕ) → k ≤ m → Within k o → Within m o
within_less k m None le w = tt
within_less k m (Some n) le w = omega arith

lift_path : (d : ClassDef) (ds : Defs) (o : Option ℕ) → Within (length ds) o → path (d ∷ ds) o ≡ path ds o
lift_path d ds None w = refl
lift_path d ds (Some n) w = ap own_chain (before_later d ds (suc n) w)

chain_at : (d : ClassDef) (ds : Defs) (a : List ℕ) (k : Bool) → bytes_eq d.name a ≡ k
    → chain ds a ≡ path ds (place_of ds a) → chain (d ∷ ds) a ≡ path (d ∷ ds) (place_of (d ∷ ds) a)
chain_at d ds a true e ih =
    let same : d.name ≡ a = (bytes_eq-Decides d.name a).0 e in
    let here : chain (d ∷ ds) a ≡ a ∷ parents (λ p. chain ds p) d.parent = rw e refl in
    let place : Some (length ds) ≡ place_of (d ∷ ds) a = rw e refl in
    here ∙ ap (λ n. n ∷ parents (λ p. chain ds p) d.parent) (sym same) ∙ ap own_chain (sym (before_end d ds))
    ∙ ap (path (d ∷ ds)) place
chain_at d ds a false e ih =
    let here : chain (d ∷ ds) a ≡ chain ds a = rw e refl in
    let place : place_of ds a ≡ place_of (d ∷ ds) a = rw e refl in
    here ∙ ih ∙ sym (lift_path d ds (place_of ds a) (place_in ds a)) ∙ ap (path (d ∷ ds)) place

-- the chain of a name is the path from its place
pub chain_is : (c : Defs) (a : List ℕ) → chain c a ≡ path c (place_of c a)
chain_is [] a = refl
chain_is (d ∷ ds) a = chain_at d ds a (bytes_eq d.name a) refl (chain_is ds a)

-- the path from a place among those listed before another is the same among all
earlier_path : (c : Defs) (n : ℕ) (o : Option ℕ) → n < length c → Within n o → path (earlier c n) o ≡ path c o
earlier_path [] n o lt w = absurd (omega arith)
earlier_path (d ∷ ds) n o lt w = elim (slice_get_cases ds n).1 [
  | inl u ↦ ap (λ l. path l o) (before_later d ds n (omega arith)) ∙ earlier_path ds n o u.1 w
      ∙ sym (lift_path d ds o (within_less n (length ds) o (omega (arith, u.1)) w))
  | inr u ↦ let at : n ≡ length ds = omega (arith, u.0) in
      ap (λ l. path l o) (before_later d ds n (omega arith) ∙ ap (earlier ds) at ∙ before_all ds)
      ∙ sym (lift_path d ds o (within_less n (length ds) o (omega (arith, u.0)) w))
]

ups : (c : Defs) (n : ℕ) → n < length c → (o : Option (List ℕ))
    → parents (λ p. chain (earlier c n) p) o ≡ path c (parent_place (earlier c n) o)
ups c n lt None = refl
ups c n lt (Some p) =
    let w = subst (λ k. Within k (place_of (earlier c n) p)) (length_earlier c n (omega arith))
    (place_in (earlier c n) p) in
    chain_is (earlier c n) p ∙ earlier_path c n (place_of (earlier c n) p) lt w

-- a class, and from its parent's place upward
pub path_next : (c : Defs) (n : ℕ) (d : ClassDef) → slice_get (reverse c) n ≡ Some d
    → path c (Some n) ≡ d.name ∷ path c (parent_at c n)
path_next c n d h =
    let lt : n < length c = omega (arith, slice_get_within (reverse c) n d h, length-reverse c) in
    ap own_chain (up_to c n d h) ∙ ap (λ l. d.name ∷ l) (ups c n lt d.parent ∙ ap (path c) (sym (parent_is c n d h)))
