-- Walks from place to place upward.
use Rattle.std.proofs.Common.{◌≡◌, ◌≢◌, inl, inr, ℕ, zero, suc, ◌-◌, ◌<◌, ◌≤◌, List, [], ◌∷◌, length, drop, reverse}
use Rattle.std.proofs.Common.{slice_get, Option, Some, None, Bool, true, false, ◌||◌, cond, IsTrue, refl, sym, ap, ◌∙◌}
use Rattle.std.proofs.Common.{subst, arith}
use Rattle.std.specs.Prelude.{nat_eq, option_map}
use Rattle.std.specs.Str.{bytes_eq}
use Rattle.std.proofs.lemmas.Bool.Decides.{eqb_tells}
use Rattle.std.proofs.lemmas.Option.{slice_get_cases}
use Rattle.std.proofs.lemmas.Slice.Eq.{bytes_eq-Decides}
use Rattle.qc_types.specs.declared.ty.ClassDef.{ClassDef}
use Rattle.qc_types.specs.Classes.{Defs, below, chain, class_of, common, first_above, is_in, listed}
use Rattle.qc_types.specs.inner.Places.{New, earlier, first_in, is_some_in, name_at, on_path, own_chain, parent_at}
use Rattle.qc_types.specs.inner.Places.{path, place_of}
use Rattle.qc_types.proofs.ClassLaws.{above_listed, along_new, other}
use Rattle.qc_types.proofs.Places.{chain_is, found_class, length_earlier, listed_at, listed_is, own_name, path_next}
use Rattle.qc_types.proofs.Places.{place_there, place_within, read_at, same_some, there, unlisted}

-- ---- names and places

named_at : (x : ClassDef) (xs : Defs) (a : List ℕ) (d : ClassDef) (k : Bool) → bytes_eq x.name a ≡ k
    → (class_of xs a ≡ Some d → bytes_eq d.name a ≡ true) → cond k (Some x) (class_of xs a) ≡ Some d
    → bytes_eq d.name a ≡ true
named_at x xs a d true e later i = ap (λ y. bytes_eq y.name a) (sym (same_some x d i)) ∙ e
named_at x xs a d false e later i = later i

named : (c : Defs) (a : List ℕ) (d : ClassDef) → class_of c a ≡ Some d → bytes_eq d.name a ≡ true
named [] a d h = absurd (cc)
named (x ∷ xs) a d h = named_at x xs a d (bytes_eq x.name a) refl (named xs a d) h

-- where names do not repeat, a class's place is its name's
place_own : (c : Defs) → New c → (n : ℕ) (d : ClassDef) → slice_get (reverse c) n ≡ Some d → place_of c d.name ≡ Some n
place_own [] w n d h = absurd (cc)
place_own (x ∷ xs) w n d h = elim (read_at x xs n d h) [
  | inl u ↦ let r : place_of (x ∷ xs) x.name ≡ Some (length xs) = rw (own_name x.name) refl in
      ap (λ y. place_of (x ∷ xs) y.name) (sym u.1) ∙ r ∙ ap Some (sym u.0)
  | inr u ↦ let p = place_own xs w.1 n d u.1 in
      let k = other x xs d.name w.0 (listed_at xs d.name n p) (bytes_eq x.name d.name) refl in
      (let r : place_of (x ∷ xs) d.name ≡ place_of xs d.name = rw k refl in r) ∙ p
]

not_here : (c : Defs) → New c → (n m : ℕ) (d : ClassDef) (b : List ℕ) → slice_get (reverse c) n ≡ Some d
    → place_of c b ≡ Some m → n ≢ m → bytes_eq d.name b ≡ false
not_here c w n m d b at p ne = test (bytes_eq d.name b) refl
  where
    test : (k : Bool) → bytes_eq d.name b ≡ k → k ≡ false
    test true e =
        absurd (ne (same_some n m (sym (place_own c w n d at) ∙ ap (place_of c) ((bytes_eq-Decides d.name b).0 e) ∙ p)))
    test false e = refl

-- ---- whether one is above another

-- nothing is below a class that is not listed
pub never : (c : Defs) (a b : List ℕ) → place_of c b ≡ None → below c a b ≡ false
never c a b p = test (below c a b) refl
  where
    test : (k : Bool) → below c a b ≡ k → k ≡ false
    test true e = let bad : true ≡ false = sym (above_listed c a b e) ∙ unlisted c b p in absurd (cc)
    test false e = refl

-- ---- the first of one path that is on another

in_own : (es : Defs) (b : List ℕ) → IsTrue (is_in b (own_chain es)) → IsTrue (listed es b)
in_own [] b h = absurd (cc)
in_own (d ∷ ds) b h =
    let is : own_chain (d ∷ ds) ≡ chain (d ∷ ds) d.name = rw (own_name d.name) refl in
    above_listed (d ∷ ds) d.name b (ap (is_in b) (sym is) ∙ h)

lift_place : (k : ℕ) (c : Defs) → New c → (b : List ℕ) (q : ℕ) → place_of (drop k c) b ≡ Some q → place_of c b ≡ Some q
lift_place zero c w b q h = h
lift_place (suc k) [] w b q h = absurd (cc)
lift_place (suc k) (d ∷ ds) w b q h =
    let p = lift_place k ds w.1 b q h in
    let e = other d ds b w.0 (listed_at ds b q p) (bytes_eq d.name b) refl in
    (let r : place_of (d ∷ ds) b ≡ place_of ds b = rw e refl in r) ∙ p

-- names along a path have places up to its first
in_path : (c : Defs) → New c → (y : ℕ) (b : List ℕ) → y < length c → IsTrue (is_in b (path c (Some y)))
    → (q : ℕ) × (place_of c b ≡ Some q) × (q < suc y)
in_path c w y b lt h =
    let es = earlier c (suc y) in
    let p = place_there (place_of es b) (sym (listed_is es b) ∙ in_own es b h) in (
      p.0,
      lift_place (length c - suc y) c w b p.0 p.1,
      subst (λ k. p.0 < k) (length_earlier c (suc y) (omega arith)) (place_within es b p.0 p.1),
    )

apart : (c : Defs) → New c → (x y : ℕ) (d : ClassDef) → slice_get (reverse c) x ≡ Some d → y < length c → y < x
    → is_in d.name (path c (Some y)) ≡ false
apart c w x y d at ly less = test (is_in d.name (path c (Some y))) refl
  where
    test : (k : Bool) → is_in d.name (path c (Some y)) ≡ k → k ≡ false
    test true e = let i = in_path c w y d.name ly e in
        let same : x ≡ i.0 = same_some x i.0 (sym (place_own c w x d at) ∙ i.1) in absurd (omega (arith, i.2))
    test false e = refl

first_none : (ns : List (List ℕ)) → first_in [] ns ≡ None
first_none [] = refl
first_none (n ∷ ns) = first_none ns

-- ---- the path from a place, class by class

name_here : (c : Defs) (n : ℕ) (d : ClassDef) → slice_get (reverse c) n ≡ Some d → name_at c (Some n) ≡ Some d.name
name_here c n d at = ap (option_map (λ (k : ClassDef). k.name)) at

pub on_is : (c : Defs) (m : ℕ) (d : ClassDef) (o : Option ℕ) → slice_get (reverse c) m ≡ Some d
    → on_path c m o ≡ is_in d.name (path c o)
on_is c m d o at = ap (λ n. is_some_in n (path c o)) (name_here c m d at)

-- past the end there is no class
on_none : (c : Defs) (m : ℕ) (o : Option ℕ) → slice_get (reverse c) m ≡ None → on_path c m o ≡ false
on_none c m o e = ap (λ d. is_some_in (option_map (λ (k : ClassDef). k.name) d) (path c o)) e

pub on_end : (c : Defs) (m : ℕ) → on_path c m None ≡ false
on_end c m = at (name_at c (Some m))
  where
    at : (o : Option (List ℕ)) → is_some_in o [] ≡ false
    at None = refl
    at (Some n) = refl

-- the class of a name is on a path where the name is
pub on_name : (c : Defs) (b : List ℕ) (m : ℕ) (o : Option ℕ) → place_of c b ≡ Some m
    → on_path c m o ≡ is_in b (path c o)
on_name c b m o p =
    let d = there c m (place_within c b m p) in
    let same : d.0.name ≡ b =
    (bytes_eq-Decides d.0.name b).0 (named c b d.0 (sym (found_class c b m p) ∙ d.1)) in
    on_is c m d.0 o d.1 ∙ ap (λ n. is_in n (path c o)) same

pub on_here : (c : Defs) (n : ℕ) → n < length c → on_path c n (Some n) ≡ true
on_here c n lt =
    let d = there c n lt in
    on_is c n d.0 (Some n) d.1 ∙ ap (is_in d.0.name) (path_next c n d.0 d.1)
    ∙ ap (λ k. k || is_in d.0.name (path c (parent_at c n))) (own_name d.0.name)

module _ (c : Defs) (w : New c) (m n : ℕ) (lt : n < length c) where
  -- the path from another class than the one at m meets that where the path from its parent does
  pub on_up : n ≢ m → on_path c m (Some n) ≡ on_path c m (parent_at c n)
  on_up ne = elim (slice_get_cases (reverse c) m).1 [
    | inl u ↦
        let d = there c n lt in
        let l = path c (parent_at c n) in
        on_is c m u.0 (Some n) u.2 ∙ ap (is_in u.0.name) (path_next c n d.0 d.1)
        ∙ ap (λ k. k || is_in u.0.name l) (not_here c w n m d.0 u.0.name d.1 (place_own c w m u.0 u.2) ne)
        ∙ sym (on_is c m u.0 (parent_at c n) u.2)
    | inr u ↦ on_none c m (Some n) u.1 ∙ sym (on_none c m (parent_at c n) u.1)
  ]

  -- a path has no class that stands after its first
  pub on_later : n < m → on_path c m (Some n) ≡ false
  on_later less = elim (slice_get_cases (reverse c) m).1 [
    | inl u ↦ on_is c m u.0 (Some n) u.2 ∙ apart c w m n u.0 u.2 lt less
    | inr u ↦ on_none c m (Some n) u.1
  ]

  -- the class at m is on a path from a place that is not after it where it is that place
  pub on_found : (whole : Bool) → whole ≡ on_path c m (Some n) → n ≤ m → nat_eq n m ≡ whole
  on_found whole left le = elim (eqb_tells n m) [
    | inl e ↦ e.0 ∙ sym (left ∙ ap (λ k. on_path c k (Some n)) (sym e.1) ∙ on_here c n lt)
    | inr e ↦ let less : n < m = omega (arith, le, e.1) in e.0 ∙ sym (left ∙ on_later less)
  ]

own_path : (c : Defs) → New c → (n : ℕ) (d : ClassDef) → slice_get (reverse c) n ≡ Some d
    → chain c d.name ≡ path c (Some n)
own_path c w n d at = chain_is c d.name ∙ ap (path c) (place_own c w n d at)

-- what is above a class of a path is on that path
pub on_trans : (c : Defs) → New c → (m n b : ℕ) → n < length c → b < length c → on_path c n (Some b) ≡ true
    → on_path c m (Some n) ≡ true → on_path c m (Some b) ≡ true
on_trans c w m n b ln lb h i = elim (slice_get_cases (reverse c) m).1 [
  | inl u ↦
      let x = there c n ln in
      let y = there c b lb in
      let one : IsTrue (below c y.0.name x.0.name) =
      ap (is_in x.0.name) (own_path c w b y.0 y.1) ∙ sym (on_is c n x.0 (Some b) x.1) ∙ h in
      let two : IsTrue (below c x.0.name u.0.name) =
      ap (is_in u.0.name) (own_path c w n x.0 x.1) ∙ sym (on_is c m u.0 (Some n) u.2) ∙ i in
      on_is c m u.0 (Some b) u.2 ∙ sym (ap (is_in u.0.name) (own_path c w b y.0 y.1))
      ∙ along_new c w y.0.name x.0.name u.0.name one two
  | inr u ↦ let bad : false ≡ true = sym (on_none c m (Some n) u.1) ∙ i in absurd (cc)
]

module _ (c : Defs) (n b : ℕ) (lt : n < length c) where
  first_next : (k : Bool) → on_path c n (Some b) ≡ k → first_in (path c (Some b)) (path c (Some n))
      ≡ cond k (name_at c (Some n)) (first_in (path c (Some b)) (path c (parent_at c n)))
  first_next k h =
      let d = there c n lt in
      let ms = path c (Some b) in
      let rest = first_in ms (path c (parent_at c n)) in
      ap (first_in ms) (path_next c n d.0 d.1)
      ∙ (λ i. cond ((sym (on_is c n d.0 (Some b) d.1) ∙ h) i) (sym (name_here c n d.0 d.1) i) rest)

  -- a class that is not on the path from b is passed over
  pub first_up : on_path c n (Some b) ≡ false → first_in (path c (Some b)) (path c (Some n))
      ≡ first_in (path c (Some b)) (path c (parent_at c n))
  first_up h = first_next false h

  pub met : on_path c n (Some b) ≡ true → name_at c (Some n) ≡ first_in (path c (Some b)) (path c (Some n))
  met h = sym (first_next true h)

-- ---- the first name that two chains share

first_is : (c : Defs) (m : List ℕ) (ns : List (List ℕ)) → first_above c m ns ≡ first_in (chain c m) ns
first_is c m [] = refl
first_is c m (n ∷ ns) = ap (λ o. cond (below c m n) (Some n) o) (first_is c m ns)

module _ (c : Defs) (a b : List ℕ) (differ : bytes_eq a b ≡ false) where
  common_is : common c a b ≡ first_in (path c (place_of c b)) (path c (place_of c a))
  common_is =
      let r : common c a b ≡ first_above c b (chain c a) = rw differ refl in
      r ∙ first_is c b (chain c a) ∙ (λ i. first_in (chain_is c b i) (chain_is c a i))

  pub common_at : (n m : ℕ) → place_of c a ≡ Some n → place_of c b ≡ Some m
      → common c a b ≡ first_in (path c (Some m)) (path c (Some n))
  common_at n m p q = common_is ∙ (λ i. first_in (path c (q i)) (path c (p i)))

  pub no_first : place_of c a ≡ None → None ≡ common c a b
  no_first p = sym (common_is ∙ ap (λ o. first_in (path c (place_of c b)) (path c o)) p)

  pub no_second : place_of c b ≡ None → None ≡ common c a b
  no_second q =
      sym (common_is ∙ ap (λ o. first_in (path c o) (path c (place_of c a))) q ∙ first_none (path c (place_of c a)))
