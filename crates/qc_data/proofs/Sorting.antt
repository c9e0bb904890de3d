-- A stable sort by a total order has one result, which insertion gives.
use Rattle.std.proofs.Common.{◌≡◌, ℕ, ◌+◌, List, [], ◌∷◌, get_or, Bool, true, false, cond, not, ◌&&◌, Ordering, Less}
use Rattle.std.proofs.Common.{Equal, Greater, refl, sym, ap, ◌∙◌, arith, add-one}
use Rattle.std.specs.Cmp.{IsTotalOrder, upto, alike_right, tied_itself}
use Rattle.std.specs.List.{filter}
use Rattle.std.specs.List.Sorted.{IsSorted, IsStable, ties}
use Rattle.std.specs.Ordering.{is_lt, is_gt, is_eq, ordering_reverse}
use Rattle.qc_data.specs.Order.{insert_by, sort_by}
use Rattle.qc_containers.proofs.Truth.{is_Equal}

module _ {X : Type 0} (R : X → X → Ordering) (o : IsTotalOrder R) where
  abbrev UpTo : X → List X → Type 0
  UpTo x [] = Unit {0}
  UpTo x (y ∷ ys) = (is_gt (R x y) ≡ false) × UpTo x ys

  abbrev Sorted : List X → Type 0
  Sorted [] = Unit {0}
  Sorted (x ∷ xs) = UpTo x xs × Sorted xs

  abbrev pub tied : X → X → Bool
  tied z x = is_eq (R z x)

  -- ---- from the index form
  turned : (x y : X) (r : Ordering) → R y x ≡ r → is_lt r ≡ false → is_gt (R x y) ≡ false
  turned x y Less e h = absurd (cc)
  turned x y Equal e h = ap is_gt (o.antisymm x y ∙ ap ordering_reverse e)
  turned x y Greater e h = ap is_gt (o.antisymm x y ∙ ap ordering_reverse e)

  UpTo-more : (x y : X) (ys : List X) → is_gt (R x y) ≡ false → UpTo y ys → UpTo x ys
  UpTo-more x y [] h u = tt
  UpTo-more x y (z ∷ zs) h u = (upto o x y z h u.0, UpTo-more x y zs h u.1)

  one_on : (x : X) (xs : List X) (n : ℕ) (d : X) → get_or (x ∷ xs) (n + 1) d ≡ get_or xs n d
  one_on x xs n d = rw add-one refl

  IsSorted-tail : (x : X) (xs : List X) → IsSorted R (x ∷ xs) → IsSorted R xs
  IsSorted-tail x xs s k d low h =
      let t : is_lt (R (get_or (x ∷ xs) (k + 1 + 1) d) (get_or (x ∷ xs) (k + 1) d))
      ≡ false = s (k + 1) d (omega arith) (omega arith) in
      let a = one_on x xs (k + 1) d in let b = one_on x xs k d in sym (λ i. is_lt (R (a i) (b i))) ∙ t

  pub from_IsSorted : (xs : List X) → IsSorted R xs → Sorted xs
  from_IsSorted [] s = tt
  from_IsSorted (x ∷ []) s = (tt, tt)
  from_IsSorted (x ∷ y ∷ ys) s =
      let rest : Sorted (y ∷ ys) = from_IsSorted (y ∷ ys) (IsSorted-tail x (y ∷ ys) s) in
      let first : is_gt (R x y) ≡ false = turned x y (R y x) refl (s 0 x (omega arith) (omega arith)) in
      ((first, UpTo-more x y ys first rest.0), rest)

  -- ---- what ties
  tie_is : (r s : Ordering) → r ≡ ordering_reverse s → (not (is_lt s) && not (is_lt r)) ≡ is_eq s
  tie_is r Less e = refl
  tie_is r Equal e = rw e refl
  tie_is r Greater e = rw e refl

  ties_are : (z : X) → ties (λ x y. is_lt (R x y)) z ≡ tied z
  ties_are z = λ i x. tie_is (R x z) (R z x) (o.antisymm x z) i

  abbrev Kin : List X → List X → Type 0
  Kin xs ys = (z : X) → filter (tied z) xs ≡ filter (tied z) ys

  pub from_IsStable : (xs ys : List X) → IsStable R xs ys → (z : X) → filter (tied z) ys ≡ filter (tied z) xs
  from_IsStable xs ys s z = rw (← ties_are z) (s z)

  -- ---- insertion
  UpTo-insert : (z x : X) (ys : List X) → is_gt (R z x) ≡ false → UpTo z ys → UpTo z (insert_by R x ys)
  UpTo-insert z x [] h u = (h, tt)
  UpTo-insert z x (y ∷ ys) h u =
      elim (is_gt (R x y)) as (λ b. UpTo z (cond b (y ∷ insert_by R x ys) (x ∷ y ∷ ys)))
      [ true ↦ (u.0, UpTo-insert z x ys h u.1) | false ↦ (h, u) ]

  gt_back : (x y : X) → is_gt (R x y) ≡ true → is_gt (R y x) ≡ false
  gt_back x y e = let t : R y x ≡ ordering_reverse (R x y) = o.antisymm y x in gt_turned (R x y) (R y x) t e
    where
      gt_turned : (r s : Ordering) → s ≡ ordering_reverse r → is_gt r ≡ true → is_gt s ≡ false
      gt_turned Less s e h = absurd (cc)
      gt_turned Equal s e h = absurd (cc)
      gt_turned Greater s e h = rw e refl

  Sorted-insert-at : (b : Bool) (x y : X) (ys : List X) → is_gt (R x y) ≡ b → Sorted (y ∷ ys)
      → Sorted (insert_by R x ys) → Sorted (insert_by R x (y ∷ ys))
  Sorted-insert-at true x y ys e s ih = rw e (UpTo-insert y x ys (gt_back x y e) s.0, ih)
  Sorted-insert-at false x y ys e s ih = rw e ((e, UpTo-more x y ys e s.0), s)

  Sorted-insert : (x : X) (ys : List X) → Sorted ys → Sorted (insert_by R x ys)
  Sorted-insert x [] s = (tt, tt)
  Sorted-insert x (y ∷ ys) s = Sorted-insert-at (is_gt (R x y)) x y ys refl s (Sorted-insert x ys s.1)

  pub Sorted-sort : (xs : List X) → Sorted (sort_by R xs)
  Sorted-sort [] = tt
  Sorted-sort (x ∷ xs) = Sorted-insert x (sort_by R xs) (Sorted-sort xs)

  -- two that are apart do not both tie with z
  swapped : (a b : Bool) (x y : X) (l : List X) → (a ≡ true → b ≡ true → ⊥)
      → cond b (y ∷ cond a (x ∷ l) l) (cond a (x ∷ l) l) ≡ cond a (x ∷ cond b (y ∷ l) l) (cond b (y ∷ l) l)
  swapped true true x y l h = absurd (h refl refl)
  swapped true false x y l h = refl
  swapped false b x y l h = refl

  apart : (z x y : X) → is_gt (R x y) ≡ true → tied z x ≡ true → tied z y ≡ true → ⊥
  apart z x y g p q =
      let a : R z x ≡ Equal = is_Equal (R z x) p in
      let b : R z y ≡ Equal = is_Equal (R z y) q in
      let c : R x y ≡ Equal = sym (o.congr z x y a) ∙ b in
      let d : true ≡ is_gt (R x y) = sym g in
      let e : is_gt (R x y) ≡ false = ap is_gt c in
      cc

  kept-at : (b : Bool) (z x y : X) (ys : List X) → is_gt (R x y) ≡ b
      → filter (tied z) (insert_by R x ys) ≡ filter (tied z) (x ∷ ys)
      → filter (tied z) (insert_by R x (y ∷ ys)) ≡ filter (tied z) (x ∷ y ∷ ys)
  kept-at true z x y ys e ih = rw (e, ih) (swapped (tied z x) (tied z y) x y (filter (tied z) ys) (apart z x y e))
  kept-at false z x y ys e ih = rw e refl

  kept : (z x : X) (ys : List X) → filter (tied z) (insert_by R x ys) ≡ filter (tied z) (x ∷ ys)
  kept z x [] = refl
  kept z x (y ∷ ys) = kept-at (is_gt (R x y)) z x y ys refl (kept z x ys)

  pub kept-sort : (z : X) (xs : List X) → filter (tied z) (sort_by R xs) ≡ filter (tied z) xs
  kept-sort z [] = refl
  kept-sort z (x ∷ xs) = kept z x (sort_by R xs) ∙ ap (λ l. cond (tied z x) (x ∷ l) l) (kept-sort z xs)

  -- ---- one result
  still : (x y z : X) (r : Ordering) → R x y ≡ Less → R y z ≡ r → is_gt r ≡ false → R x z ≡ Less
  still x y z Less e f h = o.trans x y z e f
  still x y z Equal e f h = sym (alike_right o y z x f) ∙ e
  still x y z Greater e f h = absurd (cc)

  none_tie : (x y : X) (ys : List X) → R x y ≡ Less → UpTo y ys → filter (tied x) ys ≡ []
  none_tie x y [] e u = refl
  none_tie x y (z ∷ zs) e u = let l : R x z ≡ Less = still x y z (R y z) e refl u.0 in rw l (none_tie x y zs e u.1)

  ties_self : (x : X) (xs : List X) → filter (tied x) (x ∷ xs) ≡ x ∷ filter (tied x) xs
  ties_self x xs = rw (tied_itself o x) refl

  no_less : (x y : X) (xs ys : List X) → R x y ≡ Less → UpTo y ys → filter (tied x) (x ∷ xs) ≡ filter (tied x) (y ∷ ys)
      → ⊥
  no_less x y xs ys e u k =
      let a : x ∷ filter (tied x) xs ≡ filter (tied x) (x ∷ xs) = sym (ties_self x xs) in
      let b : filter (tied x) (y ∷ ys) ≡ [] = rw e (none_tie x y ys e u) in
      cc

  tail_same : (b : Bool) (x : X) (l m : List X) → cond b (x ∷ l) l ≡ cond b (x ∷ m) m → l ≡ m
  tail_same true x l m e = cc
  tail_same false x l m e = e

  one-at : (r : Ordering) (x y : X) (xs ys : List X) → R x y ≡ r → UpTo x xs → UpTo y ys → Kin (x ∷ xs) (y ∷ ys)
      → (Kin xs ys → xs ≡ ys) → x ∷ xs ≡ y ∷ ys
  one-at Less x y xs ys e u v k ih = absurd (no_less x y xs ys e v (k x))
  one-at Equal x y xs ys e u v k ih =
      let a : x ∷ filter (tied x) xs ≡ filter (tied x) (x ∷ xs) = sym (ties_self x xs) in
      let b : filter (tied x) (y ∷ ys) ≡ y ∷ filter (tied x) ys = rw e refl in
      let c : filter (tied x) (x ∷ xs) ≡ filter (tied x) (y ∷ ys) = k x in
      let same : x ≡ y = cc in
      let rest : xs ≡ ys = ih (λ z. tail_same (tied z x) x (filter (tied z) xs) (filter (tied z) ys)
      (k z ∙ rw same refl)) in
      cc
  one-at Greater x y xs ys e u v k ih =
      absurd (no_less y x ys xs (o.antisymm y x ∙ ap ordering_reverse e) u (sym (k y)))

  pub one_result : (xs ys : List X) → Sorted xs → Sorted ys → Kin xs ys → xs ≡ ys
  one_result [] [] s t k = refl
  one_result [] (y ∷ ys) s t k =
      absurd (let a : filter (tied y) [] ≡ filter (tied y) (y ∷ ys) = k y in
      let b : filter (tied y) (y ∷ ys) ≡ y ∷ filter (tied y) ys = ties_self y ys in cc)
  one_result (x ∷ xs) [] s t k =
      absurd (let a : filter (tied x) (x ∷ xs) ≡ filter (tied x) [] = k x in
      let b : filter (tied x) (x ∷ xs) ≡ x ∷ filter (tied x) xs = ties_self x xs in cc)
  one_result (x ∷ xs) (y ∷ ys) s t k = one-at (R x y) x y xs ys refl s.0 t.0 k (one_result xs ys s.1 t.1)

  -- what a stable sort of xs gives
  pub sorted_is : (xs ys : List X) → IsSorted R ys → IsStable R xs ys → ys ≡ sort_by R xs
  sorted_is xs ys s t =
      one_result ys (sort_by R xs) (from_IsSorted ys s) (Sorted-sort xs)
      (λ z. from_IsStable xs ys t z ∙ sym (kept-sort z xs))
