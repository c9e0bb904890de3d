-- What a sort by a total order keeps.
use Rattle.std.proofs.Common.{◌≡◌, List, [], ◌∷◌, length, Bool, true, false, cond, Ordering, Equal, refl, sym, ◌∙◌}
use Rattle.std.proofs.Common.{arith}
use Rattle.std.specs.Cmp.{IsTotalOrder}
use Rattle.std.specs.List.{filter, AllByRecursion}
use Rattle.std.specs.List.Sorted.{IsPermutation}
use Rattle.std.specs.Ordering.{is_gt, is_eq}
use Rattle.std.proofs.lemmas.List.Sorted.{sum_by-IsPermutation}
use Rattle.std.proofs.lemmas.List.Sums.{length-filter}
use Rattle.qc_data.specs.Order.{insert_by, sort_by}
use Rattle.qc_data.proofs.Sorting.{Sorted-sort, kept-sort, one_result}
use Rattle.qc_containers.proofs.Truth.{is_Equal}

module _ {X : Type 0} (R : X → X → Ordering) where
  all-insert : (P : X → Type 0) (x : X) (ys : List X) → P x → AllByRecursion P ys → AllByRecursion P (insert_by R x ys)
  all-insert P x [] h all = (h, tt)
  all-insert P x (y ∷ ys) h all =
      elim (is_gt (R x y)) as (λ b. AllByRecursion P (cond b (y ∷ insert_by R x ys) (x ∷ y ∷ ys)))
      [ true ↦ (all.0, all-insert P x ys h all.1) | false ↦ (h, all) ]

  -- what holds of each member holds of each after the sort
  pub all-sort : (P : X → Type 0) (xs : List X) → AllByRecursion P xs → AllByRecursion P (sort_by R xs)
  all-sort P [] all = tt
  all-sort P (x ∷ xs) all = all-insert P x (sort_by R xs) all.0 (all-sort P xs all.1)

  -- a sorted list stays as it is
  pub sort-sort : (o : IsTotalOrder R) (xs : List X) → sort_by R (sort_by R xs) ≡ sort_by R xs
  sort-sort o xs =
      one_result R o (sort_by R (sort_by R xs)) (sort_by R xs) (Sorted-sort R o (sort_by R xs)) (Sorted-sort R o xs)
      (λ z. kept-sort R o z (sort_by R xs))

  module _ (only : (x y : X) → R x y ≡ Equal → x ≡ y) where
    one_more : (b : Bool) (z x : X) (xs : List X) → is_eq (R z x) ≡ b
        → AllByRecursion (λ x. x ≡ z) (filter (λ x. is_eq (R z x)) xs)
        → AllByRecursion (λ x. x ≡ z) (cond b (x ∷ filter (λ x. is_eq (R z x)) xs) (filter (λ x. is_eq (R z x)) xs))
    one_more true z x xs e all = (sym (only z x (is_Equal (R z x) e)), all)
    one_more false z x xs e all = all

    ties_are : (z : X) (xs : List X) → AllByRecursion (λ x. x ≡ z) (filter (λ x. is_eq (R z x)) xs)
    ties_are z [] = tt
    ties_are z (x ∷ xs) = one_more (is_eq (R z x)) z x xs refl (ties_are z xs)

    alike : (z : X) (xs ys : List X) → AllByRecursion (λ x. x ≡ z) xs → AllByRecursion (λ x. x ≡ z) ys
        → length xs ≡ length ys → xs ≡ ys
    alike z [] [] p q n = refl
    alike z [] (y ∷ ys) p q n = absurd (omega (arith, n))
    alike z (x ∷ xs) [] p q n = absurd (omega (arith, n))
    alike z (x ∷ xs) (y ∷ ys) p q n =
        let first : x ≡ y = p.0 ∙ sym q.0 in let rest : xs ≡ ys = alike z xs ys p.1 q.1 (omega (arith, n)) in
        λ i. first i ∷ rest i

    same_ties : (z : X) (xs ys : List X) → IsPermutation xs ys
        → filter (λ x. is_eq (R z x)) xs ≡ filter (λ x. is_eq (R z x)) ys
    same_ties z xs ys moved =
        alike z (filter (λ x. is_eq (R z x)) xs) (filter (λ x. is_eq (R z x)) ys) (ties_are z xs) (ties_are z ys)
        (length-filter (λ x. is_eq (R z x)) xs ∙ sym (sum_by-IsPermutation (λ x. cond (is_eq (R z x)) 1 0) xs ys moved)
        ∙ sym (length-filter (λ x. is_eq (R z x)) ys))

    -- where only equal members tie, the order before the sort does not matter
    pub sort-permuted : (o : IsTotalOrder R) (xs ys : List X) → IsPermutation xs ys → sort_by R xs ≡ sort_by R ys
    sort-permuted o xs ys moved = one_result R o (sort_by R xs) (sort_by R ys) (Sorted-sort R o xs) (Sorted-sort R o ys)
        (λ z. kept-sort R o z xs ∙ same_ties z xs ys moved ∙ sym (kept-sort R o z ys))
