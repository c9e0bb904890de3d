-- A look-up among names that rise needs only one half.
use Rattle.std.proofs.Common.{◌≡◌, ℕ, zero, suc, ◌<◌, List, [], ◌∷◌, length, take, drop, get_or, Option, Some, None}
use Rattle.std.proofs.Common.{Bool, true, false, cond, Ordering, Less, Equal, Greater, refl, sym, ap, ◌∙◌, arith}
use Rattle.std.proofs.Common.{drop-cons, ◌-◌}
use Rattle.std.proofs.lemmas.List.{take_all}
use Rattle.std.proofs.lemmas.Cmp.{nat_list_cmp_total}
use Rattle.std.proofs.lemmas.Map.Text.{is_eq-slice_cmp}
use Rattle.std.proofs.lemmas.Slice.Eq.{bytes_eq-Decides}
use Rattle.std.specs.Ordering.{is_eq, ordering_reverse}
use Rattle.std.specs.Str.{bytes_eq}
use Rattle.qc_containers.specs.Pairs.{lookup}
use Rattle.qc_containers.specs.Rising.{Above, Rising, text_cmp}
use Rattle.qc_types.proofs.RisenRows.{Rising-take}
use Rattle.qc_types.proofs.RowLaws.{above_at, lookup-own}

differ-less : (m n : List ℕ) → text_cmp m n ≡ Less → bytes_eq m n ≡ false
differ-less m n e = sym (is_eq-slice_cmp m n) ∙ ap is_eq e

differ-greater : (m n : List ℕ) → text_cmp m n ≡ Greater → bytes_eq m n ≡ false
differ-greater m n e = sym (is_eq-slice_cmp m n) ∙ ap is_eq e

pub Rising-drop : {T : Type 0} (k : ℕ) (ps : List (List ℕ × T)) → Rising ps → Rising (drop k ps)
Rising-drop zero ps r = r
Rising-drop (suc k) [] r = tt
Rising-drop (suc k) (p ∷ ps) r = Rising-drop k ps r.1

-- a name before all others is none of them
absent : {T : Type 0} (n m : List ℕ) (ps : List (List ℕ × T)) → text_cmp m n ≡ Greater → Above m ps → lookup n ps ≡ None
absent n m [] e a = refl
absent n m (p ∷ ps) e a =
    let up : text_cmp n m ≡ Less = nat_list_cmp_total.antisymm n m ∙ ap ordering_reverse e in
    let far : text_cmp n p.0 ≡ Less = nat_list_cmp_total.trans n m p.0 up a.0 in
    let down : text_cmp p.0 n ≡ Greater = nat_list_cmp_total.antisymm p.0 n ∙ ap ordering_reverse far in
    rw (differ-greater p.0 n down) (absent n m ps e a.1)

-- where a pair's name is below n, n stands after it
pub after : {T : Type 0} (n : List ℕ) (ps : List (List ℕ × T)) (k : ℕ) (p : List ℕ × T) → Rising ps → k < length ps
    → p ≡ get_or ps k p → text_cmp p.0 n ≡ Less → lookup n ps ≡ lookup n (drop (suc k) ps)
after n [] k p r lt e o = absurd (omega arith)
after n (q ∷ qs) zero p r lt e o = rw (differ-less q.0 n (rw (← e) o)) refl
after n (q ∷ qs) (suc k) p r lt e o =
    let low : text_cmp q.0 n ≡ Less = nat_list_cmp_total.trans q.0 p.0 n (above_at q.0 qs k p r.0 (omega arith) e) o in
    rw (differ-less q.0 n low) (after n qs k p r.1 (omega arith) e o)

-- where it is above n, n stands before it
pub before : {T : Type 0} (n : List ℕ) (ps : List (List ℕ × T)) (k : ℕ) (p : List ℕ × T) → Rising ps → k < length ps
    → p ≡ get_or ps k p → text_cmp p.0 n ≡ Greater → lookup n ps ≡ lookup n (take k ps)
before n [] k p r lt e o = absurd (omega arith)
before n (q ∷ qs) zero p r lt e o =
    let high : text_cmp q.0 n ≡ Greater = rw (← e) o in rw (differ-greater q.0 n high) (absent n q.0 qs high r.0)
before n (q ∷ qs) (suc k) p r lt e o =
    ap (λ x. cond (bytes_eq q.0 n) (Some q.1) x) (before n qs k p r.1 (omega arith) e o)

same_name : (o : Ordering) (b : Bool) → o ≡ Equal → is_eq o ≡ b → b ≡ true
same_name o b e h = sym h ∙ ap is_eq e

-- and where it is n, the pair is found
pub here : {T : Type 0} (n : List ℕ) (ps : List (List ℕ × T)) (k : ℕ) (p : List ℕ × T) → Rising ps → k < length ps
    → p ≡ get_or ps k p → text_cmp p.0 n ≡ Equal → lookup n ps ≡ Some p.1
here n ps k p r lt e o =
    let same : p.0 ≡ n =
    (bytes_eq-Decides p.0 n).0 (same_name (text_cmp p.0 n) (bytes_eq p.0 n) o (is_eq-slice_cmp p.0 n)) in
    ap (λ m. lookup m ps) (sym same) ∙ lookup-own ps k p r lt e

-- the pairs, split at the place of one of them
module _ {T : Type 0} (n : List ℕ) (ps low high : List (List ℕ × T)) (k : ℕ) (p : List ℕ × T) (whole : Option T)
    (r : Rising ps) (w : whole ≡ lookup n ps) (lt : k < length ps)
    (lo : low ≡ take k ps) (hi : high ≡ drop k ps) (at : p ≡ get_or high 0 p) where
  split : high ≡ get_or ps k p ∷ drop (suc k) ps
  split = hi ∙ drop-cons ps k p lt

  is : p ≡ get_or ps k p
  is = at ∙ ap (λ l. get_or l 0 p) split

  cut : (l : List (List ℕ × T)) → l ≡ get_or ps k p ∷ drop (suc k) ps → take (length l - 1) (drop 1 l) ≡ drop (suc k) ps
  cut l e = rw e (take_all _ (drop (suc k) ps) (omega arith))

  pub high_rises : Rising (take (length high - 1) (drop 1 high))
  high_rises = rw (cut high split) (Rising-drop (suc k) ps r)

  pub low_rises : Rising low
  low_rises = rw lo (Rising-take k ps r)

  module _ (m : List ℕ) (en : m ≡ p.0) where
    pub high_left : Less ≡ text_cmp m n → whole ≡ lookup n (take (length high - 1) (drop 1 high))
    high_left o =
        w ∙ after n ps k p r lt is (ap (λ x. text_cmp x n) (sym en) ∙ sym o) ∙ ap (lookup n) (sym (cut high split))

    pub low_left : Greater ≡ text_cmp m n → whole ≡ lookup n low
    low_left o = w ∙ before n ps k p r lt is (ap (λ x. text_cmp x n) (sym en) ∙ sym o) ∙ ap (lookup n) (sym lo)

    pub found_here : Equal ≡ text_cmp m n → Some p.1 ≡ whole
    found_here o = sym (w ∙ here n ps k p r lt is (ap (λ x. text_cmp x n) (sym en) ∙ sym o))
