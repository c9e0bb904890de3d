-- Where a name stands among names that rise, from one look at a pair.
use Rattle.std.proofs.Common.{◌≡◌, ℕ, zero, suc, ◌<◌, ◌≤◌, List, [], ◌∷◌, length, get_or, Option, Some, None, Bool}
use Rattle.std.proofs.Common.{true, false, cond, Ordering, Less, Equal, Greater, refl, sym, ap, ◌∙◌, arith}
use Rattle.std.specs.Prelude.{slice_get}
use Rattle.std.proofs.lemmas.Option.{slice_get_past, slice_get_read}
use Rattle.std.proofs.lemmas.Cmp.{nat_list_cmp_total}
use Rattle.std.proofs.lemmas.Map.Text.{is_eq-slice_cmp}
use Rattle.std.specs.Ordering.{is_eq, is_lt, ordering_reverse}
use Rattle.std.specs.Str.{bytes_eq}
use Rattle.qc_containers.specs.Pairs.{lookup, below}
use Rattle.qc_containers.specs.Rising.{text_cmp, Above, Rising}
use Rattle.qc_containers.proofs.Truth.{is_Less}

-- a name before the pairs is below that of each
above_at : {T : Type 0} (n : List ℕ) (ps : List (List ℕ × T)) (k : ℕ) (p : List ℕ × T) → Above n ps → k < length ps
    → p ≡ get_or ps k p → text_cmp n p.0 ≡ Less
above_at n [] k p a lt e = absurd (omega arith)
above_at n (q ∷ qs) zero p a lt e = rw e a.0
above_at n (q ∷ qs) (suc k) p a lt e = above_at n qs k p a.1 (omega arith) e

-- where a pair's name is below n, n stands after it
pub stands_after : {T : Type 0} (n : List ℕ) (ps : List (List ℕ × T)) (k : ℕ) (p : List ℕ × T) → Rising ps
    → k < length ps → p ≡ get_or ps k p → text_cmp p.0 n ≡ Less → k < below n ps
stands_after n [] k p r lt e o = absurd (omega arith)
stands_after n (q ∷ qs) zero p r lt e o = let low : text_cmp q.0 n ≡ Less = rw (← e) o in rw low (omega arith)
stands_after n (q ∷ qs) (suc k) p r lt e o =
    let low : text_cmp q.0 n ≡ Less = nat_list_cmp_total.trans q.0 p.0 n (above_at q.0 qs k p r.0 (omega arith) e) o in
    rw low (omega (arith, stands_after n qs k p r.1 (omega arith) e o))

-- where it is not, n stands there or before it
pub stands_before : {T : Type 0} (n : List ℕ) (ps : List (List ℕ × T)) (k : ℕ) (p : List ℕ × T) → k < length ps
    → p ≡ get_or ps k p → is_lt (text_cmp p.0 n) ≡ false → below n ps ≤ k
stands_before n [] k p lt e o = absurd (omega arith)
stands_before n (q ∷ qs) zero p lt e o = let high : is_lt (text_cmp q.0 n) ≡ false = rw (← e) o in rw high (omega arith)
stands_before n (q ∷ qs) (suc k) p lt e o =
    elim (is_lt (text_cmp q.0 n)) as (λ b. cond b (suc (below n qs)) 0 ≤ suc k)
    [ true ↦ omega (arith, stands_before n qs k p (omega arith) e o) | false ↦ omega arith ]

-- the value of a pair whose name is n
abbrev pub value_if : {T : Type 0} → List ℕ → Option (List ℕ × T) → Option T
value_if n None = None
value_if n (Some p) = cond (bytes_eq p.0 n) (Some p.1) None

differs : (m n : List ℕ) (o : Ordering) → text_cmp m n ≡ o → is_eq o ≡ bytes_eq m n
differs m n o e = ap is_eq (sym e) ∙ is_eq-slice_cmp m n

-- a name before all others is none of them
absent : {T : Type 0} (n m : List ℕ) (ps : List (List ℕ × T)) → text_cmp m n ≡ Greater → Above m ps → lookup n ps ≡ None
absent n m [] e a = refl
absent n m (p ∷ ps) e a =
    let up : text_cmp n m ≡ Less = nat_list_cmp_total.antisymm n m ∙ ap ordering_reverse e in
    let far : text_cmp n p.0 ≡ Less = nat_list_cmp_total.trans n m p.0 up a.0 in
    let down : text_cmp p.0 n ≡ Greater = nat_list_cmp_total.antisymm p.0 n ∙ ap ordering_reverse far in
    rw (← differs p.0 n Greater down) (absent n m ps e a.1)

looked_at : {T : Type 0} (o : Ordering) (n : List ℕ) (p : List ℕ × T) (ps : List (List ℕ × T)) → text_cmp p.0 n ≡ o
    → Above p.0 ps
    → lookup n ps ≡ value_if n (slice_get ps (below n ps))
    → lookup n (p ∷ ps) ≡ value_if n (slice_get (p ∷ ps) (below n (p ∷ ps)))
looked_at Less n p ps e a ih = rw (e, ← differs p.0 n Less e) ih
looked_at Equal n p ps e a ih = rw (e, ← differs p.0 n Equal e) refl
looked_at Greater n p ps e a ih = rw (e, ← differs p.0 n Greater e) (absent n p.0 ps e a)

-- only the pair at the name's place may have it
pub looked_up : {T : Type 0} (n : List ℕ) (ps : List (List ℕ × T)) → Rising ps
    → lookup n ps ≡ value_if n (slice_get ps (below n ps))
looked_up n [] r = refl
looked_up n (p ∷ ps) r = looked_at (text_cmp p.0 n) n p ps refl r.0 (looked_up n ps r.1)

-- the same, as code looks: m is the pair's name, and b whether it is below n
pub look_after : {T : Type 0} (n m : List ℕ) (ps : List (List ℕ × T)) (k : ℕ) (p : List ℕ × T) (b : Bool) → Rising ps
    → k < length ps → p ≡ get_or ps k p → m ≡ (get_or ps k p).0 → b ≡ is_lt (text_cmp m n) → b ≡ true → k < below n ps
look_after n m ps k p b r lt e own is t =
    stands_after n ps k p r lt e (is_Less (text_cmp p.0 n) (rw (e, ← own) (sym is ∙ t)))

pub look_before : {T : Type 0} (n m : List ℕ) (ps : List (List ℕ × T)) (k : ℕ) (p : List ℕ × T) (b : Bool)
    → k < length ps → p ≡ get_or ps k p → m ≡ (get_or ps k p).0 → b ≡ is_lt (text_cmp m n) → b ≡ false → below n ps ≤ k
look_before n m ps k p b lt e own is t = stands_before n ps k p lt e (rw (e, ← own) (sym is ∙ t))

-- a look-up that reads the pair at the name's place: xs is the slice that code reads
looked_up_at : {T : Type 0} (n : List ℕ) (ps xs : List (List ℕ × T)) (k : ℕ) → xs ≡ ps → Rising ps → k ≡ below n xs
    → lookup n ps ≡ value_if n (slice_get xs k)
looked_up_at n ps xs k same r at = rw (at, same) (looked_up n ps r)

pub past_all : {T : Type 0} (n : List ℕ) (ps xs : List (List ℕ × T)) (k : ℕ) → xs ≡ ps → Rising ps → k ≡ below n xs
    → length xs ≤ k → None ≡ lookup n ps
past_all n ps xs k same r at past = sym (looked_up_at n ps xs k same r at ∙ ap (value_if n) (slice_get_past xs k past))

pub read_there : {T : Type 0} (n m : List ℕ) (ps xs : List (List ℕ × T)) (k : ℕ) (p : List ℕ × T) (b : Bool) → xs ≡ ps
    → Rising ps → k ≡ below n xs → k < length xs → p ≡ get_or xs k p → m ≡ p.0 → b ≡ bytes_eq m n
    → cond b (Some p.1) None ≡ lookup n ps
read_there n m ps xs k p b same r at lt got own is =
    sym (looked_up_at n ps xs k same r at ∙ ap (value_if n) (slice_get_read xs (length xs) k p refl lt got)
    ∙ rw (is, own) refl)
