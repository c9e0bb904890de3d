-- A pair put in its place keeps the names rising.
use Rattle.std.proofs.Common.{◌≡◌, ℕ, zero, suc, ◌≤◌, List, [], ◌∷◌, ◌++◌, length, take, get_or, map, ◌<◌, Option, Some}
use Rattle.std.proofs.Common.{None, Bool, true, false, cond, Ordering, Less, Equal, Greater, refl, sym, ap, ◌∙◌, arith}
use Rattle.std.specs.Prelude.{Result, Ok, Err, OnOk, OnErr}
use Rattle.std.proofs.Math.Seq.{take-suc}
use Rattle.std.proofs.lemmas.List.{take-map, get_or-map, length-map}
use Rattle.std.proofs.lemmas.Cmp.{nat_list_cmp_total}
use Rattle.std.proofs.lemmas.Map.Text.{is_eq-slice_cmp}
use Rattle.std.specs.List.{insert}
use Rattle.std.specs.Ordering.{is_lt, is_eq, ordering_reverse}
use Rattle.std.specs.Str.{bytes_eq}
use Rattle.qc_containers.specs.Rising.{text_cmp, Above, Rising, on_value}
use Rattle.qc_containers.specs.inner.RisingParts.{Rising-to}
use Rattle.qc_containers.specs.Pairs.{lookup, put, below}

pub below-le : {T : Type 0} (n : List ℕ) (ps : List (List ℕ × T)) → below n ps ≤ length ps
below-le n [] = omega arith
below-le n (p ∷ ps) =
    elim (is_lt (text_cmp p.0 n)) as (λ b. cond b (suc (below n ps)) 0 ≤ suc (length ps))
    [ true ↦ omega (arith, below-le n ps) | false ↦ omega arith ]

pub insert-below : {T : Type 0} (n : List ℕ) (v : T) (ps : List (List ℕ × T))
    → insert ps (below n ps) (n, v) ≡ put n v ps
insert-below n v [] = refl
insert-below {T} n v (p ∷ ps) =
    elim (is_lt (text_cmp p.0 n)) as (λ b. insert (p ∷ ps) (cond b (suc (below n ps)) 0) (n, v)
    ≡ cond b (p ∷ put n v ps) ((n, v) ∷ p ∷ ps))
    [ true ↦ ap (λ (l : List (List ℕ × T)). p ∷ l) (insert-below n v ps) | false ↦ refl ]

Above-trans : {T : Type 0} (m n : List ℕ) (ps : List (List ℕ × T)) → text_cmp m n ≡ Less → Above n ps → Above m ps
Above-trans m n [] e a = tt
Above-trans m n (p ∷ ps) e a = (nat_list_cmp_total.trans m n p.0 e a.0, Above-trans m n ps e a.1)

Above-put : {T : Type 0} (m n : List ℕ) (v : T) (ps : List (List ℕ × T)) → text_cmp m n ≡ Less → Above m ps
    → Above m (put n v ps)
Above-put m n v [] e a = (e, tt)
Above-put {T} m n v (p ∷ ps) e a =
    elim (is_lt (text_cmp p.0 n)) as (λ b. Above m (cond b (p ∷ put n v ps) ((n, v) ∷ p ∷ ps)))
    [ true ↦ (a.0, Above-put m n v ps e a.1) | false ↦ (e, a) ]

absent_later : {T : Type 0} (b : Bool) (v : T) (o : Option T) → cond b (Some v) o ≡ None → (b ≡ false) × (o ≡ None)
absent_later true v o e = absurd (cc)
absent_later false v o e = (refl, e)

Rising-put-at : {T : Type 0} (o : Ordering) (n : List ℕ) (v : T) (p : List ℕ × T) (ps : List (List ℕ × T))
    → text_cmp p.0 n ≡ o
    → Rising (p ∷ ps) → bytes_eq p.0 n ≡ false → Rising (put n v ps) → Rising (put n v (p ∷ ps))
Rising-put-at Less n v p ps e r ne ih = rw e (Above-put p.0 n v ps e r.0, ih)
Rising-put-at Equal n v p ps e r ne ih =
    let same : is_eq (text_cmp p.0 n) ≡ bytes_eq p.0 n = is_eq-slice_cmp p.0 n in
    let t : true ≡ is_eq (text_cmp p.0 n) = ap is_eq (sym e) in absurd (cc)
Rising-put-at Greater n v p ps e r ne ih =
    let up : text_cmp n p.0 ≡ Less = nat_list_cmp_total.antisymm n p.0 ∙ ap ordering_reverse e in
    rw e ((up, Above-trans n p.0 ps up r.0), r)

pub Rising-put : {T : Type 0} (n : List ℕ) (v : T) (ps : List (List ℕ × T)) → Rising ps → lookup n ps ≡ None
    → Rising (put n v ps)
Rising-put n v [] r e = (tt, tt)
Rising-put n v (p ∷ ps) r e = let a = absent_later (bytes_eq p.0 n) p.1 (lookup n ps) e in
    Rising-put-at (text_cmp p.0 n) n v p ps refl r a.0 (Rising-put n v ps r.1 a.1)

-- an insert at that place is a put
inserted_is_put : {T : Type 0} (n m : List ℕ) (v : T) (ps qs old xs : List (List ℕ × T)) (k : ℕ)
    → xs ≡ insert ps k (n, v) → k ≡ below m qs → m ≡ n → qs ≡ ps → ps ≡ old → xs ≡ put n v old
inserted_is_put n m v ps qs old xs k e at same list is = rw (e, at, same, list, is) (insert-below n v old)

-- the same of an insert that may have been refused
pub put_in : {T A E : Type 0} (r : Result A E) (n m : List ℕ) (v : T) (ps qs old xs : List (List ℕ × T)) (k : ℕ)
    → OnOk r (xs ≡ insert ps k (n, v)) → k ≡ below m qs → m ≡ n → qs ≡ ps → ps ≡ old → OnOk r (xs ≡ put n v old)
put_in (Ok a) n m v ps qs old xs k e at same list is = inserted_is_put n m v ps qs old xs k e at same list is
put_in (Err f) n m v ps qs old xs k e at same list is = tt

pub Rising-put_in : {T A E : Type 0} (r : Result A E) (n m : List ℕ) (v : T) (ps qs old xs : List (List ℕ × T)) (k : ℕ)
    → OnOk r (xs ≡ insert ps k (n, v)) → OnErr r (xs ≡ ps) → k ≡ below m qs → m ≡ n → qs ≡ ps → ps ≡ old
    → Rising ps → lookup n old ≡ None → Rising xs
Rising-put_in (Ok a) n m v ps qs old xs k e f at same list is r absent =
    rw (inserted_is_put n m v ps qs old xs k e at same list is) (Rising-put n v old (rw (← is) r) absent)
Rising-put_in (Err b) n m v ps qs old xs k e f at same list is r absent = rw f r

Above-take : {T : Type 0} (n : List ℕ) (k : ℕ) (ps : List (List ℕ × T)) → Above n ps → Above n (take k ps)
Above-take n zero ps a = tt
Above-take n (suc k) [] a = tt
Above-take n (suc k) (p ∷ ps) a = (a.0, Above-take n k ps a.1)

-- the first pairs rise too
pub Rising-take : {T : Type 0} (k : ℕ) (ps : List (List ℕ × T)) → Rising ps → Rising (take k ps)
Rising-take zero ps r = tt
Rising-take (suc k) [] r = tt
Rising-take (suc k) (p ∷ ps) r = (Above-take p.0 k ps r.0, Rising-take k ps r.1)

-- one pair more of those that rise
pub Rising-next : {T : Type 0} (ps cs : List (List ℕ × T)) (k : ℕ) (p : List ℕ × T) (n : List ℕ) (v : T) → Rising ps
    → k < length ps → cs ≡ take k ps → p ≡ get_or ps k p → n ≡ p.0 → v ≡ p.1 → Rising (cs ++ (n, v) ∷ [])
Rising-next {T} ps cs k p n v r lt e at en ev =
    let more : take (suc k) ps ≡ take k ps ++ (get_or ps k p ∷ []) = take-suc ps k p lt in
    let same : ◌≡◌ {A = List ℕ × T} (n, v) (get_or ps k p) = (λ i. (en i, ev i)) ∙ at in
    rw (e, same, ← more) (Rising-take (suc k) ps r)

-- the same, where each value is mapped
pub Rising-next-map : {X Y : Type 0} (h : X → Y) (ps : List (List ℕ × X)) (cs : List (List ℕ × Y)) (k : ℕ)
    (p : List ℕ × X) (n : List ℕ) (v : Y) → Rising ps → k < length ps → cs ≡ map (on_value h) (take k ps)
    → p ≡ get_or ps k p → n ≡ p.0 → v ≡ h p.1 → Rising (cs ++ (n, v) ∷ [])
Rising-next-map h ps cs k p n v r lt e at en ev =
    Rising-next (map (on_value h) ps) cs k (on_value h p) n v (Rising-to h ps r)
    (omega (arith, length-map ps (on_value h))) (e ∙ sym (take-map (on_value h) k ps))
    (ap (on_value h) at ∙ sym (get_or-map (on_value h) ps k p (on_value h p) lt)) en ev
