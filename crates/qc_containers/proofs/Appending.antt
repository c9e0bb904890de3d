-- Pairs with rising names, made one after another from pairs that rise. A loop over the pairs of a map that puts each
-- of its names last has `Rising (names all ++ names (drop k ps))` as its invariant: `slice_starts` gives it at the
-- start, `slice_push` what `add` requires, and `slice_goes` the invariant after a pair.
use Rattle.std.proofs.Common.{◌≡◌, ℕ, ◌+◌, ◌<◌, List, [], ◌∷◌, ◌++◌, map, drop, get_or, length, Option, Some, None}
use Rattle.std.proofs.Common.{option_map, refl, sym, ap, subst, append_assoc}
use Rattle.std.specs.Prelude.{⊤}
use Rattle.std.proofs.lemmas.List.{drop_more}
use Rattle.qc_containers.specs.Rising.{Rising, Above, on_value}
use Rattle.qc_containers.specs.inner.RisingParts.{Rising-from, Rising-to}

abbrev pub bare : {T : Type 0} → T → ⊤
bare t = tt

-- the names alone
abbrev pub names : {T : Type 0} → List (List ℕ × T) → List (List ℕ × ⊤)
names = map (on_value bare)

above_cut : {T : Type 0} (n : List ℕ) (xs ys : List (List ℕ × T)) (p : List ℕ × T) → Above n (xs ++ p ∷ ys)
    → Above n (xs ++ p ∷ [])
above_cut n [] ys p a = (a.0, tt)
above_cut n (x ∷ xs) ys p a = (a.0, above_cut n xs ys p a.1)

rising_cut : {T : Type 0} (xs ys : List (List ℕ × T)) (p : List ℕ × T) → Rising (xs ++ p ∷ ys) → Rising (xs ++ p ∷ [])
rising_cut [] ys p r = (tt, tt)
rising_cut (x ∷ xs) ys p r = (above_cut x.0 xs ys p r.0, rising_cut xs ys p r.1)

names-more : {T : Type 0} (xs : List (List ℕ × T)) (n : List ℕ) (v : T)
    → names (xs ++ (n, v) ∷ []) ≡ names xs ++ (n, tt) ∷ []
names-more [] n v = refl
names-more (x ∷ xs) n v = ap (λ l. (x.0, tt) ∷ l) (names-more xs n v)

-- what comes before the next name may be followed by it
pub may_go_last : {T : Type 0} (all : List (List ℕ × T)) (rest : List (List ℕ × ⊤)) (n : List ℕ) (v : T)
    → Rising (names all ++ (n, tt) ∷ rest) → Rising (all ++ (n, v) ∷ [])
may_go_last all rest n v r =
    Rising-from bare (all ++ (n, v) ∷ []) (rw (names-more all n v) (rising_cut (names all) rest (n, tt) r))

-- and then what is left rises from there
pub goes_last : {T : Type 0} (all new : List (List ℕ × T)) (rest : List (List ℕ × ⊤)) (n : List ℕ) (v : T)
    → new ≡ all ++ (n, v) ∷ [] → Rising (names all ++ (n, tt) ∷ rest) → Rising (names new ++ rest)
goes_last all new rest n v made r = rw (made, names-more all n v, append_assoc (names all) ((n, tt) ∷ []) rest) r

-- the names to come, of a slice that is passed over
next_name : {T U : Type 0} (all : List (List ℕ × U)) (ps : List (List ℕ × T)) (k : ℕ) (p : List ℕ × T) (n : List ℕ)
    → k < length ps → p ≡ get_or ps k p → n ≡ p.0 → Rising (names all ++ names (drop k ps))
    → Rising (names all ++ (n, tt) ∷ names (drop (k + 1) ps))
next_name all ps k p n lt at is r =
    subst (λ m. Rising (names all ++ (m, tt) ∷ names (drop (k + 1) ps))) (sym is)
    (subst (λ q. Rising (names all ++ (q.0, tt) ∷ names (drop (k + 1) ps))) (sym at)
    (subst (λ l. Rising (names all ++ names l)) (drop_more ps k p lt) r))

-- a pair of the slice's next name may go last
pub slice_push : {T U : Type 0} (all : List (List ℕ × U)) (ps : List (List ℕ × T)) (k : ℕ) (p : List ℕ × T) (n : List ℕ)
    (u : U) → k < length ps → p ≡ get_or ps k p → n ≡ p.0 → Rising (names all ++ names (drop k ps))
    → Rising (all ++ (n, u) ∷ [])
slice_push all ps k p n u lt at is r = may_go_last all (names (drop (k + 1) ps)) n u (next_name all ps k p n lt at is r)

-- and then the names to come rise from there
pub slice_goes : {T U : Type 0} (all new : List (List ℕ × U)) (ps : List (List ℕ × T)) (k : ℕ) (p : List ℕ × T)
    (n : List ℕ) (u : U) → k < length ps → p ≡ get_or ps k p → n ≡ p.0 → new ≡ all ++ (n, u) ∷ []
    → Rising (names all ++ names (drop k ps)) → Rising (names new ++ names (drop (k + 1) ps))
slice_goes all new ps k p n u lt at is made r =
    goes_last all new (names (drop (k + 1) ps)) n u made (next_name all ps k p n lt at is r)

-- the names to come, of an iterator that owns its pairs
next_left : {T U : Type 0} (all : List (List ℕ × U)) (it left : List (List ℕ × T)) (p : List ℕ × T) (n : List ℕ)
    → it ≡ p ∷ left → n ≡ p.0 → Rising (names all ++ names it) → Rising (names all ++ (n, tt) ∷ names left)
next_left all it left p n step is r =
    subst (λ m. Rising (names all ++ (m, tt) ∷ names left)) (sym is)
    (subst (λ l. Rising (names all ++ names l)) step r)

-- before the first of them
pub left_starts : {T U : Type 0} (all : List (List ℕ × U)) (it ps : List (List ℕ × T)) → all ≡ [] → it ≡ ps → Rising ps
    → Rising (names all ++ names it)
left_starts all it ps none is r = rw (none, is) (Rising-to bare ps r)

-- a pair of the iterator's next name may go last
pub left_push : {T U : Type 0} (all : List (List ℕ × U)) (it left : List (List ℕ × T)) (p : List ℕ × T) (n : List ℕ)
    (u : U) → it ≡ p ∷ left → n ≡ p.0 → Rising (names all ++ names it) → Rising (all ++ (n, u) ∷ [])
left_push all it left p n u step is r = may_go_last all (names left) n u (next_left all it left p n step is r)

-- and then the names to come rise from there
pub left_goes : {T U : Type 0} (all new : List (List ℕ × U)) (it left : List (List ℕ × T)) (p : List ℕ × T)
    (n : List ℕ) (u : U) → it ≡ p ∷ left → n ≡ p.0 → new ≡ all ++ (n, u) ∷ [] → Rising (names all ++ names it)
    → Rising (names new ++ names left)
left_goes all new it left p n u step is made r =
    goes_last all new (names left) n u made (next_left all it left p n step is r)

pub nothing_before : {A : Type 0} (o : Option (List A)) → option_map (λ xs. [] ++ xs) o ≡ o
nothing_before None = refl
nothing_before (Some xs) = refl

-- one item more
pub one_more : {A : Type 0} (all : List A) (a : A) (o : Option (List A))
    → option_map (λ xs. all ++ xs) (option_map (λ xs. a ∷ xs) o) ≡ option_map (λ xs. (all ++ a ∷ []) ++ xs) o
one_more all a None = refl
one_more all a (Some xs) = ap Some (sym (append_assoc all (a ∷ []) xs))

-- before the first pair
pub slice_starts : {T U : Type 0} (all : List (List ℕ × U)) (ps : List (List ℕ × T)) → all ≡ [] → Rising ps
    → Rising (names all ++ names ps)
slice_starts all ps none r = rw none (Rising-to bare ps r)

-- before the first item
pub none_before : {A : Type 0} (all : List A) (o : Option (List A)) → all ≡ [] → o ≡ option_map (λ xs. all ++ xs) o
none_before all o none = rw none (sym (nothing_before o))
