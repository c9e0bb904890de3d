-- Outcomes that keep values, up to a relation, and lists place by place.
use Rattle.std.proofs.Common.{◌≡◌, Bool, true, false, List, [], ◌∷◌, ◌++◌, map, refl, sym, cond, subst}
use Rattle.std.specs.Ordering.{is_gt}
use Rattle.std.specs.declared.cmp.Ordering.{Ordering}
use Rattle.qc_data.specs.Order.{insert_by, sort_by}
use Rattle.qc_data.specs.Outcome.{Outcome, Value, Halts, and_then, gather, each, alone, IsKept}

-- where the first is a value, so is the second, and R holds of the two
abbrev pub Kept : {A B : Type 0} → (A → B → Type 0) → Outcome A → Outcome B → Type 0
Kept {B = B} R (Value a) o = (b : B) × (o ≡ Value b) × R a b
Kept R (Halts why) o = Unit {0}

-- two lists, place by place
abbrev pub Zip : {A B : Type 0} → (A → B → Type 0) → List A → List B → Type 0
Zip R [] [] = Unit {0}
Zip R [] (y ∷ ys) = ⊥
Zip R (x ∷ xs) [] = ⊥
Zip R (x ∷ xs) (y ∷ ys) = R x y × Zip R xs ys

-- ---- steps

pub kept_same : {A B C : Type 0} (S : B → C → Type 0) (o p : Outcome A) (f : A → Outcome B) (g : A → Outcome C)
    → IsKept o p → ((a : A) → Kept S (f a) (g a)) → Kept S (and_then o f) (and_then p g)
kept_same S (Value a) p f g h k = rw h (k a)
kept_same S (Halts why) p f g h k = tt

pub kept_by : {A B C D : Type 0} (R : A → B → Type 0) (S : C → D → Type 0) (o : Outcome A) (p : Outcome B)
    (f : A → Outcome C) (g : B → Outcome D) → Kept R o p → ((a : A) (b : B) → R a b → Kept S (f a) (g b))
    → Kept S (and_then o f) (and_then p g)
kept_by R S (Value a) p f g h k = rw h.1 (k a h.0 h.2)
kept_by R S (Halts why) p f g h k = tt

-- a relation, and then the same value
pub same_by : {A B C : Type 0} (R : A → B → Type 0) (o : Outcome A) (p : Outcome B) (f : A → Outcome C)
    (g : B → Outcome C) → Kept R o p → ((a : A) (b : B) → R a b → IsKept (f a) (g b))
    → IsKept (and_then o f) (and_then p g)
same_by R (Value a) p f g h k = rw h.1 (k a h.0 h.2)
same_by R (Halts why) p f g h k = tt

-- the same first outcome
pub kept_from : {A B : Type 0} (R : A → B → Type 0) (o o' : Outcome A) (p : Outcome B) → o ≡ o' → Kept R o' p
    → Kept R o p
kept_from R o o' p e h = subst (λ o. Kept R o p) (sym e) h

-- the same second outcome
pub kept_at : {A B : Type 0} (R : A → B → Type 0) (o : Outcome A) (p q : Outcome B) → q ≡ p → Kept R o p → Kept R o q
kept_at R o p q e h = subst (Kept R o) (sym e) h

-- a step that changes nothing
pub kept_still : {A B : Type 0} (R : A → B → Type 0) (o : Outcome A) (p : Outcome B) (f : A → Outcome A)
    → ((a : A) → f a ≡ Value a) → Kept R o p → Kept R (and_then o f) p
kept_still R (Value a) p f e h = kept_from R (f a) (Value a) p (e a) h
kept_still R (Halts why) p f e h = tt

-- ---- outcomes that are values

pub then_same : {A B : Type 0} (o : Outcome A) (f g : A → Outcome B) → ((a : A) → f a ≡ g a)
    → and_then o f ≡ and_then o g
then_same (Value a) f g h = h a
then_same (Halts why) f g h = refl

pub each_values : {A B : Type 0} (f : A → Outcome B) (g : A → B) (xs : List A) → ((x : A) → f x ≡ Value (g x))
    → each f xs ≡ Value (map g xs)
each_values f g [] h = refl
each_values f g (x ∷ xs) h = let first = h x in let rest = each_values f g xs h in rw (first, rest) refl

pub each_more : {A B : Type 0} (f : A → Outcome B) (x : A) (xs : List A) (y : B) (ys : List B) → f x ≡ Value y
    → each f xs ≡ Value ys → each f (x ∷ xs) ≡ Value (y ∷ ys)
each_more f x xs y ys h k = rw (h, k) refl

-- ---- lists

pub zip_append : {A B : Type 0} (R : A → B → Type 0) (xs us : List A) (ys vs : List B) → Zip R xs ys → Zip R us vs
    → Zip R (xs ++ us) (ys ++ vs)
zip_append R [] us [] vs h k = k
zip_append R [] us (y ∷ ys) vs h k = absurd h
zip_append R (x ∷ xs) us [] vs h k = absurd h
zip_append R (x ∷ xs) us (y ∷ ys) vs h k = (h.0, zip_append R xs us ys vs h.1 k)

pub zip_itself : {A : Type 0} (xs : List A) → Zip (λ a b. a ≡ b) xs xs
zip_itself [] = tt
zip_itself (x ∷ xs) = (refl, zip_itself xs)

-- values that are made of the members
pub zip_made : {A B : Type 0} (f : A → B) (xs : List A) (ys : List B) → Zip (λ a b. b ≡ f a) xs ys → ys ≡ map f xs
zip_made f [] [] z = refl
zip_made f [] (y ∷ ys) z = absurd z
zip_made f (x ∷ xs) [] z = absurd z
zip_made f (x ∷ xs) (y ∷ ys) z = let first = z.0 in let rest = zip_made f xs ys z.1 in λ i. first i ∷ rest i

pub zip_left : {A B C : Type 0} (R : A → B → Type 0) (S : C → B → Type 0) (f : A → C) (xs : List A) (ys : List B)
    → ((a : A) (b : B) → R a b → S (f a) b) → Zip R xs ys → Zip S (map f xs) ys
zip_left R S f [] [] k h = tt
zip_left R S f [] (y ∷ ys) k h = absurd h
zip_left R S f (x ∷ xs) [] k h = absurd h
zip_left R S f (x ∷ xs) (y ∷ ys) k h = (k x y h.0, zip_left R S f xs ys k h.1)

-- values that the members of the second give
pub zip_values : {A B C : Type 0} (R : A → B → Type 0) (S : A → C → Type 0) (g : B → Outcome C) (xs : List A)
    (ys : List B) → ((a : A) (b : B) → R a b → (c : C) × (g b ≡ Value c) × S a c) → Zip R xs ys
    → (zs : List C) × (each g ys ≡ Value zs) × Zip S xs zs
zip_values R S g [] [] k h = ([], refl, tt)
zip_values R S g [] (y ∷ ys) k h = absurd h
zip_values R S g (x ∷ xs) [] k h = absurd h
zip_values R S g (x ∷ xs) (y ∷ ys) k h =
    let first = k x y h.0 in
    let rest = zip_values R S g xs ys k h.1 in
    (first.0 ∷ rest.0, rw (first.1, rest.1) refl, (first.2, rest.2))

-- each member and its place's
pub kept_gather : {A B C D : Type 0} (R : A → B → Type 0) (S : C → D → Type 0) (f : A → Outcome (List C))
    (g : B → Outcome (List D)) (xs : List A) (ys : List B)
    → ((a : A) (b : B) → R a b → Kept (Zip S) (f a) (g b)) → Zip R xs ys
    → Kept (Zip S) (gather f xs) (gather g ys)
kept_gather R S f g [] [] k h = ([], refl, tt)
kept_gather R S f g [] (y ∷ ys) k h = absurd h
kept_gather R S f g (x ∷ xs) [] k h = absurd h
kept_gather R S f g (x ∷ xs) (y ∷ ys) k h =
    kept_by (Zip S) (Zip S) (f x) (g y) (λ us. and_then (gather f xs) (λ vs. Value (us ++ vs)))
    (λ us. and_then (gather g ys) (λ vs. Value (us ++ vs))) (k x y h.0) (λ us ws i.
    kept_by (Zip S) (Zip S) (gather f xs) (gather g ys) (λ vs. Value (us ++ vs)) (λ vs. Value (ws ++ vs))
    (kept_gather R S f g xs ys k h.1) (λ vs zs j. (ws ++ zs, refl, zip_append S us vs ws zs i j)))

pub kept_alone : {A B : Type 0} (S : A → B → Type 0) (o : Outcome A) (p : Outcome B) → Kept S o p
    → Kept (Zip S) (alone o) (alone p)
kept_alone S o p h =
    kept_by S (Zip S) o p (λ x. Value (x ∷ [])) (λ x. Value (x ∷ [])) h (λ a b r. (b ∷ [], refl, (r, tt)))

pub kept_each : {A B C D : Type 0} (R : A → B → Type 0) (S : C → D → Type 0) (f : A → Outcome C) (g : B → Outcome D)
    (xs : List A) (ys : List B) → ((a : A) (b : B) → R a b → Kept S (f a) (g b)) → Zip R xs ys
    → Kept (Zip S) (each f xs) (each g ys)
kept_each R S f g xs ys k h =
    kept_gather R S (λ x. alone (f x)) (λ y. alone (g y)) xs ys (λ a b r. kept_alone S (f a) (g b) (k a b r)) h

-- ---- sorts

module _ {A B : Type 0} (R : A → B → Type 0) (c : A → A → Ordering) (d : B → B → Ordering)
    (alike : (x : A) (u : B) (y : A) (v : B) → R x u → R y v → c x y ≡ d u v) where
  zip_step : (b : Bool) (x : A) (u : B) (y : A) (v : B) (ys zs : List A) (vs ws : List B) → R x u → R y v → Zip R ys vs
      → Zip R zs ws → Zip R (cond b (y ∷ zs) (x ∷ y ∷ ys)) (cond b (v ∷ ws) (u ∷ v ∷ vs))
  zip_step true x u y v ys zs vs ws r s h k = (s, k)
  zip_step false x u y v ys zs vs ws r s h k = (r, (s, h))

  zip_insert : (x : A) (u : B) (ys : List A) (vs : List B) → R x u → Zip R ys vs
      → Zip R (insert_by c x ys) (insert_by d u vs)
  zip_insert x u [] [] r h = (r, tt)
  zip_insert x u [] (v ∷ vs) r h = absurd h
  zip_insert x u (y ∷ ys) [] r h = absurd h
  zip_insert x u (y ∷ ys) (v ∷ vs) r h =
      rw (alike x u y v r h.0) (zip_step (is_gt (d u v)) x u y v ys (insert_by c x ys) vs (insert_by d u vs) r h.0 h.1
      (zip_insert x u ys vs r h.1))

  -- sorts by orders that are alike
  pub zip_sort : (xs : List A) (us : List B) → Zip R xs us → Zip R (sort_by c xs) (sort_by d us)
  zip_sort [] [] h = tt
  zip_sort [] (u ∷ us) h = absurd h
  zip_sort (x ∷ xs) [] h = absurd h
  zip_sort (x ∷ xs) (u ∷ us) h = zip_insert x u (sort_by c xs) (sort_by d us) h.0 (zip_sort xs us h.1)
