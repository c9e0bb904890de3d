-- Steps over the joined lists that outcomes give.
use Rattle.std.proofs.Common.{◌≡◌, List, [], ◌∷◌, ◌++◌, map, refl, sym, ap, ◌∙◌, append_assoc}
use Rattle.qc_data.specs.Outcome.{Outcome, Why, Value, Halts, and_then, gather}

-- two steps that give the same
pub then_same : {A B : Type 0} (o : Outcome A) (f g : A → Outcome B) → ((x : A) → f x ≡ g x)
    → and_then o f ≡ and_then o g
then_same (Value x) f g e = e x
then_same (Halts w) f g e = refl

-- no step
pub then_value : {B : Type 0} (o : Outcome B) → and_then o (λ x. Value x) ≡ o
then_value (Value x) = refl
then_value (Halts w) = refl

-- ---- lists that outcomes give, joined

abbrev pub joins : {B : Type 0} → Outcome (List B) → Outcome (List B) → Outcome (List B)
joins a b = and_then a (λ xs. and_then b (λ ys. Value (xs ++ ys)))

joins_assoc : {B : Type 0} (a b c : Outcome (List B)) → joins a (joins b c) ≡ joins (joins a b) c
joins_assoc (Halts w) b c = refl
joins_assoc (Value xs) (Halts w) c = refl
joins_assoc (Value xs) (Value ys) (Halts w) = refl
joins_assoc (Value xs) (Value ys) (Value zs) = ap Value (sym (append_assoc xs ys zs))

pub gather_append : {A B : Type 0} (g : A → Outcome (List B)) (xs ys : List A)
    → gather g (xs ++ ys) ≡ joins (gather g xs) (gather g ys)
gather_append g [] ys = sym (then_value (gather g ys))
gather_append g (x ∷ xs) ys = ap (joins (g x)) (gather_append g xs ys) ∙ joins_assoc (g x) (gather g xs) (gather g ys)

-- ---- members that are made from others

pub map_append : {A B : Type 0} (h : A → B) (xs ys : List A) → map h (xs ++ ys) ≡ map h xs ++ map h ys
map_append h [] ys = refl
map_append h (x ∷ xs) ys = ap (λ zs. h x ∷ zs) (map_append h xs ys)

joined_made : {A B : Type 0} (h : A → B) (a b : Outcome (List A))
    → and_then (joins a b) (λ xs. Value (map h xs))
    ≡ joins (and_then a (λ xs. Value (map h xs))) (and_then b (λ xs. Value (map h xs)))
joined_made h (Halts w) b = refl
joined_made h (Value xs) (Halts w) = refl
joined_made h (Value xs) (Value ys) = ap Value (map_append h xs ys)

-- what a step gives on made members, where on each it gives what is made of what another step gives
pub gather_made : {A B C D : Type 0} (h : A → B) (k : C → D) (f : A → Outcome (List C)) (g : B → Outcome (List D))
    (xs : List A)
    → ((x : A) → and_then (f x) (λ ys. Value (map k ys)) ≡ g (h x))
    → and_then (gather f xs) (λ ys. Value (map k ys)) ≡ gather g (map h xs)
gather_made h k f g [] e = refl
gather_made h k f g (x ∷ xs) e =
    joined_made k (f x) (gather f xs) ∙ (ap (λ o. joins o (and_then (gather f xs) (λ ys. Value (map k ys)))) (e x)
    ∙ ap (joins (g (h x))) (gather_made h k f g xs e))

-- ---- a second step behind the first one on all members, from what it has given so far

abbrev pub both_from : {A B C : Type 0} → (A → Outcome (List B)) → (List B → Outcome (List C)) → List C → List A
    → Outcome (List C)
both_from f g done xs = and_then (gather f xs) (λ ys. and_then (g ys) (λ zs. Value (done ++ zs)))

module _ {A B C : Type 0} (f : A → Outcome (List B)) (g : List B → Outcome (List C)) where
  pub both_begun : (xs : List A) → and_then (gather f xs) g ≡ both_from f g [] xs
  both_begun xs =
      then_same (gather f xs) g (λ ys. and_then (g ys) (λ zs. Value ([] ++ zs))) (λ ys. sym (then_value (g ys)))

  -- the first step on one member more
  first_more : (done : List C) (x : A) (xs : List A) (ys : List B) → f x ≡ Value ys
      → both_from f g done (x ∷ xs) ≡ and_then (gather f xs) (λ zs. and_then (g (ys ++ zs)) (λ ks. Value (done ++ ks)))
  first_more done x xs ys e = rw e (bound (gather f xs))
    where
      bound : (o : Outcome (List B)) → and_then (and_then o (λ zs. Value (ys ++ zs)))
          (λ us. and_then (g us) (λ ks. Value (done ++ ks)))
          ≡ and_then o (λ zs. and_then (g (ys ++ zs)) (λ ks. Value (done ++ ks)))
      bound (Value zs) = refl
      bound (Halts w) = refl

  pub both_stop_first : (done : List C) (x : A) (xs : List A) (w : Why) → f x ≡ Halts w
      → both_from f g done (x ∷ xs) ≡ Halts w
  both_stop_first done x xs w e = rw e refl

  module _ (joined : (xs ys : List B) → g (xs ++ ys) ≡ joins (g xs) (g ys)) where
    given : (done ks : List C) (ys zs : List B) → g ys ≡ Value ks
        → and_then (g (ys ++ zs)) (λ us. Value (done ++ us)) ≡ and_then (g zs) (λ us. Value ((done ++ ks) ++ us))
    given done ks ys zs e = rw (joined ys zs, e) (bound (g zs))
      where
        bound : (o : Outcome (List C)) → and_then (and_then o (λ us. Value (ks ++ us))) (λ us. Value (done ++ us))
            ≡ and_then o (λ us. Value ((done ++ ks) ++ us))
        bound (Value us) = ap Value (sym (append_assoc done ks us))
        bound (Halts w) = refl

    pub both_more : (done ks : List C) (x : A) (xs : List A) (ys : List B) → f x ≡ Value ys → g ys ≡ Value ks
        → both_from f g done (x ∷ xs) ≡ both_from f g (done ++ ks) xs
    both_more done ks x xs ys e h =
        first_more done x xs ys e
        ∙ then_same (gather f xs) (λ zs. and_then (g (ys ++ zs)) (λ us. Value (done ++ us)))
        (λ zs. and_then (g zs) (λ us. Value ((done ++ ks) ++ us))) (λ zs. given done ks ys zs h)

    -- where the second step halts, the first one on the later members decides
    pub both_stop : (done : List C) (x : A) (xs : List A) (ys : List B) (w : Why) → f x ≡ Value ys → g ys ≡ Halts w
        → both_from f g done (x ∷ xs) ≡ and_then (gather f xs) (λ zs. Halts w)
    both_stop done x xs ys w e h =
        first_more done x xs ys e
        ∙ then_same (gather f xs) (λ zs. and_then (g (ys ++ zs)) (λ us. Value (done ++ us))) (λ zs. Halts w)
        (λ zs. rw (joined ys zs, h) refl)
