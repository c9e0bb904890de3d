-- Laws of outcomes.
use Rattle.std.proofs.Common.{◌≡◌, ◌⊎◌, ℤ, subst, Bool, true, false, ◌&&◌, if◌then◌else◌, inl, inr, List, [], ◌∷◌, ◌++◌}
use Rattle.std.proofs.Common.{map, refl, sym, ap, ◌∙◌, append_assoc, append-nil}
use Rattle.std.specs.List.{AllByRecursion}
use Rattle.std.specs.Prelude.{int_le}
use Rattle.qc_data.specs.Outcome.{any_size, within, Outcome, Range, Stuck, Value, Halts, bound, and_then, gather, each}
use Rattle.qc_data.specs.Outcome.{in_order, alone, IsKept, Agrees, Gives}
use Rattle.std.specs.Prelude.{Result, Err}
use Rattle.qc_data.specs.declared.halt.Halt.{Halt}

-- ---- the traversal, with what is done so far

abbrev pub gather_from : {A B : Type 0} → (A → Outcome (List B)) → List B → List A → Outcome (List B)
gather_from f done [] = Value done
gather_from f done (x ∷ xs) = and_then (f x) (λ ys. gather_from f (done ++ ys) xs)

abbrev before : {B : Type 0} → List B → Outcome (List B) → Outcome (List B)
before done o = and_then o (λ zs. Value (done ++ zs))

before_twice : {B : Type 0} (done ys : List B) (o : Outcome (List B))
    → before (done ++ ys) o ≡ before done (before ys o)
before_twice done ys (Value zs) = ap Value (append_assoc done ys zs)
before_twice done ys (Halts w) = refl

gather_from_step : {A B : Type 0} (f : A → Outcome (List B)) (done : List B) (o : Outcome (List B)) (xs : List A)
    → ((d : List B) → gather_from f d xs ≡ before d (gather f xs))
    → and_then o (λ ys. gather_from f (done ++ ys) xs) ≡ before done (and_then o (λ ys. before ys (gather f xs)))
gather_from_step f done (Value ys) xs h = h (done ++ ys) ∙ before_twice done ys (gather f xs)
gather_from_step f done (Halts w) xs h = refl

gather_from_is : {A B : Type 0} (f : A → Outcome (List B)) (done : List B) (xs : List A)
    → gather_from f done xs ≡ before done (gather f xs)
gather_from_is f done [] = ap Value (sym (append-nil done))
gather_from_is f done (x ∷ xs) = gather_from_step f done (f x) xs (λ d. gather_from_is f d xs)

before_none : {B : Type 0} (o : Outcome (List B)) → before [] o ≡ o
before_none (Value zs) = refl
before_none (Halts w) = refl

pub gather_is : {A B : Type 0} (f : A → Outcome (List B)) (xs : List A) → gather f xs ≡ gather_from f [] xs
gather_is f xs = sym (gather_from_is f [] xs ∙ before_none (gather f xs))

-- members that are made from others
pub each-map : {A B C : Type 0} (f : B → Outcome C) (h : A → B) (xs : List A)
    → each f (map h xs) ≡ each (λ x. f (h x)) xs
each-map f h [] = refl
each-map f h (x ∷ xs) =
    ap (λ o. and_then (alone (f (h x))) (λ ys. and_then o (λ zs. Value (ys ++ zs)))) (each-map f h xs)

pub in_order-map : {A B : Type 0} (f : A → Outcome B) (xs : List A) → in_order (map f xs) ≡ each f xs
in_order-map f xs = each-map (λ o. o) f xs

-- ---- two outcomes of one work

pub kept_same : {A : Type 0} (o : Outcome A) → IsKept o o
kept_same (Value v) = refl
kept_same (Halts w) = tt

pub kept_twice : {A : Type 0} (a b c : Outcome A) → IsKept a b → IsKept b c → IsKept a c
kept_twice (Value v) b c h k = let P : Outcome _ → Type 0 = λ o. IsKept o c in subst P h k
kept_twice (Halts w) b c h k = tt

pub kept_then : {A B : Type 0} (a b : Outcome A) (f g : A → Outcome B) → IsKept a b → ((v : A) → IsKept (f v) (g v))
    → IsKept (and_then a f) (and_then b g)
kept_then (Value v) b f g h k = rw h (k v)
kept_then (Halts w) b f g h k = tt

pub kept_gather : {A B : Type 0} (f g : A → Outcome (List B)) (xs : List A) → ((x : A) → IsKept (f x) (g x))
    → IsKept (gather f xs) (gather g xs)
kept_gather f g [] h = refl
kept_gather f g (x ∷ xs) h =
    kept_then (f x) (g x) (λ ys. and_then (gather f xs) (λ zs. Value (ys ++ zs)))
    (λ ys. and_then (gather g xs) (λ zs. Value (ys ++ zs))) (h x)
    (λ ys. kept_then (gather f xs) (gather g xs) (λ zs. Value (ys ++ zs)) (λ zs. Value (ys ++ zs))
    (kept_gather f g xs h) (λ zs. refl))

pub agrees_same : {A : Type 0} (o : Outcome A) → Agrees o o
agrees_same (Value v) = refl
agrees_same (Halts Range) = tt
agrees_same (Halts Stuck) = λ v e. cc

pub agrees_then : {A B : Type 0} (a b : Outcome A) (f g : A → Outcome B) → Agrees a b → ((v : A) → Agrees (f v) (g v))
    → Agrees (and_then a f) (and_then b g)
agrees_then a (Value v) f g h k = rw h (k v)
agrees_then a (Halts Range) f g h k = tt
agrees_then (Value v) (Halts Stuck) f g h k = absurd (h v refl)
agrees_then (Halts w) (Halts Stuck) f g h k = λ v e. cc

pub agrees_gather : {A B : Type 0} (f g : A → Outcome (List B)) (xs : List A) → ((x : A) → Agrees (f x) (g x))
    → Agrees (gather f xs) (gather g xs)
agrees_gather f g [] h = refl
agrees_gather f g (x ∷ xs) h =
    agrees_then (f x) (g x) (λ ys. and_then (gather f xs) (λ zs. Value (ys ++ zs)))
    (λ ys. and_then (gather g xs) (λ zs. Value (ys ++ zs))) (h x)
    (λ ys. agrees_then (gather f xs) (gather g xs) (λ zs. Value (ys ++ zs)) (λ zs. Value (ys ++ zs))
    (agrees_gather f g xs h) (λ zs. refl))

-- the same first part, and then two parts that agree
pub agrees_after : {A B : Type 0} (o : Outcome A) (f g : A → Outcome B) → ((v : A) → Agrees (f v) (g v))
    → Agrees (and_then o f) (and_then o g)
agrees_after o f g h = agrees_then o o f g (agrees_same o) h

-- members that agree one by one
pub agrees_each : {A B : Type 0} (f g : A → Outcome B) (xs : List A) → AllByRecursion (λ x. Agrees (f x) (g x)) xs
    → Agrees (each f xs) (each g xs)
agrees_each f g [] h = refl
agrees_each f g (x ∷ xs) h =
    agrees_then (alone (f x)) (alone (g x)) _ _ (agrees_then (f x) (g x) _ _ h.0 (λ v. refl))
    (λ ys. agrees_then (each f xs) (each g xs) (λ zs. Value (ys ++ zs)) (λ zs. Value (ys ++ zs))
    (agrees_each f g xs h.1) (λ zs. refl))

agrees_cond : (b : Bool) (n : ℤ) → Agrees (Value n) (if b then Value n else Halts Range)
agrees_cond true n = refl
agrees_cond false n = tt

pub agrees_bound : (lo hi n : ℤ) → Agrees (bound any_size n) (bound (within lo hi) n)
agrees_bound lo hi n = agrees_cond (int_le lo n && int_le n hi) n

-- where there is a value at any size, the outcome within bounds is this value or Range
pub same_or_range : {A : Type 0} (any bounded : Outcome A) (v : A) → Agrees any bounded → any ≡ Value v
    → (bounded ≡ Value v) ⊎ (bounded ≡ Halts Range)
same_or_range any (Value u) v a e = inl (sym a ∙ e)
same_or_range any (Halts Range) v a e = inr refl
same_or_range any (Halts Stuck) v a e = absurd (a v e)

-- ---- the code's answer

pub gives_stop : {A B : Type 0} (o : Outcome A) (f : A → Outcome B) (e : Halt) → Gives {A = A} o (Err e)
    → Gives {A = B} (and_then o f) (Err e)
gives_stop o f e h = λ n. rw (h n) refl

pub gives_go : {A B : Type 0} (o : Outcome A) (f : A → Outcome B) (v : A) (r : Result B Halt) → o ≡ Value v
    → Gives (f v) r → Gives (and_then o f) r
gives_go o f v r h k = rw h k

pub bind_assoc : {A B C : Type 0} (o : Outcome A) (f : A → Outcome B) (g : B → Outcome C)
    → and_then (and_then o f) g ≡ and_then o (λ x. and_then (f x) g)
bind_assoc (Value v) f g = refl
bind_assoc (Halts w) f g = refl
