-- Outcomes against what checks of trees give, one step after another.
use Rattle.std.proofs.Common.{◌≡◌, ℕ, Bool, true, false, List, [], ◌∷◌, ◌++◌, Option, Some, None, IsTrue, refl, ap, ◌∙◌}
use Rattle.std.proofs.Common.{subst}
use Rattle.std.specs.Prelude.{Result, Ok, Err}
use Rattle.qc_data.specs.Outcome.{Mode, Outcome, Value, and_then, gather, each, alone}
use Rattle.qc_types.proofs.Inductions.{AllOf}
use Rattle.qc_typing.specs.Checking.{and_check, or_fault, need, each_checked}
use Rattle.qc_typing.proofs.Outcomes.{Holds, Typed, holds_then, holds_gather}

-- where the check gives something, a value of which R holds with it; within bounds it may be Range instead
abbrev pub Checked : {A T : Type 0} → Mode → (A → T → Type 0) → Result T ℕ → Outcome A → Type 0
Checked m R (Ok t) o = Holds m (λ v. R v t) o
Checked m R (Err at) o = Unit {0}

-- two lists, place by place
abbrev pub Zip : {A B : Type 0} → (A → B → Type 0) → List A → List B → Type 0
Zip R [] [] = Unit {0}
Zip R [] (y ∷ ys) = ⊥
Zip R (x ∷ xs) [] = ⊥
Zip R (x ∷ xs) (y ∷ ys) = R x y × Zip R xs ys

-- ---- one step

pub checked_known : {A T : Type 0} (m : Mode) (R : A → T → Type 0) (r : Result T ℕ) (o : Outcome A)
    → ((t : T) → r ≡ Ok t → Holds m (λ v. R v t) o) → Checked m R r o
checked_known m R (Ok t) o h = h t refl
checked_known m R (Err at) o h = tt

-- what the check gave
pub checked_at : {A T : Type 0} (m : Mode) (R : A → T → Type 0) (r : Result T ℕ) (t : T) (o : Outcome A) → r ≡ Ok t
    → Checked m R r o → Holds m (λ v. R v t) o
checked_at m R r t o e h = let P : Result _ ℕ → Type 0 = λ s. Checked m R s o in subst P e h

-- a type at a place
pub checked_fault : {A T : Type 0} (m : Mode) (R : A → T → Type 0) (at : ℕ) (r : Option T) (o : Outcome A)
    → Typed m R r o → Checked m R (or_fault at r) o
checked_fault m R at None o h = tt
checked_fault m R at (Some t) o h = h

-- a check that gives nothing of the value
pub checked_by : {A T U : Type 0} (m : Mode) (S : A → U → Type 0) (r : Result T ℕ) (g : T → Result U ℕ) (o : Outcome A)
    → ((t : T) → r ≡ Ok t → Checked m S (g t) o) → Checked m S (and_check r g) o
checked_by m S (Ok t) g o h = h t refl
checked_by m S (Err at) g o h = tt

pub checked_need : {A T : Type 0} (m : Mode) (S : A → T → Type 0) (at : ℕ) (b : Bool) (g : Unit {0} → Result T ℕ)
    (o : Outcome A) → (IsTrue b → Checked m S (g tt) o) → Checked m S (and_check (need at b) g) o
checked_need m S at true g o h = h refl
checked_need m S at false g o h = tt

-- a value of which P holds, and then a check
pub checked_after : {A B T : Type 0} (m : Mode) (P : A → Type 0) (S : B → T → Type 0) (r : Result T ℕ) (o : Outcome A)
    (f : A → Outcome B) → Holds m P o → ((v : A) → P v → Checked m S r (f v)) → Checked m S r (and_then o f)
checked_after m P S (Ok t) o f h k = holds_then m P (λ w. S w t) o f h k
checked_after m P S (Err at) o f h k = tt

pub checked_then : {A B T U : Type 0} (m : Mode) (R : A → T → Type 0) (S : B → U → Type 0) (r : Result T ℕ)
    (o : Outcome A) (g : T → Result U ℕ) (f : A → Outcome B)
    → Checked m R r o → ((t : T) (v : A) → R v t → Checked m S (g t) (f v)) → Checked m S (and_check r g) (and_then o f)
checked_then m R S (Ok t) o g f h k = checked_after m (λ v. R v t) S (g t) o f h (k t)
checked_then m R S (Err at) o g f h k = tt

-- the same, where the check of a first step is part of a longer one
pub checked_chain : {A B T U V : Type 0} (m : Mode) (R : A → T → Type 0) (S : B → V → Type 0) (r : Result T ℕ)
    (o : Outcome A) (g : T → Result U ℕ) (h : U → Result V ℕ) (f : A → Outcome B)
    → Checked m R r o → ((t : T) (v : A) → R v t → Checked m S (and_check (g t) h) (f v))
    → Checked m S (and_check (and_check r g) h) (and_then o f)
checked_chain m R S (Ok t) o g h f i k = checked_after m (λ v. R v t) S (and_check (g t) h) o f i (k t)
checked_chain m R S (Err at) o g h f i k = tt

-- a check, and then a step that needs none
pub checked_map : {A B T : Type 0} (m : Mode) (R : A → T → Type 0) (S : B → T → Type 0) (r : Result T ℕ) (o : Outcome A)
    (f : A → Outcome B)
    → Checked m R r o → ((t : T) (v : A) → R v t → Holds m (λ w. S w t) (f v)) → Checked m S r (and_then o f)
checked_map m R S (Ok t) o f h k = holds_then m (λ v. R v t) (λ w. S w t) o f h (k t)
checked_map m R S (Err at) o f h k = tt

-- one check of all members
pub checked_gather : {A B T : Type 0} (m : Mode) (P : A → Type 0) (R : B → T → Type 0) (r : Result T ℕ)
    (f : A → Outcome (List B)) (xs : List A) → AllOf P xs
    → ((x : A) → P x → Checked m (λ ys t. AllOf (λ y. R y t) ys) r (f x))
    → Checked m (λ ys t. AllOf (λ y. R y t) ys) r (gather f xs)
checked_gather m P R (Ok t) f xs h k = holds_gather m P (λ y. R y t) f xs h k
checked_gather m P R (Err at) f xs h k = tt

-- ---- lists place by place

pub zip_append : {A B : Type 0} (R : A → B → Type 0) (xs us : List A) (ys vs : List B) → Zip R xs ys → Zip R us vs
    → Zip R (xs ++ us) (ys ++ vs)
zip_append R [] us [] vs h k = k
zip_append R [] us (y ∷ ys) vs h k = absurd h
zip_append R (x ∷ xs) us [] vs h k = absurd h
zip_append R (x ∷ xs) us (y ∷ ys) vs h k = (h.0, zip_append R xs us ys vs h.1 k)

-- by way of a third list
pub zip_through : {A B C : Type 0} (S : A → B → Type 0) (P : A → C → Type 0) (Q : B → C → Type 0) (xs : List A)
    (ys : List B) (zs : List C) → ((x : A) (y : B) (z : C) → S x y → P x z → Q y z) → Zip S xs ys → Zip P xs zs
    → Zip Q ys zs
zip_through S P Q [] [] [] f h k = tt
zip_through S P Q [] [] (z ∷ zs) f h k = absurd k
zip_through S P Q [] (y ∷ ys) zs f h k = absurd h
zip_through S P Q (x ∷ xs) [] zs f h k = absurd h
zip_through S P Q (x ∷ xs) (y ∷ ys) [] f h k = absurd k
zip_through S P Q (x ∷ xs) (y ∷ ys) (z ∷ zs) f h k = (f x y z h.0 k.0, zip_through S P Q xs ys zs f h.1 k.1)

-- with what holds of each of the second list
pub zip_with : {A B : Type 0} (R : A → B → Type 0) (P : B → Type 0) (xs : List A) (ys : List B) → Zip R xs ys
    → AllOf P ys → Zip (λ x y. R x y × P y) xs ys
zip_with R P [] [] h k = tt
zip_with R P [] (y ∷ ys) h k = absurd h
zip_with R P (x ∷ xs) [] h k = absurd h
zip_with R P (x ∷ xs) (y ∷ ys) h k = ((h.0, k.0), zip_with R P xs ys h.1 k.1)

-- the members' values, each with what stands at its place
pub each_zip : {A B T : Type 0} (m : Mode) (R : B → T → Type 0) (f : A → Outcome B) (xs : List A) (ts : List T)
    → Zip (λ x t. Holds m (λ v. R v t) (f x)) xs ts → Holds m (λ vs. Zip R vs ts) (each f xs)
each_zip m R f [] [] h = tt
each_zip m R f [] (t ∷ ts) h = absurd h
each_zip m R f (x ∷ xs) [] h = absurd h
each_zip m R f (x ∷ xs) (t ∷ ts) h =
    holds_then m (λ us. Zip R us (t ∷ [])) (λ vs. Zip R vs (t ∷ ts)) (alone (f x))
    (λ us. and_then (each f xs) (λ vs. Value (us ++ vs)))
    (holds_then m (λ v. R v t) (λ us. Zip R us (t ∷ [])) (f x) (λ v. Value (v ∷ [])) h.0 (λ v k. (k, tt)))
    (λ us k. holds_then m (λ vs. Zip R vs ts) (λ vs. Zip R vs (t ∷ ts)) (each f xs) (λ vs. Value (us ++ vs))
    (each_zip m R f xs ts h.1) (λ vs i. zip_append R us vs (t ∷ []) ts k i))

-- what a check gave of each member
first_ok : {A T : Type 0} (f : A → Result T ℕ) (x : A) (xs : List A) (r : Result T ℕ) (q : Result (List T) ℕ) → f x ≡ r
    → ((us : List T) → q ≡ Ok us → Zip (λ x t. f x ≡ Ok t) xs us)
    → (ts : List T) → and_check r (λ y. and_check q (λ ys. Ok (y ∷ ys))) ≡ Ok ts → Zip (λ x t. f x ≡ Ok t) (x ∷ xs) ts
first_ok f x xs (Err at) q is ih ts e = absurd (cc)
first_ok f x xs (Ok t) (Err at) is ih ts e = absurd (cc)
first_ok f x xs (Ok t) (Ok us) is ih [] e = absurd (cc)
first_ok f x xs (Ok t) (Ok us) is ih (u ∷ ts) e =
    let first : t ≡ u = cc in let rest : us ≡ ts = cc in (is ∙ ap Ok first, ih ts (ap Ok rest))

pub each_ok : {A T : Type 0} (f : A → Result T ℕ) (xs : List A) (ts : List T) → each_checked f xs ≡ Ok ts
    → Zip (λ x t. f x ≡ Ok t) xs ts
each_ok f [] [] e = tt
each_ok f [] (t ∷ ts) e = absurd (cc)
each_ok f (x ∷ xs) ts e = first_ok f x xs (f x) (each_checked f xs) refl (each_ok f xs) ts e

-- each member against its check
pub checked_each : {A B C T : Type 0} (m : Mode) (S : A → B → Type 0) (R : C → T → Type 0) (f : A → Result T ℕ)
    (g : B → Outcome C) (xs : List A) (ys : List B) → ((x : A) (y : B) → S x y → Checked m R (f x) (g y)) → Zip S xs ys
    → Checked m (λ vs ts. Zip R vs ts) (each_checked f xs) (each g ys)
checked_each m S R f g xs ys h z = checked_known m (λ vs ts. Zip R vs ts) (each_checked f xs) (each g ys) (λ ts e.
    each_zip m R g ys ts (zip_through S (λ x t. f x ≡ Ok t) (λ y t. Holds m (λ v. R v t) (g y)) xs ys ts
    (λ x y t s k. checked_at m R (f x) t (g y) k (h x y s)) z (each_ok f xs ts e)))
