-- Laws of checks.
use Rattle.std.proofs.Common.{◌≡◌, ℕ, List, [], ◌∷◌, ◌++◌, refl, sym, ap, ◌∙◌, append_assoc, append-nil}
use Rattle.std.specs.Prelude.{Result, Ok, Err}
use Rattle.qc_typing.specs.Checking.{and_check, each_checked}

-- ---- the traversal, with what is done so far

abbrev pub checked_from : {A B : Type 0} → (A → Result B ℕ) → List B → List A → Result (List B) ℕ
checked_from f done [] = Ok done
checked_from f done (x ∷ xs) = and_check (f x) (λ y. checked_from f (done ++ y ∷ []) xs)

abbrev before : {B : Type 0} → List B → Result (List B) ℕ → Result (List B) ℕ
before done r = and_check r (λ ys. Ok (done ++ ys))

before_more : {B : Type 0} (done : List B) (y : B) (r : Result (List B) ℕ)
    → before (done ++ y ∷ []) r ≡ before done (and_check r (λ ys. Ok (y ∷ ys)))
before_more done y (Ok ys) = ap Ok (append_assoc done (y ∷ []) ys)
before_more done y (Err at) = refl

step : {A B : Type 0} (f : A → Result B ℕ) (done : List B) (r : Result B ℕ) (xs : List A)
    → ((d : List B) → checked_from f d xs ≡ before d (each_checked f xs))
    → and_check r (λ y. checked_from f (done ++ y ∷ []) xs)
    ≡ before done (and_check r (λ y. and_check (each_checked f xs) (λ ys. Ok (y ∷ ys))))
step f done (Ok y) xs h = h (done ++ y ∷ []) ∙ before_more done y (each_checked f xs)
step f done (Err at) xs h = refl

checked_from_is : {A B : Type 0} (f : A → Result B ℕ) (done : List B) (xs : List A)
    → checked_from f done xs ≡ before done (each_checked f xs)
checked_from_is f done [] = ap Ok (sym (append-nil done))
checked_from_is f done (x ∷ xs) = step f done (f x) xs (λ d. checked_from_is f d xs)

before_none : {B : Type 0} (r : Result (List B) ℕ) → before [] r ≡ r
before_none (Ok ys) = refl
before_none (Err at) = refl

pub each_checked_is : {A B : Type 0} (f : A → Result B ℕ) (xs : List A) → each_checked f xs ≡ checked_from f [] xs
each_checked_is f xs = sym (checked_from_is f [] xs ∙ before_none (each_checked f xs))
