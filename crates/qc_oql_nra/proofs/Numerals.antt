-- Numerals of two letters: those of different numbers differ, and none is `row`.
use Rattle.std.proofs.Common.{◌≡◌, ℕ, zero, suc, ◌+◌, ◌-◌, ◌/◌, ◌%◌, ◌^◌, ◌<◌, ◌≤◌, Bool, true, false, not, ◌&&◌}
use Rattle.std.proofs.Common.{cond, nat_eq, nat_lt, nat_le, IsTrue, length, subst}
use Rattle.std.proofs.Common.{List, [], ◌∷◌, ◌++◌, refl, sym, ap, ◌∙◌, append_assoc, append-nil, arith}
use Rattle.std.specs.Prelude.{codes}
use Rattle.std.specs.Str.{bytes_eq}
use Rattle.std.proofs.lemmas.Bool.Decides.{Decides-eqb, nat_tests}
use Rattle.std.proofs.lemmas.Slice.Eq.{bytes_eq-Decides}
use Rattle.qc_containers.specs.Name.{is_marker, is_name}
use Rattle.qc_oql_nra.specs.OqlForms.{next_numeral, numeral}

-- the number of a numeral
abbrev number : List ℕ → ℕ
number [] = 0
number (c ∷ cs) = cond (nat_eq c 97) (suc (number cs + number cs)) (suc (suc (number cs + number cs)))

number_at : (b : Bool) (cs : List ℕ) → number (next_numeral cs) ≡ suc (number cs)
    → number (cond b (98 ∷ cs) (97 ∷ next_numeral cs))
    ≡ suc (cond b (suc (number cs + number cs)) (suc (suc (number cs + number cs))))
number_at true cs next = refl
number_at false cs next = omega (arith, next)

number_next : (s : List ℕ) → number (next_numeral s) ≡ suc (number s)
number_next [] = refl
number_next (c ∷ cs) = number_at (nat_eq c 97) cs (number_next cs)

number_is : (n : ℕ) → number (numeral n) ≡ n
number_is zero = refl
number_is (suc n) = number_next (numeral n) ∙ ap suc (number_is n)

differ : (i j : ℕ) (b : Bool) → bytes_eq (numeral j) (numeral i) ≡ b → i < j → b ≡ false
differ i j false e lt = refl
differ i j true e lt =
    let same : j ≡ i =
    sym (number_is j) ∙ ap number ((bytes_eq-Decides (numeral j) (numeral i)).0 e) ∙ number_is i in
    absurd (omega (arith, same))

pub numerals_differ : (i j : ℕ) → i < j → bytes_eq (numeral j) (numeral i) ≡ false
numerals_differ i j lt = differ i j (bytes_eq (numeral j) (numeral i)) refl lt

pub numeral_same : (n : ℕ) → bytes_eq (numeral n) (numeral n) ≡ true
numeral_same n = (bytes_eq-Decides (numeral n) (numeral n)).1 refl

pub no_numeral : (n : ℕ) → bytes_eq (codes "row") (numeral n) ≡ false
no_numeral zero = refl
no_numeral (suc n) = behind (numeral n)
  where
    behind : (s : List ℕ) → bytes_eq (codes "row") (next_numeral s) ≡ false
    behind [] = refl
    behind (c ∷ cs) =
        elim (nat_eq c 97) as (λ b. bytes_eq (codes "row") (cond b (98 ∷ cs) (97 ∷ next_numeral cs)) ≡ false)
        [ true ↦ refl | false ↦ refl ]

-- ---- names

-- the numbers of numerals of at most so many digits are less
abbrev limit : ℕ → ℕ
limit zero = 1
limit (suc k) = suc (limit k + limit k)

more : (b : Bool) (m k : ℕ) → cond b (suc (m + m)) (suc (suc (m + m))) < suc (k + k) → m < k
more true m k lt = omega (arith, lt)
more false m k lt = omega (arith, lt)

short : (k : ℕ) (s : List ℕ) → number s < limit k → length s ≤ k
short k [] lt = omega arith
short zero (c ∷ cs) lt = none (nat_eq c 97) (number cs) lt
  where
    none : {P : Type 0} (b : Bool) (m : ℕ) → cond b (suc (m + m)) (suc (suc (m + m))) < 1 → P
    none true m lt = absurd (omega (arith, lt))
    none false m lt = absurd (omega (arith, lt))
short (suc k) (c ∷ cs) lt =
    let rest = short k cs (more (nat_eq c 97) (number cs) (limit k) lt) in omega (arith, rest)

is_short : (n : ℕ) → n < 2 ^ 64 → length (numeral n) ≤ 64
is_short n lt = short 64 (numeral n) (subst (λ m. m < limit 64) (sym (number_is n)) (omega (arith, lt)))

some : (l : ℕ) → IsTrue (nat_lt 0 (suc l))
some l = grind (arith, nat_tests)

begins : (s : List ℕ) → IsTrue (nat_lt 0 (length (next_numeral s))) × (is_marker (next_numeral s) ≡ false)
begins [] = (refl, refl)
begins (c ∷ cs) =
    elim (nat_eq c 97) as (λ b. let s = cond b (98 ∷ cs) (97 ∷ next_numeral cs) in
    IsTrue (nat_lt 0 (length s)) × (is_marker s ≡ false)) [
      | true ↦ (some (length cs), refl)
      | false ↦ (some (length (next_numeral cs)), refl)
    ]

both_tests : (a b c : Bool) → IsTrue a → IsTrue b → c ≡ false → IsTrue (a && (b && not c))
both_tests true true false p q r = refl
both_tests true true true p q r = absurd (cc)
both_tests false b c p q r = absurd (cc)
both_tests true false c p q r = absurd (cc)

fits : (l : ℕ) → l ≤ 64 → IsTrue (nat_le l 64)
fits l h = grind (arith, nat_tests)

-- the numeral of a number of 64 bits is a name
pub numeral_name : (n : ℕ) → 0 < n → n < 2 ^ 64 → IsTrue (is_name (numeral n))
numeral_name zero at lt = absurd (omega (arith, at))
numeral_name (suc n) at lt =
    let test = begins (numeral n) in
    both_tests (nat_lt 0 (length (numeral (suc n)))) (nat_le (length (numeral (suc n))) 64)
    (is_marker (numeral (suc n))) test.0 (fits _ (is_short (suc n) lt)) test.1

-- ---- the lowest digit

doubles : (m : ℕ) → (numeral (suc (m + m)) ≡ 97 ∷ numeral m) × (numeral (suc (suc (m + m))) ≡ 98 ∷ numeral m)
doubles zero = (refl, refl)
doubles (suc m) =
    let two : suc m + suc m ≡ suc (suc (m + m)) = omega arith in
    let odd : numeral (suc (suc m + suc m)) ≡ 97 ∷ numeral (suc m) =
    ap (λ n. next_numeral (numeral n)) two ∙ ap next_numeral (doubles m).1 in
    (odd, ap next_numeral odd)

first_digit : (n m : ℕ) (b : Bool) → n ≡ cond b (suc (m + m)) (suc (suc (m + m)))
    → numeral n ≡ cond b 97 98 ∷ numeral m
first_digit n m true e = ap numeral e ∙ (doubles m).0
first_digit n m false e = ap numeral e ∙ (doubles m).1

is_odd : (r : ℕ) → nat_eq r 1 ≡ true → r ≡ 1
is_odd r e = (Decides-eqb r 1).0 e

is_even : (r : ℕ) → r < 2 → nat_eq r 1 ≡ false → r ≡ 0
is_even zero lt e = refl
is_even (suc zero) lt e = absurd (cc)
is_even (suc (suc r)) lt e = absurd (omega (arith, lt))

-- a digit behind others
pub one_more : (whole before digit after : List ℕ) (n : ℕ) → 0 < n → whole ≡ before ++ numeral n
    → digit ≡ cond (nat_eq (n % 2) 1) (codes "a") (codes "b") → after ≡ before ++ digit
    → whole ≡ after ++ numeral ((n - 1) / 2)
one_more whole before digit after n lt w d a =
    w ∙ ap (λ l. before ++ l) (at (nat_eq (n % 2) 1) refl ∙ ap (λ l. l ++ numeral ((n - 1) / 2)) (sym d))
    ∙ sym (append_assoc before digit (numeral ((n - 1) / 2))) ∙ ap (λ l. l ++ numeral ((n - 1) / 2)) (sym a)
  where
    at : (b : Bool) → nat_eq (n % 2) 1 ≡ b
        → numeral n ≡ cond b (codes "a") (codes "b") ++ numeral ((n - 1) / 2)
    at true e =
        let odd = is_odd (n % 2) e in
        first_digit n ((n - 1) / 2) true (omega (arith, odd, lt))
    at false e =
        let even = is_even (n % 2) (omega arith) e in
        first_digit n ((n - 1) / 2) false (omega (arith, even, lt))

-- no digit behind the last
pub no_more : (whole made : List ℕ) (n : ℕ) → n ≤ 0 → whole ≡ made ++ numeral n → made ≡ whole
no_more whole made zero lt e = sym (e ∙ append-nil made)
no_more whole made (suc n) lt e = absurd (omega (arith, lt))
