-- Parts of a list of lexemes.
use Rattle.std.proofs.Common.{◌≡◌, ◌≤◌, ℕ, zero, suc, ◌+◌, List, [], ◌∷◌, ◌++◌, map, length, drop, slice_get, Some}
use Rattle.std.proofs.Common.{refl, sym, ap, ◌∙◌, subst, arith}
use Rattle.qc_js_lex.specs.declared.lexeme.Lexeme.{Lexeme}
use Rattle.qc_js_lex.specs.declared.lexeme.Lexeme.TheVariants.{Var, Function, Int, Text, Fixed}
use Rattle.qc_js_lex.specs.Lexemes.{kind}
use Rattle.qc_js_text.specs.inner.Actions.{var_of, called_of, int_of, text_of}

-- from the one place to the other the list has these lexemes
pub data Spans (ls : List Lexeme) : ℕ → List Lexeme → ℕ → Type 0 where
  none : {i : ℕ} → Spans ls i [] i
  also : {i j : ℕ} {x : Lexeme} {xs : List Lexeme} → slice_get ls i ≡ Some x → Spans ls (suc i) xs j
      → Spans ls i (x ∷ xs) j

module _ (ls : List Lexeme) where
  pub join : {i m j : ℕ} {xs ys : List Lexeme} → Spans ls i xs m → Spans ls m ys j → Spans ls i (xs ++ ys) j
  join none q = q
  join (also e p) q = also e (join p q)

  -- two parts
  pub record Parts (i : ℕ) (xs ys : List Lexeme) (j : ℕ) : Type 0 where
    pub place : ℕ
    pub first : Spans ls i xs place
    pub second : Spans ls place ys j

  later : {i j : ℕ} {x : Lexeme} {xs ys : List Lexeme} → slice_get ls i ≡ Some x → Parts (suc i) xs ys j
      → Parts i (x ∷ xs) ys j
  later e p = record { place = p.place; first = also e p.first; second = p.second }

  pub split : {i j : ℕ} (xs : List Lexeme) {ys : List Lexeme} → Spans ls i (xs ++ ys) j → Parts i xs ys j
  split [] p = record { place = _; first = none; second = p }
  split (x ∷ xs) (also e p) = later e (split xs p)

  -- the first of them
  pub record Head (i : ℕ) (x : Lexeme) (xs : List Lexeme) (j : ℕ) : Type 0 where
    pub here : slice_get ls i ≡ Some x
    pub more : Spans ls (suc i) xs j

  pub head : {i j : ℕ} {x : Lexeme} {xs : List Lexeme} → Spans ls i (x ∷ xs) j → Head i x xs j
  head (also e p) = record { here = e; more = p }

  pub ended : {i j : ℕ} → Spans ls i [] j → i ≡ j
  ended none = refl

-- ---- the whole list

drop_here : (ls : List Lexeme) (i : ℕ) (x : Lexeme) → slice_get ls i ≡ Some x → drop i ls ≡ x ∷ drop (suc i) ls
drop_here [] i x h = cc
drop_here (y ∷ ls) zero x h = cc
drop_here (y ∷ ls) (suc i) x h = drop_here ls i x h

here_of : (ls : List Lexeme) (i : ℕ) (x : Lexeme) (xs : List Lexeme) → drop i ls ≡ x ∷ xs
    → (slice_get ls i ≡ Some x) × (drop (suc i) ls ≡ xs)
here_of [] zero x xs h = cc
here_of [] (suc i) x xs h = cc
here_of (y ∷ ls) zero x xs h = (let e : y ≡ x = cc in ap (λ z. Some z) e, let e : ls ≡ xs = cc in e)
here_of (y ∷ ls) (suc i) x xs h = here_of ls i x xs h

at_end : (ls : List Lexeme) (i : ℕ) → i ≤ length ls → drop i ls ≡ [] → i ≡ length ls
at_end [] zero l h = refl
at_end [] (suc i) l h = absurd (omega arith)
at_end (x ∷ ls) zero l h = cc
at_end (x ∷ ls) (suc i) l h = ap (λ n. suc n) (at_end ls i (omega arith) h)

within : (ls : List Lexeme) (i : ℕ) (x : Lexeme) → slice_get ls i ≡ Some x → suc i ≤ length ls
within [] i x h = cc
within (y ∷ ls) zero x h = omega arith
within (y ∷ ls) (suc i) x h = let r = within ls i x h in omega arith

drop_end : (ls : List Lexeme) → drop (length ls) ls ≡ []
drop_end [] = refl
drop_end (x ∷ ls) = drop_end ls

to_end : (ls : List Lexeme) (i : ℕ) (xs : List Lexeme) → drop i ls ≡ xs → i ≤ length ls → Spans ls i xs (length ls)
to_end ls i [] h l = subst (λ z. Spans ls i [] z) (at_end ls i l h) none
to_end ls i (x ∷ xs) h l =
    let r = here_of ls i x xs h in also r.0 (to_end ls (suc i) xs r.1 (within ls i x r.0))

pub whole : (ls : List Lexeme) → Spans ls 0 ls (length ls)
whole ls = to_end ls 0 ls refl (omega arith)

rest_is : (ls : List Lexeme) {i j : ℕ} {xs : List Lexeme} → Spans ls i xs j → drop i ls ≡ xs ++ drop j ls
rest_is ls none = refl
rest_is ls (also {i = i} {j = j} {x = x} {xs = xs} e p) = drop_here ls i x e ∙ ap (λ z. x ∷ z) (rest_is ls p)

append-nil : (xs : List Lexeme) → xs ++ [] ≡ xs
append-nil [] = refl
append-nil (x ∷ xs) = ap (λ z. x ∷ z) (append-nil xs)

-- a part from the first to the last place is the list
pub is_whole : (ls xs : List Lexeme) → Spans ls 0 xs (length ls) → ls ≡ xs
is_whole ls xs p = rest_is ls p ∙ ap (λ z. xs ++ z) (drop_end ls) ∙ append-nil xs

-- ---- lexemes by their kinds

get_kind : (ls : List Lexeme) (i : ℕ) (x : Lexeme) → slice_get ls i ≡ Some x → slice_get (map kind ls) i ≡ Some (kind x)
get_kind [] i x h = cc
get_kind (y ∷ ls) zero x h = (let e : y ≡ x = cc in ap (λ z. Some (kind z)) e)
get_kind (y ∷ ls) (suc i) x h = get_kind ls i x h

of_kind : (ls : List Lexeme) (i k : ℕ) → slice_get (map kind ls) i ≡ Some k
    → (x : Lexeme) × (slice_get ls i ≡ Some x) × (kind x ≡ k)
of_kind [] i k h = cc
of_kind (y ∷ ls) zero k h = (y, refl, let e : kind y ≡ k = cc in e)
of_kind (y ∷ ls) (suc i) k h = of_kind ls i k h

fixed_is : (x : Lexeme) (n : ℕ) → kind x ≡ n + 4 → x ≡ Fixed n
fixed_is (Var x) n e = absurd (omega (arith, e))
fixed_is (Function f) n e = absurd (omega (arith, e))
fixed_is (Int k) n e = absurd (omega (arith, e))
fixed_is (Text t) n e = absurd (omega (arith, e))
fixed_is (Fixed m) n e = ap (λ z. Fixed z) (let q : m ≡ n = omega (arith, e) in q)

var_is : (x : Lexeme) → kind x ≡ 0 → x ≡ Var (var_of (Some x))
var_is (Var x) e = refl
var_is (Function f) e = absurd (omega (arith, e))
var_is (Int k) e = absurd (omega (arith, e))
var_is (Text t) e = absurd (omega (arith, e))
var_is (Fixed m) e = absurd (omega (arith, e))

function_is : (x : Lexeme) → kind x ≡ 1 → x ≡ Function (called_of (Some x))
function_is (Var x) e = absurd (omega (arith, e))
function_is (Function f) e = refl
function_is (Int k) e = absurd (omega (arith, e))
function_is (Text t) e = absurd (omega (arith, e))
function_is (Fixed m) e = absurd (omega (arith, e))

int_is : (x : Lexeme) → kind x ≡ 2 → x ≡ Int (int_of (Some x))
int_is (Var x) e = absurd (omega (arith, e))
int_is (Function f) e = absurd (omega (arith, e))
int_is (Int k) e = refl
int_is (Text t) e = absurd (omega (arith, e))
int_is (Fixed m) e = absurd (omega (arith, e))

text_is : (x : Lexeme) → kind x ≡ 3 → x ≡ Text (text_of (Some x))
text_is (Var x) e = absurd (omega (arith, e))
text_is (Function f) e = absurd (omega (arith, e))
text_is (Int k) e = absurd (omega (arith, e))
text_is (Text t) e = refl
text_is (Fixed m) e = absurd (omega (arith, e))

module _ (ls : List Lexeme) where
  -- a word or a mark
  pub fixed : {i : ℕ} (n : ℕ) → slice_get (map kind ls) i ≡ Some (n + 4) → Spans ls i (Fixed n ∷ []) (suc i)
  fixed {i = i} n h =
      let r = of_kind ls i (n + 4) h in also (r.1 ∙ ap (λ z. Some z) (fixed_is r.0 n r.2)) none

  -- lexemes with a value
  pub var : {i : ℕ} → slice_get (map kind ls) i ≡ Some 0 → Spans ls i (Var (var_of (slice_get ls i)) ∷ []) (suc i)
  var {i = i} h =
      let r = of_kind ls i 0 h in
      also (r.1 ∙ ap (λ z. Some z) (var_is r.0 r.2) ∙ ap (λ z. Some (Var (var_of z))) (sym r.1)) none

  pub function : {i : ℕ} → slice_get (map kind ls) i ≡ Some 1
      → Spans ls i (Function (called_of (slice_get ls i)) ∷ []) (suc i)
  function {i = i} h =
      let r = of_kind ls i 1 h in
      also (r.1 ∙ ap (λ z. Some z) (function_is r.0 r.2) ∙ ap (λ z. Some (Function (called_of z))) (sym r.1)) none

  pub int : {i : ℕ} → slice_get (map kind ls) i ≡ Some 2 → Spans ls i (Int (int_of (slice_get ls i)) ∷ []) (suc i)
  int {i = i} h =
      let r = of_kind ls i 2 h in
      also (r.1 ∙ ap (λ z. Some z) (int_is r.0 r.2) ∙ ap (λ z. Some (Int (int_of z))) (sym r.1)) none

  pub text : {i : ℕ} → slice_get (map kind ls) i ≡ Some 3 → Spans ls i (Text (text_of (slice_get ls i)) ∷ []) (suc i)
  text {i = i} h =
      let r = of_kind ls i 3 h in
      also (r.1 ∙ ap (λ z. Some z) (text_is r.0 r.2) ∙ ap (λ z. Some (Text (text_of z))) (sym r.1)) none

  -- its kind, the other way
  pub kind_at : (i : ℕ) (x : Lexeme) → slice_get ls i ≡ Some x → slice_get (map kind ls) i ≡ Some (kind x)
  kind_at i x h = get_kind ls i x h
