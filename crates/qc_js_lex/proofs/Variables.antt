-- The numbers of variables.
use Rattle.std.proofs.Common.{◌≡◌, ℕ, ◌<◌, ◌^◌, List, Bool, true, false, ◌&&◌, Option, Some, None, if◌then◌else◌}
use Rattle.std.proofs.Common.{decimal, refl, sym, ap, ◌∙◌, arith, subst}
use Rattle.std.specs.Prelude.{Result, Ok, Err}
use Rattle.std.proofs.lemmas.Bool.Decides.{nat_tests}
use Rattle.std.proofs.lemmas.Fmt.{decimal_is_IsNumeral_wide, parse-decimal_wide}
use Rattle.std.proofs.lemmas.Slice.Eq.{bytes_eq-Decides}
use Rattle.std.specs.Str.{bytes_eq}
use Rattle.std.specs.Str.Parse.{digits_value, ParsesUnsigned}
use Rattle.qc_js.specs.Held.{is_number}
use Rattle.qc_js.proofs.Tests.{both-left, both-right}
use Rattle.qc_js_lex.specs.Lexemes.{number_in}

number_bound : (x : ℕ) → is_number x ≡ true → x < 2 ^ 128
number_bound x h = grind (arith, nat_tests)

bound_number : (x : ℕ) → x < 2 ^ 128 → is_number x ≡ true
bound_number x h = grind (arith, nat_tests)

wide : (x : ℕ) → x < 2 ^ 128 → x < 10 ^ 64
wide x h = omega (arith, h)

abbrev tested : ℕ → List ℕ → Option ℕ
tested x ds = if is_number x && bytes_eq ds (decimal x) then Some x else None

-- the digits of a number give it back
pub number_known : (x : ℕ) → is_number x ≡ true → number_in (decimal x) ≡ Some x
unfolding number_in
number_known x h =
    let v : digits_value 10 (decimal x) ≡ x = (decimal_is_IsNumeral_wide x (wide x (number_bound x h))).1 in
    let t : tested x (decimal x) ≡ Some x = rw (h, (bytes_eq-Decides (decimal x) (decimal x)).1 refl) refl in
    ap (λ z. tested z (decimal x)) v ∙ t

-- a number that these digits are
by_test : (x : ℕ) (ds : List ℕ) (t : Bool) → (is_number x && bytes_eq ds (decimal x)) ≡ t → (y : ℕ)
    → (if t then Some x else None) ≡ Some y → (decimal y ≡ ds) × (is_number y ≡ true)
by_test x ds true e y h =
    let same : x ≡ y = cc in
    let d : ds ≡ decimal x =
    (bytes_eq-Decides ds (decimal x)).0 (both-right (is_number x) (bytes_eq ds (decimal x)) e) in (
      ap decimal (sym same) ∙ sym d,
      subst (λ z. is_number z ≡ true) same
          (both-left (is_number x) (bytes_eq ds (decimal x)) e),
    )
by_test x ds false e y h = absurd (cc)

pub number_read : (ds : List ℕ) (y : ℕ) → number_in ds ≡ Some y → (decimal y ≡ ds) × (is_number y ≡ true)
unfolding number_in
number_read ds y h = by_test (digits_value 10 ds) ds _ refl y h

-- what parsing says
no_number : (o : Option ℕ) → ((y : ℕ) → o ≡ Some y → ⊥) → o ≡ None
no_number None h = refl
no_number (Some y) h = absurd (h y refl)

parsed : {E : Type 0} (ds : List ℕ) (r : Result ℕ E) (y : ℕ) → ParsesUnsigned 128 10 ds r → number_in ds ≡ Some y
    → r ≡ Ok y
parsed ds r y p h =
    let n = number_read ds y h in
    let b : y < 2 ^ 128 = number_bound y n.1 in
    parse-decimal_wide 128 y ds r b (wide y b) (sym n.0) p

pub unread : {E : Type 0} (ds : List ℕ) (r : Result ℕ E) (e : E) → ParsesUnsigned 128 10 ds r → r ≡ Err e
    → None ≡ number_in ds
unread ds r e p is = sym (no_number (number_in ds) (λ y h. let q = parsed ds r y p h in absurd cc))

pub read : (ds : List ℕ) (x : ℕ) → x < 2 ^ 128 → decimal x ≡ ds → Some x ≡ number_in ds
read ds x b e = sym (subst (λ z. number_in z ≡ Some x) e (number_known x (bound_number x b)))

pub other : {E : Type 0} (ds : List ℕ) (r : Result ℕ E) (x : ℕ) → ParsesUnsigned 128 10 ds r → r ≡ Ok x
    → (decimal x ≡ ds → ⊥) → None ≡ number_in ds
other ds r x p is apart =
    sym (no_number (number_in ds) (λ y h.
    let q = parsed ds r y p h in
    let same : x ≡ y = cc in
    apart (ap decimal same ∙ (number_read ds y h).0)))

shortest_by : (ds : List ℕ) (x : ℕ) (t : Bool) → bytes_eq (decimal x) ds ≡ t → x < 2 ^ 128
    → ((decimal x ≡ ds → ⊥) → None ≡ number_in ds) → (if t then Some x else None) ≡ number_in ds
shortest_by ds x true e b h = read ds x b ((bytes_eq-Decides (decimal x) ds).0 e)
shortest_by ds x false e b h =
    h (λ q. (let y : true ≡ false = sym ((bytes_eq-Decides (decimal x) ds).1 q) ∙ e in absurd cc))

-- where parsing gives a number
pub parsed_in : {E : Type 0} (ds : List ℕ) (r : Result ℕ E) (x : ℕ) (o : Option ℕ) → ParsesUnsigned 128 10 ds r
    → r ≡ Ok x → x < 2 ^ 128 → o ≡ (if bytes_eq (decimal x) ds then Some x else None) → o ≡ number_in ds
parsed_in ds r x o p is b e =
    e ∙ shortest_by ds x (bytes_eq (decimal x) ds) refl b (λ apart. other ds r x p is apart)
