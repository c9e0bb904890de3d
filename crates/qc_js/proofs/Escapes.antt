-- How a text stands in a string stands for it.
use Rattle.std.proofs.Common.{◌≡◌, ℕ, ◌+◌, ◌*◌, ◌/◌, ◌%◌, ◌<◌, List, [], ◌∷◌, ◌++◌, Bool, true, false, ◌&&◌, ◌==◌, not}
use Rattle.std.proofs.Common.{nat_lt, refl, sym, ap, ◌∙◌, arith, subst}
use Rattle.std.proofs.lemmas.Bool.Decides.{nat_tests}
use Rattle.std.proofs.lemmas.Str.{encode_ascii, digit_value-digit_char}
use Rattle.std.specs.Char.{digit_char, digit_value, encode_utf8}
use Rattle.qc_js.specs.Layout.{escaped, escaped_byte}
use Rattle.qc_js.specs.Spelling.{are_hex, unit_of, is_high, is_low, Stands, done, plain, escape, unit}

module _ (bytes text : List ℕ) (h : Stands bytes text) where
  abbrev P : ℕ → Type 0
  P z = Stands (escaped_byte z ++ bytes) (z ∷ text)

  at_number : (n b : ℕ) → (b == n) ≡ true → P n → P b
  at_number n b e p = let is : n ≡ b = grind (arith, nat_tests) in subst P is p

  as_it_is : (b : ℕ) → (b == 34) ≡ false → (b == 92) ≡ false → nat_lt 31 b ≡ true → P b
  as_it_is b p q r = rw (p, q, r) (plain b (rw (p, q, r) refl) h)

  -- \u00 and two digits
  control : (b : ℕ) → b < 32 → Stands (92 ∷ 117 ∷ 48 ∷ 48 ∷ digit_char (b / 16) ∷ digit_char (b % 16) ∷ bytes)
      (b ∷ text)
  control b l =
      let d : b / 16 < 16 = omega arith in
      let e : b % 16 < 16 = omega arith in
      let v : digit_value (digit_char (b / 16)) ≡ b / 16 = digit_value-digit_char (b / 16) (omega (arith, d)) in
      let w : digit_value (digit_char (b % 16)) ≡ b % 16 = digit_value-digit_char (b % 16) (omega (arith, e)) in
      let dt : nat_lt (b / 16) 16 ≡ true = grind (arith, nat_tests) in
      let et : nat_lt (b % 16) 16 ≡ true = grind (arith, nat_tests) in
      let s : 0 * 4096 + 0 * 256 + b / 16 * 16 + b % 16 ≡ b = omega arith in
      let u : unit_of 48 48 (digit_char (b / 16)) (digit_char (b % 16)) ≡ b = rw (v, w) s in
      let x : are_hex 48 48 (digit_char (b / 16)) (digit_char (b % 16)) ≡ true = rw (v, w, dt, et) refl in
      let hi : is_high b ≡ false = grind (arith, nat_tests) in
      let lo : is_low b ≡ false = grind (arith, nat_tests) in
      let n : (not (is_high b) && not (is_low b)) ≡ true = rw (hi, lo) refl in
      let en : encode_utf8 b ≡ b ∷ [] = encode_ascii b (omega arith) in
      subst (λ z. Stands (92 ∷ 117 ∷ 48 ∷ 48 ∷ digit_char (b / 16) ∷ digit_char (b % 16) ∷ bytes) (z ++ text))
      (ap encode_utf8 u ∙ en)
      (unit 48 48 (digit_char (b / 16)) (digit_char (b % 16)) x
      (subst (λ z. (not (is_high z) && not (is_low z)) ≡ true) (sym u) n) h)

  by_9 : (b : ℕ) (t : Bool) → (b == 9) ≡ t → (b == 34) ≡ false → (b == 92) ≡ false → nat_lt 31 b ≡ false
      → (b == 8) ≡ false → (b == 12) ≡ false → (b == 10) ≡ false → (b == 13) ≡ false → P b
  by_9 b true e p q r s u v w = at_number 9 b e (escape 116 9 refl h)
  by_9 b false e p q r s u v w = rw (p, q, r, s, u, v, w, e) (control b (grind (arith, nat_tests)))

  by_13 : (b : ℕ) (t : Bool) → (b == 13) ≡ t → (b == 34) ≡ false → (b == 92) ≡ false → nat_lt 31 b ≡ false
      → (b == 8) ≡ false → (b == 12) ≡ false → (b == 10) ≡ false → P b
  by_13 b true e p q r s u v = at_number 13 b e (escape 114 13 refl h)
  by_13 b false e p q r s u v = by_9 b (b == 9) refl p q r s u v e

  by_10 : (b : ℕ) (t : Bool) → (b == 10) ≡ t → (b == 34) ≡ false → (b == 92) ≡ false → nat_lt 31 b ≡ false
      → (b == 8) ≡ false → (b == 12) ≡ false → P b
  by_10 b true e p q r s u = at_number 10 b e (escape 110 10 refl h)
  by_10 b false e p q r s u = by_13 b (b == 13) refl p q r s u e

  by_12 : (b : ℕ) (t : Bool) → (b == 12) ≡ t → (b == 34) ≡ false → (b == 92) ≡ false → nat_lt 31 b ≡ false
      → (b == 8) ≡ false → P b
  by_12 b true e p q r s = at_number 12 b e (escape 102 12 refl h)
  by_12 b false e p q r s = by_10 b (b == 10) refl p q r s e

  by_8 : (b : ℕ) (t : Bool) → (b == 8) ≡ t → (b == 34) ≡ false → (b == 92) ≡ false → nat_lt 31 b ≡ false → P b
  by_8 b true e p q r = at_number 8 b e (escape 98 8 refl h)
  by_8 b false e p q r = by_12 b (b == 12) refl p q r e

  by_31 : (b : ℕ) (t : Bool) → nat_lt 31 b ≡ t → (b == 34) ≡ false → (b == 92) ≡ false → P b
  by_31 b true e p q = as_it_is b p q e
  by_31 b false e p q = by_8 b (b == 8) refl p q e

  by_92 : (b : ℕ) (t : Bool) → (b == 92) ≡ t → (b == 34) ≡ false → P b
  by_92 b true e p = at_number 92 b e (escape 92 92 refl h)
  by_92 b false e p = by_31 b (nat_lt 31 b) refl p e

  by_34 : (b : ℕ) (t : Bool) → (b == 34) ≡ t → P b
  by_34 b true e = at_number 34 b e (escape 34 34 refl h)
  by_34 b false e = by_92 b (b == 92) refl e

pub escaped_stands : (text : List ℕ) → Stands (escaped text) text
escaped_stands [] = done
escaped_stands (b ∷ bs) = by_34 (escaped bs) bs (escaped_stands bs) b (b == 34) refl
