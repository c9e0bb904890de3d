-- Where the machine goes on, the text begins with a blank, a comment or a token.
use Rattle.std.proofs.Common.{◌≡◌, ℕ, zero, suc, ◌+◌, ◌-◌, ◌*◌, ◌/◌, ◌%◌, ◌^◌, ◌<◌, ◌≤◌, pos, List, [], ◌∷◌}
use Rattle.std.proofs.Common.{◌++◌}
use Rattle.std.proofs.Common.{Bool, true, false, ◌==◌, nat_lt, if◌then◌else◌, decimal, Some, None}
use Rattle.std.proofs.Common.{Option}
use Rattle.std.proofs.Common.{length, refl, sym, ap, ◌∙◌, arith, subst, append-nil, append_assoc}
use Rattle.std.proofs.Common.{◌⊎◌, inl, inr}
use Rattle.std.specs.Prelude.{Err}
use Rattle.std.proofs.lemmas.Bool.Decides.{nat_tests}
use Rattle.std.proofs.lemmas.Int.{ints}
use Rattle.std.proofs.lemmas.Fmt.{decimal_step, decimal_digit}
use Rattle.std.proofs.lemmas.Str.{encode_ascii}
use Rattle.std.specs.Char.{is_ascii_digit, is_ascii_alphabetic, is_digit, encode_utf8}
use Rattle.std.specs.Str.{is_utf8}
use Rattle.qc_js.specs.declared.token.Token.{Token}
use Rattle.qc_js.specs.declared.token.Token.TheVariants as token
use Rattle.qc_js.specs.Held.{is_bits64}
use Rattle.qc_js.specs.Spelling as spelling
use Rattle.qc_js.specs.Spelling.{is_blank, is_mark, word_part, past_word, past_line, signed, is_plain, letter, are_hex}
use Rattle.qc_js.specs.Spelling.{is_high, is_low, Stands, done, plain, escape, unit, pair, Begins}
use Rattle.qc_js_lex.specs.declared.step.Act.TheVariants as act
use Rattle.qc_js_lex.specs.declared.step.Mode.{Mode}
use Rattle.qc_js_lex.specs.declared.step.Mode.TheVariants as mode
use Rattle.qc_js_lex.specs.inner.Machine.{scan_on, start, shifted, lone, is_scalar}
use Rattle.qc_js_lex.proofs.Runs.{pushed, letter_small, hex, lone_put, lone_high, paired_put, high_not_zero}

-- no token comes of this
abbrev Fails : Mode → List ℕ → List ℕ → Type 0
Fails m text bs = (from at : ℕ) → scan_on m text from at bs ≡ Err from

-- ---- integers

-- the digits of a number, which are the last of these
abbrev Number : Bool → ℕ → List ℕ → Type 0
Number minus k bs = (size : ℕ) × (rest : List ℕ) × (decimal k ++ bs ≡ decimal size ++ 110 ∷ rest)
    × (is_bits64 (signed minus size) ≡ true)

abbrev Digits : Bool → ℕ → List ℕ → Type 0
Digits minus k bs = Number minus k bs ⊎ Fails (mode.Digits minus (signed minus k)) [] bs

shifted_signed : (minus : Bool) (k d : ℕ) → shifted minus (signed minus k) d ≡ signed minus (k * 10 + d)
shifted_signed true k d = omega (arith, ints)
shifted_signed false k d = omega (arith, ints)

small_size : (minus : Bool) (k : ℕ) → is_bits64 (signed minus k) ≡ true → k < 2 ^ 64
small_size true k h = grind (arith, ints, nat_tests)
small_size false k h = grind (arith, ints, nat_tests)

digit_is : (c : ℕ) → is_ascii_digit c ≡ true → (c - 48 < 10) × (48 + (c - 48) ≡ c)
digit_is c h = let l : 48 ≤ c = grind (arith, nat_tests) in let u : c < 58 = grind (arith, nat_tests) in
    (omega (arith, l, u), omega (arith, l, u))

-- one more digit
grow : (minus : Bool) (k c : ℕ) (cs : List ℕ) → 0 < k → is_ascii_digit c ≡ true
    → is_bits64 (signed minus (k * 10 + (c - 48))) ≡ true
    → decimal (k * 10 + (c - 48)) ++ cs ≡ decimal k ++ c ∷ cs
grow minus k c cs p e h =
    let d = digit_is c e in
    let n = k * 10 + (c - 48) in
    let s = decimal_step n (omega (arith, p)) (small_size minus n h) in
    let q : n / 10 ≡ k = omega (arith, d.0) in
    let r : n % 10 ≡ c - 48 = omega (arith, d.0) in
    ap (λ z. z ++ cs) (s ∙ ap (λ z. decimal z ++ ((48 + n % 10) ∷ [])) q
    ∙ ap (λ z. decimal k ++ ((48 + z) ∷ [])) r ∙ ap (λ z. decimal k ++ (z ∷ [])) d.1)
    ∙ pushed (decimal k) c cs

digit_more : (minus : Bool) (k c : ℕ) (cs : List ℕ) → is_ascii_digit c ≡ true
    → is_bits64 (signed minus (k * 10 + (c - 48))) ≡ true → 0 < k → Digits minus (k * 10 + (c - 48)) cs
    → Digits minus k (c ∷ cs)
digit_more minus k c cs e f p (inl n) = inl (n.0, n.1, sym (grow minus k c cs p e f) ∙ n.2, n.3)
digit_more minus k c cs e f p (inr g) = inr (λ from at. rw (e, shifted_signed minus k (c - 48), f) (g from (at + 1)))

digit_by : (minus : Bool) (k c : ℕ) (cs : List ℕ) (t u x : Bool) → is_ascii_digit c ≡ t
    → is_bits64 (signed minus (k * 10 + (c - 48))) ≡ u → (c == 110) ≡ x → 0 < k
    → (0 < k * 10 + (c - 48) → is_bits64 (signed minus (k * 10 + (c - 48))) ≡ true
    → Digits minus (k * 10 + (c - 48)) cs)
    → is_bits64 (signed minus k) ≡ true → Digits minus k (c ∷ cs)
digit_by minus k c cs true true x e f y p h b = digit_more minus k c cs e f p (h (omega (arith, p)) f)
digit_by minus k c cs true false x e f y p h b =
    inr (λ from at. rw (e, shifted_signed minus k (c - 48), f) refl)
digit_by minus k c cs false u true e f y p h b =
    let is : c ≡ 110 = grind (arith, nat_tests) in inl (k, cs, ap (λ z. decimal k ++ z ∷ cs) is, b)
digit_by minus k c cs false u false e f y p h b = inr (λ from at. rw (e, y) refl)

digits : (minus : Bool) (bs : List ℕ) (k : ℕ) → 0 < k → is_bits64 (signed minus k) ≡ true → Digits minus k bs
digits minus [] k p b = inr (λ from at. refl)
digits minus (c ∷ cs) k p b =
    digit_by minus k c cs (is_ascii_digit c) (is_bits64 (signed minus (k * 10 + (c - 48)))) (c == 110) refl refl refl p
    (λ q f. digits minus cs (k * 10 + (c - 48)) q f) b

-- behind a zero
abbrev Zero : Bool → List ℕ → Type 0
Zero minus bs = ((rest : List ℕ) × (bs ≡ 110 ∷ rest)) ⊎ Fails mode.Zero [] bs

zero_by : (minus : Bool) (c : ℕ) (cs : List ℕ) (t : Bool) → (c == 110) ≡ t → Zero minus (c ∷ cs)
zero_by minus c cs true e = let is : c ≡ 110 = grind (arith, nat_tests) in inl (cs, ap (λ z. z ∷ cs) is)
zero_by minus c cs false e = inr (λ from at. rw e refl)

zero_ends : (minus : Bool) (bs : List ℕ) → Zero minus bs
zero_ends minus [] = inr (λ from at. refl)
zero_ends minus (c ∷ cs) = zero_by minus c cs (c == 110) refl

-- a sign or none, and a number
abbrev Written : Bool → List ℕ → Type 0
Written minus bs = (size : ℕ) × (rest : List ℕ) × (bs ≡ decimal size ++ 110 ∷ rest)
    × (is_bits64 (signed minus size) ≡ true)

first_digit : (minus : Bool) (c : ℕ) → is_ascii_digit c ≡ true → is_bits64 (signed minus (c - 48)) ≡ true
first_digit true c h = grind (arith, ints, nat_tests)
first_digit false c h = grind (arith, ints, nat_tests)

zero_written : (minus : Bool) (rest : List ℕ) → Written minus (48 ∷ 110 ∷ rest)
zero_written true rest = (0, rest, ap (λ z. z ++ 110 ∷ rest) (sym (decimal_digit 0 (omega arith))), refl)
zero_written false rest = (0, rest, ap (λ z. z ++ 110 ∷ rest) (sym (decimal_digit 0 (omega arith))), refl)

digit_written : (minus : Bool) (c : ℕ) (cs : List ℕ) → is_ascii_digit c ≡ true → Number minus (c - 48) cs
    → Written minus (c ∷ cs)
digit_written minus c cs e n =
    let d = digit_is c e in
    let w : decimal (c - 48) ≡ c ∷ [] = decimal_digit (c - 48) d.0 ∙ ap (λ z. z ∷ []) d.1 in
    (n.0, n.1, ap (λ z. z ++ cs) (sym w) ∙ n.2, n.3)

abbrev Minus : List ℕ → Type 0
Minus bs = Written true bs ⊎ Fails mode.Minus [] bs

minus_zero : (cs : List ℕ) → Zero true cs → Minus (48 ∷ cs)
minus_zero cs (inl n) = inl (subst (λ z. Written true (48 ∷ z)) (sym n.1) (zero_written true n.0))
minus_zero cs (inr g) = inr (λ from at. g from (at + 1))

minus_digit : (c : ℕ) (cs : List ℕ) → (c == 48) ≡ false → is_ascii_digit c ≡ true → Digits true (c - 48) cs
    → Minus (c ∷ cs)
minus_digit c cs z e (inl n) = inl (digit_written true c cs e n)
minus_digit c cs z e (inr g) = inr (λ from at. rw (z, e) (g from (at + 1)))

positive : (c : ℕ) → (c == 48) ≡ false → is_ascii_digit c ≡ true → 0 < c - 48
positive c z e =
    let l : 48 ≤ c = grind (arith, nat_tests) in let n : (c ≡ 48 → ⊥) = grind (arith, nat_tests) in omega (arith, l, n)

minus_by : (c : ℕ) (cs : List ℕ) (t u : Bool) → (c == 48) ≡ t → is_ascii_digit c ≡ u → Minus (c ∷ cs)
minus_by c cs true u z e =
    let is : 48 ≡ c = grind (arith, nat_tests) in subst (λ k. Minus (k ∷ cs)) is (minus_zero cs (zero_ends true cs))
minus_by c cs false true z e =
    minus_digit c cs z e (digits true cs (c - 48) (positive c z e) (first_digit true c e))
minus_by c cs false false z e = inr (λ from at. rw (z, e) refl)

after_minus : (bs : List ℕ) → Minus bs
after_minus [] = inr (λ from at. refl)
after_minus (c ∷ cs) = minus_by c cs (c == 48) (is_ascii_digit c) refl refl

-- ---- strings

-- the rest of a string
abbrev Ends : List ℕ → List ℕ → Type 0
Ends acc bs = (bytes : List ℕ) × (text : List ℕ) × (rest : List ℕ) × (bs ≡ bytes ++ 34 ∷ rest) × Stands bytes text
    × (is_utf8 (acc ++ text) ≡ true)

abbrev Content : List ℕ → List ℕ → Type 0
Content acc bs = Ends acc bs ⊎ Fails mode.Text acc bs

abbrev Shorter : ℕ → Type 0
Shorter n = (bs : List ℕ) → length bs ≤ n → (acc : List ℕ) → Content acc bs

closing : (acc bs : List ℕ) (t : Bool) → is_utf8 acc ≡ t → Content acc (34 ∷ bs)
closing acc bs true u = inl ([], [], bs, refl, done, ap is_utf8 (append-nil acc) ∙ u)
closing acc bs false u = inr (λ from at. rw u refl)

plain_keep : (b : ℕ) → (b == 34) ≡ false → (b == 92) ≡ false → nat_lt b 32 ≡ false → is_plain b ≡ true
plain_keep b p q r = grind (arith, nat_tests)

-- what was written goes on with the rest
with_plain : (acc : List ℕ) (b : ℕ) (bs : List ℕ) → (b == 34) ≡ false → (b == 92) ≡ false → nat_lt b 32 ≡ false
    → Content (acc ++ b ∷ []) bs → Content acc (b ∷ bs)
with_plain acc b bs p q r (inl e) =
    inl (
      b ∷ e.0,
      b ∷ e.1,
      e.2,
      ap (λ z. b ∷ z) e.3,
      plain b (plain_keep b p q r) e.4,
      ap is_utf8 (sym (append_assoc acc (b ∷ []) e.1)) ∙ e.5,
    )
with_plain acc b bs p q r (inr g) = inr (λ from at. rw (p, q, r) (g from (at + 1)))

-- ---- characters behind a backslash

no_letter : (o : Option ℕ) → (o ≡ None) ⊎ ((c : ℕ) × (o ≡ Some c))
no_letter None = inl refl
no_letter (Some c) = inr (c, refl)

-- one letter
with_letter : (acc : List ℕ) (e c : ℕ) (cs : List ℕ) → (e == 117) ≡ false → letter e ≡ Some c
    → Content (acc ++ c ∷ []) cs → Content acc (92 ∷ e ∷ cs)
with_letter acc e c cs p q (inl x) =
    inl (
      92 ∷ e ∷ x.0,
      c ∷ x.1,
      x.2,
      ap (λ z. 92 ∷ e ∷ z) x.3,
      escape e c q x.4,
      ap is_utf8 (sym (append_assoc acc (c ∷ []) x.1)) ∙ x.5,
    )
with_letter acc e c cs p q (inr g) =
    let n : encode_utf8 c ≡ c ∷ [] = encode_ascii c (letter_small e c q) in
    inr (λ from at. rw (p, q, n) (g from _))

letter_by : (n : ℕ) → Shorter n → (acc : List ℕ) (e : ℕ) (cs : List ℕ) → length cs ≤ n → (e == 117) ≡ false
    → (letter e ≡ None) ⊎ ((c : ℕ) × (letter e ≡ Some c)) → Content acc (92 ∷ e ∷ cs)
letter_by n h acc e cs l p (inl q) = inr (λ from at. rw (p, q) refl)
letter_by n h acc e cs l p (inr x) = with_letter acc e x.0 cs p x.1 (h cs l (acc ++ x.0 ∷ []))

-- four hexadecimal digits
abbrev Four : ℕ → List ℕ → List ℕ → Type 0
Four u acc bs = ((a : ℕ) × (b : ℕ) × (c : ℕ) × (d : ℕ) × (rest : List ℕ) × (bs ≡ a ∷ b ∷ c ∷ d ∷ rest)
    × (is_digit a 16 ≡ true) × (is_digit b 16 ≡ true) × (is_digit c 16 ≡ true) × (is_digit d 16 ≡ true))
    ⊎ Fails (mode.Hex0 u) acc bs

four_4 : (u : ℕ) (acc : List ℕ) (a b c d : ℕ) (bs : List ℕ) → is_digit a 16 ≡ true → is_digit b 16 ≡ true
    → is_digit c 16 ≡ true → (t : Bool) → is_digit d 16 ≡ t → Four u acc (a ∷ b ∷ c ∷ d ∷ bs)
four_4 u acc a b c d bs p q r true s = inl (a, b, c, d, bs, refl, p, q, r, s)
four_4 u acc a b c d bs p q r false s = inr (λ from at. rw (p, q, r, s) refl)

four_3 : (u : ℕ) (acc : List ℕ) (a b c : ℕ) (bs : List ℕ) → is_digit a 16 ≡ true → is_digit b 16 ≡ true
    → (t : Bool) → is_digit c 16 ≡ t → Four u acc (a ∷ b ∷ c ∷ bs)
four_3 u acc a b c bs p q false r = inr (λ from at. rw (p, q, r) refl)
four_3 u acc a b c [] p q true r = inr (λ from at. rw (p, q, r) refl)
four_3 u acc a b c (d ∷ bs) p q true r = four_4 u acc a b c d bs p q r (is_digit d 16) refl

four_2 : (u : ℕ) (acc : List ℕ) (a b : ℕ) (bs : List ℕ) → is_digit a 16 ≡ true → (t : Bool) → is_digit b 16 ≡ t
    → Four u acc (a ∷ b ∷ bs)
four_2 u acc a b bs p false q = inr (λ from at. rw (p, q) refl)
four_2 u acc a b [] p true q = inr (λ from at. rw (p, q) refl)
four_2 u acc a b (c ∷ bs) p true q = four_3 u acc a b c bs p q (is_digit c 16) refl

four_1 : (u : ℕ) (acc : List ℕ) (a : ℕ) (bs : List ℕ) → (t : Bool) → is_digit a 16 ≡ t → Four u acc (a ∷ bs)
four_1 u acc a bs false p = inr (λ from at. rw p refl)
four_1 u acc a [] true p = inr (λ from at. rw p refl)
four_1 u acc a (b ∷ bs) true p = four_2 u acc a b bs p (is_digit b 16) refl

four : (u : ℕ) (acc bs : List ℕ) → Four u acc bs
four u acc [] = inr (λ from at. refl)
four u acc (a ∷ bs) = four_1 u acc a bs (is_digit a 16) refl

-- a unit that is read, with its digits
record Read (a b c d w : ℕ) : Type 0 where
  first : is_digit a 16 ≡ true
  second : is_digit b 16 ≡ true
  third : is_digit c 16 ≡ true
  fourth : is_digit d 16 ≡ true
  value : w ≡ spelling.unit_of a b c d

hex_of : (a b c d w : ℕ) → Read a b c d w → are_hex a b c d ≡ true
hex_of a b c d w x = rw (x.first, x.second, x.third, x.fourth) refl

-- a unit that is no surrogate, and the rest
with_unit : (acc : List ℕ) (a b c d : ℕ) (bs : List ℕ) → Read a b c d (spelling.unit_of a b c d)
    → is_high (spelling.unit_of a b c d) ≡ false → is_low (spelling.unit_of a b c d) ≡ false
    → lone (spelling.unit_of a b c d) ≡ act.Put (spelling.unit_of a b c d)
    → Content (acc ++ encode_utf8 (spelling.unit_of a b c d)) bs → Content acc (92 ∷ 117 ∷ a ∷ b ∷ c ∷ d ∷ bs)
with_unit acc a b c d bs r p q k (inl x) =
    let w = spelling.unit_of a b c d in
    inl (
      92 ∷ 117 ∷ a ∷ b ∷ c ∷ d ∷ x.0,
      encode_utf8 w ++ x.1,
      x.2,
      ap (λ z. 92 ∷ 117 ∷ a ∷ b ∷ c ∷ d ∷ z) x.3,
      unit a b c d (hex_of a b c d w r) (rw (p, q) refl) x.4,
      ap is_utf8 (sym (append_assoc acc (encode_utf8 w) x.1)) ∙ x.5,
    )
with_unit acc a b c d bs r p q k (inr g) =
    inr (λ from at. rw (r.first, r.second, r.third, r.fourth, k) (g from _))

-- a pair, and the rest
with_pair : (acc : List ℕ) (a b c d e f g h : ℕ) (bs : List ℕ) → Read a b c d (spelling.unit_of a b c d)
    → Read e f g h (spelling.unit_of e f g h) → is_high (spelling.unit_of a b c d) ≡ true
    → is_low (spelling.unit_of e f g h) ≡ true
    → Content (acc ++ encode_utf8 (spelling.paired (spelling.unit_of a b c d) (spelling.unit_of e f g h))) bs
    → Content acc (92 ∷ 117 ∷ a ∷ b ∷ c ∷ d ∷ 92 ∷ 117 ∷ e ∷ f ∷ g ∷ h ∷ bs)
with_pair acc a b c d e f g h bs r s p q (inl x) =
    let w = spelling.unit_of a b c d in
    let z = spelling.unit_of e f g h in
    let o = spelling.paired w z in
    inl (
      92 ∷ 117 ∷ a ∷ b ∷ c ∷ d ∷ 92 ∷ 117 ∷ e ∷ f ∷ g ∷ h ∷ x.0,
      encode_utf8 o ++ x.1,
      x.2,
      ap (λ t. 92 ∷ 117 ∷ a ∷ b ∷ c ∷ d ∷ 92 ∷ 117 ∷ e ∷ f ∷ g ∷ h ∷ t) x.3,
      pair a b c d e f g h (hex_of a b c d w r) (hex_of e f g h z s) (rw (p, q) refl) x.4,
      ap is_utf8 (sym (append_assoc acc (encode_utf8 o) x.1)) ∙ x.5,
    )
with_pair acc a b c d e f g h bs r s p q (inr k) =
    let w = spelling.unit_of a b c d in
    let z = spelling.unit_of e f g h in
    inr (λ from at. rw (
      r.first,
      r.second,
      r.third,
      r.fourth,
      lone_high w p,
      s.first,
      s.second,
      s.third,
      s.fourth,
      high_not_zero w p,
      paired_put w z p q,
    ) (k from _))

-- what follows the first of a pair
abbrev High : ℕ → List ℕ → List ℕ → Type 0
High w acc bs = ((e : ℕ) × (f : ℕ) × (g : ℕ) × (h : ℕ) × (rest : List ℕ)
    × (bs ≡ 92 ∷ 117 ∷ e ∷ f ∷ g ∷ h ∷ rest) × Read e f g h (spelling.unit_of e f g h)
    × (is_low (spelling.unit_of e f g h) ≡ true)) ⊎ Fails (mode.High w) acc bs

high_low : (w : ℕ) (acc : List ℕ) (e f g h : ℕ) (bs : List ℕ) → Read e f g h (spelling.unit_of e f g h)
    → is_high w ≡ true → (t : Bool) → is_low (spelling.unit_of e f g h) ≡ t
    → High w acc (92 ∷ 117 ∷ e ∷ f ∷ g ∷ h ∷ bs)
high_low w acc e f g h bs s p true q = inl (e, f, g, h, bs, refl, s, q)
high_low w acc e f g h bs s p false q =
    inr (λ from at. rw (s.first, s.second, s.third, s.fourth, high_not_zero w p, p, q) refl)

high_four : (w : ℕ) (acc bs : List ℕ) → is_high w ≡ true → Four w acc bs → High w acc (92 ∷ 117 ∷ bs)
high_four w acc bs p (inl x) =
    let s : Read x.0 x.1 x.2 x.3 (spelling.unit_of x.0 x.1 x.2 x.3) =
    record { first = x.6; second = x.7; third = x.8; fourth = x.9; value = refl } in
    subst (λ z. High w acc (92 ∷ 117 ∷ z)) (sym x.5)
    (high_low w acc x.0 x.1 x.2 x.3 x.4 s p (is_low (spelling.unit_of x.0 x.1 x.2 x.3)) refl)
high_four w acc bs p (inr g) = inr (λ from at. g from _)

high_u : (w : ℕ) (acc : List ℕ) (y : ℕ) (bs : List ℕ) (t : Bool) → (y == 117) ≡ t → is_high w ≡ true
    → High w acc (92 ∷ y ∷ bs)
high_u w acc y bs true e p =
    let is : 117 ≡ y = grind (arith, nat_tests) in
    subst (λ z. High w acc (92 ∷ z ∷ bs)) is (high_four w acc bs p (four w acc bs))
high_u w acc y bs false e p = inr (λ from at. rw e refl)

high_escape : (w : ℕ) (acc bs : List ℕ) → is_high w ≡ true → High w acc (92 ∷ bs)
high_escape w acc [] p = inr (λ from at. refl)
high_escape w acc (y ∷ bs) p = high_u w acc y bs (y == 117) refl p

high_by : (w : ℕ) (acc : List ℕ) (x : ℕ) (bs : List ℕ) (t : Bool) → (x == 92) ≡ t → is_high w ≡ true
    → High w acc (x ∷ bs)
high_by w acc x bs true e p =
    let is : 92 ≡ x = grind (arith, nat_tests) in
    subst (λ z. High w acc (z ∷ bs)) is (high_escape w acc bs p)
high_by w acc x bs false e p = inr (λ from at. rw e refl)

after_high : (w : ℕ) (acc bs : List ℕ) → is_high w ≡ true → High w acc bs
after_high w acc [] p = inr (λ from at. refl)
after_high w acc (x ∷ bs) p = high_by w acc x bs (x == 92) refl p

-- a second of a pair alone
not_scalar : (u : ℕ) → is_high u ≡ false → is_low u ≡ true → lone u ≡ act.Bad
not_scalar u p q = let s : is_scalar u ≡ false = grind (arith, nat_tests) in rw (p, s) refl

unit_paired : (n : ℕ) → Shorter n → (acc : List ℕ) (a b c d : ℕ) (bs : List ℕ) → length bs ≤ n
    → Read a b c d (spelling.unit_of a b c d) → is_high (spelling.unit_of a b c d) ≡ true
    → High (spelling.unit_of a b c d) acc bs → Content acc (92 ∷ 117 ∷ a ∷ b ∷ c ∷ d ∷ bs)
unit_paired n h acc a b c d bs l r p (inl x) =
    let o = spelling.paired (spelling.unit_of a b c d) (spelling.unit_of x.0 x.1 x.2 x.3) in
    subst (λ z. Content acc (92 ∷ 117 ∷ a ∷ b ∷ c ∷ d ∷ z)) (sym x.5)
    (with_pair acc a b c d x.0 x.1 x.2 x.3 x.4 r x.6 p x.7
    (h x.4 (omega (arith, l, ap length x.5)) (acc ++ encode_utf8 o)))
unit_paired n h acc a b c d bs l r p (inr g) =
    inr (λ from at. rw (r.first, r.second, r.third, r.fourth, lone_high (spelling.unit_of a b c d) p) (g from _))

unit_by : (n : ℕ) → Shorter n → (acc : List ℕ) (a b c d : ℕ) (bs : List ℕ) → length bs ≤ n
    → Read a b c d (spelling.unit_of a b c d) → spelling.unit_of a b c d < 65536
    → (t u : Bool) → is_high (spelling.unit_of a b c d) ≡ t → is_low (spelling.unit_of a b c d) ≡ u
    → Content acc (92 ∷ 117 ∷ a ∷ b ∷ c ∷ d ∷ bs)
unit_by n h acc a b c d bs l r k true u p q =
    unit_paired n h acc a b c d bs l r p (after_high (spelling.unit_of a b c d) acc bs p)
unit_by n h acc a b c d bs l r k false true p q =
    inr (λ from at. rw (r.first, r.second, r.third, r.fourth, not_scalar (spelling.unit_of a b c d) p q) refl)
unit_by n h acc a b c d bs l r k false false p q =
    with_unit acc a b c d bs r p q (lone_put (spelling.unit_of a b c d) k p q)
    (h bs l (acc ++ encode_utf8 (spelling.unit_of a b c d)))

unit_read : (n : ℕ) → Shorter n → (acc bs : List ℕ) → length bs ≤ n → Four 0 acc bs → Content acc (92 ∷ 117 ∷ bs)
unit_read n h acc bs l (inl x) =
    let s : Read x.0 x.1 x.2 x.3 (spelling.unit_of x.0 x.1 x.2 x.3) =
    record { first = x.6; second = x.7; third = x.8; fourth = x.9; value = refl } in
    let w = spelling.unit_of x.0 x.1 x.2 x.3 in
    subst (λ z. Content acc (92 ∷ 117 ∷ z)) (sym x.5)
    (unit_by n h acc x.0 x.1 x.2 x.3 x.4 (omega (arith, l, ap length x.5)) s
    (hex x.0 x.1 x.2 x.3 (hex_of x.0 x.1 x.2 x.3 w s)).bound (is_high w) (is_low w) refl refl)
unit_read n h acc bs l (inr g) = inr (λ from at. g from _)

escaped_by : (n : ℕ) → Shorter n → (acc : List ℕ) (e : ℕ) (cs : List ℕ) → length cs ≤ n → (t : Bool) → (e == 117) ≡ t
    → Content acc (92 ∷ e ∷ cs)
escaped_by n h acc e cs l true p =
    let is : 117 ≡ e = grind (arith, nat_tests) in
    subst (λ z. Content acc (92 ∷ z ∷ cs)) is (unit_read n h acc cs l (four 0 acc cs))
escaped_by n h acc e cs l false p = letter_by n h acc e cs l p (no_letter (letter e))

escaped : (n : ℕ) → Shorter n → (acc bs : List ℕ) → length bs ≤ n → Content acc (92 ∷ bs)
escaped n h acc [] l = inr (λ from at. refl)
escaped n h acc (e ∷ cs) l = escaped_by n h acc e cs (omega (arith, l)) (e == 117) refl

text_by : (n : ℕ) → Shorter n → (acc : List ℕ) (b : ℕ) (bs : List ℕ) → length bs ≤ n → (t u v : Bool) → (b == 34) ≡ t
    → (b == 92) ≡ u → nat_lt b 32 ≡ v → Content acc (b ∷ bs)
text_by n h acc b bs l true u v p q r =
    let is : 34 ≡ b = grind (arith, nat_tests) in
    subst (λ z. Content acc (z ∷ bs)) is (closing acc bs (is_utf8 acc) refl)
text_by n h acc b bs l false true v p q r =
    let is : 92 ≡ b = grind (arith, nat_tests) in subst (λ z. Content acc (z ∷ bs)) is (escaped n h acc bs l)
text_by n h acc b bs l false false true p q r = inr (λ from at. rw (p, q, r) refl)
text_by n h acc b bs l false false false p q r = with_plain acc b bs p q r (h bs l (acc ++ b ∷ []))

contents : (n : ℕ) → Shorter n
contents n [] l acc = inr (λ from at. refl)
contents zero (b ∷ bs) l acc = absurd (omega (arith, l))
contents (suc n) (b ∷ bs) l acc =
    text_by n (contents n) acc b bs (omega (arith, l)) (b == 34) (b == 92) (nat_lt b 32) refl refl refl

-- ---- texts

-- a text that begins with something, or does not
abbrev pub Goes : List ℕ → Type 0
Goes text = ((us : List Token) × (rest : List ℕ) × Begins text us rest)
    ⊎ ((from at : ℕ) → scan_on mode.Between [] from at text ≡ Err at)

begins_signed : (minus : Bool) (bs : List ℕ) → Written minus bs → (us : List Token) × (rest : List ℕ)
    × Begins (spelling.sign minus ++ bs) us rest
begins_signed minus bs n = (
  token.Int (signed minus n.0) ∷ [],
  n.1,
  spelling.int (signed minus n.0) _ n.1 (record {
    minus = minus;
    size = n.0;
    value = refl;
    written = ap (λ z. spelling.sign minus ++ z) n.2;
    bits64 = n.3;
  }),
)

signed_goes : (bs : List ℕ) → Minus bs → Goes (45 ∷ bs)
signed_goes bs (inl n) = inl (begins_signed true bs n)
signed_goes bs (inr g) = inr (λ from at. g at _)

zero_goes : (bs : List ℕ) → Zero false bs → Goes (48 ∷ bs)
zero_goes bs (inl n) = inl (begins_signed false (48 ∷ bs)
    (subst (λ z. Written false (48 ∷ z)) (sym n.1) (zero_written false n.0)))
zero_goes bs (inr g) = inr (λ from at. g at _)

start_is : (b : ℕ) → (b == 48) ≡ false → is_ascii_digit b ≡ true
    → start b ≡ act.Begin (mode.Digits false (pos (b - 48)))
start_is b z e =
    let n : is_blank b ≡ false = grind (arith, nat_tests) in
    let a : is_ascii_alphabetic b ≡ false = grind (arith, nat_tests) in
    let m : (b == 45) ≡ false = grind (arith, nat_tests) in
    rw (n, a, m, z, e) refl

digit_goes : (b : ℕ) (bs : List ℕ) → (b == 48) ≡ false → is_ascii_digit b ≡ true → Digits false (b - 48) bs
    → Goes (b ∷ bs)
digit_goes b bs z e (inl n) = inl (begins_signed false (b ∷ bs) (digit_written false b bs e n))
digit_goes b bs z e (inr g) = inr (λ from at. rw (start_is b z e) (g at _))

string_goes : (bs : List ℕ) → Content [] bs → Goes (34 ∷ bs)
string_goes bs (inl x) =
    inl (
      token.Text x.1 ∷ [],
      x.2,
      spelling.string x.1 _ x.2 (record {
        bytes = x.0;
        written = ap (λ z. 34 ∷ z) x.3;
        stands = x.4;
        utf8 = x.5;
      }),
    )
string_goes bs (inr g) = inr (λ from at. g at _)

slash_by : (c : ℕ) (bs : List ℕ) (t : Bool) → (c == 47) ≡ t → Goes (47 ∷ c ∷ bs)
slash_by c bs true e =
    let is : 47 ≡ c = grind (arith, nat_tests) in
    subst (λ z. Goes (47 ∷ z ∷ bs)) is (inl ([], past_line bs, spelling.comment bs))
slash_by c bs false e = inr (λ from at. rw e refl)

slash_goes : (bs : List ℕ) → Goes (47 ∷ bs)
slash_goes [] = inr (λ from at. refl)
slash_goes (c ∷ bs) = slash_by c bs (c == 47) refl

at_byte : (n b : ℕ) (bs : List ℕ) → (b == n) ≡ true → Goes (n ∷ bs) → Goes (b ∷ bs)
at_byte n b bs e g = let is : n ≡ b = grind (arith, nat_tests) in subst (λ z. Goes (z ∷ bs)) is g

by_mark : (b : ℕ) (bs : List ℕ) (t : Bool) → is_mark b ≡ t → start b ≡ (if t then act.Mark else act.BadHere)
    → Goes (b ∷ bs)
by_mark b bs true e s = inl (token.Mark b ∷ [], bs, spelling.mark b bs e)
by_mark b bs false e s = inr (λ from at. rw s refl)

by_slash : (b : ℕ) (bs : List ℕ) (t : Bool) → (b == 47) ≡ t
    → start b ≡ (if t then act.Begin mode.Slash else (if is_mark b then act.Mark else act.BadHere)) → Goes (b ∷ bs)
by_slash b bs true e s = at_byte 47 b bs e (slash_goes bs)
by_slash b bs false e s = by_mark b bs (is_mark b) refl s

by_quote : (b : ℕ) (bs : List ℕ) (t : Bool) → (b == 34) ≡ t
    → start b ≡ (if t then act.Begin mode.Text
    else if b == 47 then act.Begin mode.Slash else (if is_mark b then act.Mark else act.BadHere)) → Goes (b ∷ bs)
by_quote b bs true e s = at_byte 34 b bs e (string_goes bs (contents (length bs) bs (omega arith) []))
by_quote b bs false e s = by_slash b bs (b == 47) refl s

by_digit : (b : ℕ) (bs : List ℕ) (t : Bool) → is_ascii_digit b ≡ t → (b == 48) ≡ false
    → start b ≡ (if t then act.Begin (mode.Digits false (pos (b - 48))) else if b == 34 then act.Begin mode.Text
    else if b == 47 then act.Begin mode.Slash else (if is_mark b then act.Mark else act.BadHere)) → Goes (b ∷ bs)
by_digit b bs true e z s =
    digit_goes b bs z e (digits false bs (b - 48) (positive b z e) (first_digit false b e))
by_digit b bs false e z s = by_quote b bs (b == 34) refl s

by_zero : (b : ℕ) (bs : List ℕ) (t : Bool) → (b == 48) ≡ t
    → start b ≡ (if t then act.Begin mode.Zero
    else if is_ascii_digit b then act.Begin (mode.Digits false (pos (b - 48))) else if b == 34 then act.Begin mode.Text
    else if b == 47 then act.Begin mode.Slash else (if is_mark b then act.Mark else act.BadHere)) → Goes (b ∷ bs)
by_zero b bs true e s = at_byte 48 b bs e (zero_goes bs (zero_ends false bs))
by_zero b bs false e s = by_digit b bs (is_ascii_digit b) refl e s

by_minus : (b : ℕ) (bs : List ℕ) (t : Bool) → (b == 45) ≡ t
    → start b ≡ (if t then act.Begin mode.Minus else if b == 48 then act.Begin mode.Zero
    else if is_ascii_digit b then act.Begin (mode.Digits false (pos (b - 48))) else if b == 34 then act.Begin mode.Text
    else if b == 47 then act.Begin mode.Slash else (if is_mark b then act.Mark else act.BadHere)) → Goes (b ∷ bs)
by_minus b bs true e s = at_byte 45 b bs e (signed_goes bs (after_minus bs))
by_minus b bs false e s = by_zero b bs (b == 48) refl s

by_letter : (b : ℕ) (bs : List ℕ) (t : Bool) → is_ascii_alphabetic b ≡ t
    → start b ≡ (if t then act.BeginKeep mode.Word else if b == 45 then act.Begin mode.Minus
    else if b == 48 then act.Begin mode.Zero
    else if is_ascii_digit b then act.Begin (mode.Digits false (pos (b - 48))) else if b == 34 then act.Begin mode.Text
    else if b == 47 then act.Begin mode.Slash else (if is_mark b then act.Mark else act.BadHere)) → Goes (b ∷ bs)
by_letter b bs true e s = inl (token.Word (b ∷ word_part bs) ∷ [], past_word bs, spelling.word b bs e)
by_letter b bs false e s = by_minus b bs (b == 45) refl s

by_blank : (b : ℕ) (bs : List ℕ) (t : Bool) → is_blank b ≡ t
    → start b ≡ (if t then act.Skip else if is_ascii_alphabetic b then act.BeginKeep mode.Word
    else if b == 45 then act.Begin mode.Minus else if b == 48 then act.Begin mode.Zero
    else if is_ascii_digit b then act.Begin (mode.Digits false (pos (b - 48))) else if b == 34 then act.Begin mode.Text
    else if b == 47 then act.Begin mode.Slash else (if is_mark b then act.Mark else act.BadHere)) → Goes (b ∷ bs)
by_blank b bs true e s = inl ([], bs, spelling.blank b bs e)
by_blank b bs false e s = by_letter b bs (is_ascii_alphabetic b) refl s

pub goes_on : (b : ℕ) (bs : List ℕ) → Goes (b ∷ bs)
goes_on b bs = by_blank b bs (is_blank b) refl refl
