-- What the machine makes of what a text begins with.
use Rattle.std.proofs.Common.{◌≡◌, ℕ, zero, suc, ◌+◌, ◌-◌, ◌*◌, ◌/◌, ◌%◌, ◌^◌, ◌<◌, ◌≤◌, ℤ, pos, ◌-ℤ◌, List, [], ◌∷◌}
use Rattle.std.proofs.Common.{◌++◌}
use Rattle.std.proofs.Common.{Bool, true, false, ◌==◌, ◌&&◌, ◌||◌, not, if◌then◌else◌, decimal, Some, None}
use Rattle.std.proofs.Common.{Option}
use Rattle.std.proofs.Common.{length, map, take, refl, sym, ap, ◌∙◌, arith, subst, append-nil, append_assoc}
use Rattle.std.specs.Prelude.{Ok, Err}
use Rattle.std.proofs.lemmas.Bool.Decides.{nat_tests}
use Rattle.std.proofs.lemmas.Int.{ints}
use Rattle.std.proofs.lemmas.Fmt.{decimal_by_steps, decimal_digit}
use Rattle.std.proofs.lemmas.Str.{encode_ascii, IsUtf8-from_ascii, is_utf8-from_IsUtf8}
use Rattle.std.specs.Char.{is_ascii_digit, is_ascii_alphabetic, is_ascii_alphanumeric, is_digit, digit_value}
use Rattle.std.specs.Char.{encode_utf8}
use Rattle.std.specs.Str.{is_utf8, IsAscii}
use Rattle.qc_js.specs.declared.token.Token.{Token}
use Rattle.qc_js.specs.declared.token.Token.TheVariants as token
use Rattle.qc_js.specs.Held.{is_bits64}
use Rattle.qc_js.specs.Spelling as spelling
use Rattle.qc_js.specs.Spelling.{is_blank, is_mark, is_separator, ends_line, past_line, word_part, past_word, signed}
use Rattle.qc_js.specs.Spelling.{BeginsInt, is_plain, letter, are_hex, is_high, is_low, Stands, done, plain, escape}
use Rattle.qc_js.specs.Spelling.{unit}
use Rattle.qc_js.specs.Spelling.{pair, BeginsText, Begins, blank, comment, word, int, string, mark}
use Rattle.qc_js.proofs.Tests.{both-left, both-right}
use Rattle.qc_js_lex.specs.declared.lexeme.Lexeme.{Lexeme}
use Rattle.qc_js_lex.specs.declared.lexeme.Lexeme.TheVariants.{Int, Text}
use Rattle.qc_js_lex.specs.declared.step.Act.TheVariants as act
use Rattle.qc_js_lex.specs.declared.step.Mode.{Mode}
use Rattle.qc_js_lex.specs.declared.step.Mode.TheVariants as mode
use Rattle.qc_js_lex.specs.Lexemes.{word_lexeme}
use Rattle.qc_js_lex.specs.inner.Machine.{Scanned, in_front, scan_on, start, next, in_string, in_escape, shifted}
use Rattle.qc_js_lex.specs.inner.Machine.{grown}
use Rattle.qc_js_lex.specs.inner.Machine.{lone, paired, is_scalar}
use Rattle.qc_js_lex.specs.Lexemes.{lexeme_of}

-- ---- from one mode to the next token

-- the machine takes the bytes up to the rest, which gives these lexemes, and goes on between tokens
pub record Leads (m : Mode) (text bs : List ℕ) (us : List Lexeme) (rest : List ℕ) : Type 0 where
  pub size : ℕ
  pub count : length bs ≡ size + length rest
  pub run : (from at : ℕ) → (f : ℕ)
      × (scan_on m text from at bs ≡ in_front us (scan_on mode.Between [] f (at + size) rest))

pub in_front-nil : (r : Scanned) → in_front [] r ≡ r
in_front-nil (Ok ls) = refl
in_front-nil (Err at) = refl

-- one byte first
stepped : {m k : Mode} {text more bs rest : List ℕ} {us : List Lexeme} {b : ℕ} (g : ℕ → ℕ → ℕ)
    → ((from at : ℕ) → scan_on m text from at (b ∷ bs) ≡ scan_on k more (g from at) (at + 1) bs)
    → Leads k more bs us rest → Leads m text (b ∷ bs) us rest
stepped {rest = rest} {us = us} g e h = record {
  size = suc h.size;
  count = omega (arith, h.count);
  run = λ from at.
      let r = h.run (g from at) (at + 1) in
      let q : at + 1 + h.size ≡ at + suc h.size = omega arith in
      (r.0, e from at ∙ r.1 ∙ ap (λ z. in_front us (scan_on mode.Between [] r.0 z rest)) q);
}

-- the same where what was begun stays where it began
goes : {m k : Mode} {text more bs rest : List ℕ} {us : List Lexeme} {b : ℕ}
    → ((from at : ℕ) → scan_on m text from at (b ∷ bs) ≡ scan_on k more from (at + 1) bs)
    → Leads k more bs us rest → Leads m text (b ∷ bs) us rest
goes e h = stepped (λ from at. from) e h

-- and where it begins here
begins : {m k : Mode} {text more bs rest : List ℕ} {us : List Lexeme} {b : ℕ}
    → ((from at : ℕ) → scan_on m text from at (b ∷ bs) ≡ scan_on k more at (at + 1) bs)
    → Leads k more bs us rest → Leads m text (b ∷ bs) us rest
begins e h = stepped (λ from at. at) e h

-- the last byte of a token, or of a blank
ends : {m : Mode} {text rest : List ℕ} {us : List Lexeme} {b : ℕ}
    → ((from at : ℕ) → scan_on m text from at (b ∷ rest) ≡ in_front us (scan_on mode.Between [] at (at + 1) rest))
    → Leads m text (b ∷ rest) us rest
ends e = record { size = 1; count = omega arith; run = λ from at. (at, e from at) }

-- no byte
stays : {m : Mode} {text bs : List ℕ} {us : List Lexeme}
    → ((from at : ℕ) → (f : ℕ) × (scan_on m text from at bs ≡ in_front us (scan_on mode.Between [] f at bs)))
    → Leads m text bs us bs
stays {bs = bs} {us = us} e = record {
  size = 0;
  count = omega arith;
  run = λ from at.
      let r = e from at in
      let q : at ≡ at + 0 = omega arith in
      (r.0, r.1 ∙ ap (λ z. in_front us (scan_on mode.Between [] r.0 z bs)) q);
}

-- ---- blanks and marks

blank_runs : (b : ℕ) (rest : List ℕ) → is_blank b ≡ true → Leads mode.Between [] (b ∷ rest) [] rest
blank_runs b rest p = ends (λ from at. rw p (sym (in_front-nil (scan_on mode.Between [] at (at + 1) rest))))

pub start_mark : (b : ℕ) → is_mark b ≡ true → start b ≡ act.Mark
start_mark b e = grind (arith, nat_tests)

mark_runs : (b : ℕ) (rest : List ℕ) → is_mark b ≡ true
    → Leads mode.Between [] (b ∷ rest) (lexeme_of (token.Mark b) ∷ []) rest
mark_runs b rest p = ends (λ from at. rw (start_mark b p) refl)

-- ---- words

pub pushed : (acc : List ℕ) (c : ℕ) (cs : List ℕ) → (acc ++ c ∷ []) ++ cs ≡ acc ++ c ∷ cs
pushed [] c cs = refl
pushed (x ∷ acc) c cs = ap (λ l. x ∷ l) (pushed acc c cs)

small : (b : ℕ) → is_ascii_alphanumeric b ≡ true → b < 128
small b h = grind (arith, nat_tests)

small_letter : (b : ℕ) → is_ascii_alphabetic b ≡ true → b < 128
small_letter b h = grind (arith, nat_tests)

ascii_part : (bs : List ℕ) (t : Bool) (b : ℕ) → is_ascii_alphanumeric b ≡ t → IsAscii (word_part bs)
    → IsAscii (if t then b ∷ word_part bs else [])
ascii_part bs true b e h zero = small b e
ascii_part bs true b e h (suc i) = h i
ascii_part bs false b e h i = omega arith

word_ascii : (bs : List ℕ) → IsAscii (word_part bs)
word_ascii [] i = omega arith
word_ascii (b ∷ bs) i = ascii_part bs (is_ascii_alphanumeric b) b refl (word_ascii bs) i

whole_ascii : (b : ℕ) (bs : List ℕ) → b < 128 → IsAscii (b ∷ word_part bs)
whole_ascii b bs l zero = l
whole_ascii b bs l (suc i) = word_ascii bs i

pub word_utf8 : (b : ℕ) (bs : List ℕ) → is_ascii_alphabetic b ≡ true → is_utf8 (b ∷ word_part bs) ≡ true
word_utf8 b bs p = is_utf8-from_IsUtf8 _ (IsUtf8-from_ascii _ (whole_ascii b bs (small_letter b p)))

word_by : (b : ℕ) (bs acc : List ℕ) (t : Bool) → is_ascii_alphanumeric b ≡ t
    → ((to : List ℕ) → is_utf8 (to ++ word_part bs) ≡ true
    → Leads mode.Word to bs (word_lexeme (to ++ word_part bs) ∷ []) (past_word bs))
    → is_utf8 (acc ++ (if t then b ∷ word_part bs else [])) ≡ true
    → Leads mode.Word acc (b ∷ bs) (word_lexeme (acc ++ (if t then b ∷ word_part bs else [])) ∷ [])
    (if t then past_word bs else b ∷ bs)
word_by b bs acc true e h u =
    let v : is_utf8 ((acc ++ b ∷ []) ++ word_part bs) ≡ true = ap is_utf8 (pushed acc b (word_part bs)) ∙ u in
    subst (λ z. Leads mode.Word acc (b ∷ bs) (word_lexeme z ∷ []) (past_word bs)) (pushed acc b (word_part bs))
    (goes (λ from at. rw e refl) (h (acc ++ b ∷ []) v))
word_by b bs acc false e h u =
    let n : acc ++ [] ≡ acc = append-nil acc in
    let v : is_utf8 acc ≡ true = ap is_utf8 (sym n) ∙ u in
    subst (λ z. Leads mode.Word acc (b ∷ bs) (word_lexeme z ∷ []) (b ∷ bs)) (sym n)
    (stays (λ from at. (at, rw (e, v) refl)))

word_on : (bs acc : List ℕ) → is_utf8 (acc ++ word_part bs) ≡ true
    → Leads mode.Word acc bs (word_lexeme (acc ++ word_part bs) ∷ []) (past_word bs)
word_on [] acc u =
    let n : acc ++ [] ≡ acc = append-nil acc in
    let v : is_utf8 acc ≡ true = ap is_utf8 (sym n) ∙ u in
    subst (λ z. Leads mode.Word acc [] (word_lexeme z ∷ []) []) (sym n) (stays (λ from at. (at, rw v refl)))
word_on (b ∷ bs) acc u = word_by b bs acc (is_ascii_alphanumeric b) refl (word_on bs) u

pub start_letter : (b : ℕ) → is_ascii_alphabetic b ≡ true → start b ≡ act.BeginKeep mode.Word
start_letter b e = let n : is_blank b ≡ false = grind (arith, nat_tests) in rw (n, e) refl

word_runs : (b : ℕ) (bs : List ℕ) → is_ascii_alphabetic b ≡ true
    → Leads mode.Between [] (b ∷ bs) (lexeme_of (token.Word (b ∷ word_part bs)) ∷ []) (past_word bs)
word_runs b bs p =
    begins (λ from at. rw (start_letter b p) refl) (word_on bs (b ∷ []) (word_utf8 b bs p))

-- ---- integers

pub start_digit : (n : ℕ) → 0 < n → n < 10 → start (48 + n) ≡ act.Begin (mode.Digits false (pos n))
start_digit n p l =
    let b : is_blank (48 + n) ≡ false = grind (arith, nat_tests) in
    let a : is_ascii_alphabetic (48 + n) ≡ false = grind (arith, nat_tests) in
    let m : ((48 + n) == 45) ≡ false = grind (arith, nat_tests) in
    let z : ((48 + n) == 48) ≡ false = grind (arith, nat_tests) in
    let d : is_ascii_digit (48 + n) ≡ true = grind (arith, nat_tests) in
    let s : 48 + n - 48 ≡ n = omega arith in
    rw (b, a, m, z, d, s) refl

abbrev P : ℕ → List ℕ → Type 0
P n ds = 0 < n → n < 2 ^ 63 → (bs : List ℕ) (us : List Lexeme) (rest : List ℕ)
    → Leads (mode.Digits false (pos n)) [] bs us rest → Leads mode.Between [] (ds ++ bs) us rest

one : (n : ℕ) → n < 10 → P n ((48 + n) ∷ [])
one n l p m bs us rest h = begins (λ from at. rw (start_digit n p l) refl) h

more : (n : ℕ) (ds : List ℕ) → 10 ≤ n → P (n / 10) ds → P n (ds ++ ((48 + n % 10) ∷ []))
more n ds l q p m bs us rest h =
    rw (append_assoc ds ((48 + n % 10) ∷ []) bs)
    (q (omega arith) (omega arith) ((48 + n % 10) ∷ bs) us rest (goes (λ from at.
    let d : is_ascii_digit (48 + n % 10) ≡ true = grind (arith, nat_tests) in
    let s : 48 + n % 10 - 48 ≡ n % 10 = omega arith in
    let v : n / 10 * 10 + n % 10 ≡ n = omega arith in
    let f : is_bits64 (pos n) ≡ true = grind (arith, ints, nat_tests) in
    rw (d, s, v, f) refl) h))

positive_runs : (n : ℕ) (rest : List ℕ) → 0 < n → n < 2 ^ 63
    → Leads mode.Between [] (decimal n ++ 110 ∷ rest) (Int (pos n) ∷ []) rest
positive_runs n rest p l =
    decimal_by_steps P one more n (omega arith) p l (110 ∷ rest) (Int (pos n) ∷ []) rest (ends (λ from at. refl))

zero_runs : (rest : List ℕ) → Leads mode.Between [] (decimal 0 ++ 110 ∷ rest) (Int (pos 0) ∷ []) rest
zero_runs rest =
    rw (decimal_digit 0 (omega arith)) (begins {k = mode.Zero} {more = []} (λ from at. refl) (ends (λ from at. refl)))

start_negative : (n : ℕ) → 0 < n → n < 10 → next mode.Minus (48 + n) ≡ act.Stay (mode.Digits true (pos 0 -ℤ pos n))
start_negative n p l =
    let z : ((48 + n) == 48) ≡ false = grind (arith, nat_tests) in
    let d : is_ascii_digit (48 + n) ≡ true = grind (arith, nat_tests) in
    let s : 48 + n - 48 ≡ n = omega arith in
    rw (z, d, s) refl

abbrev N : ℕ → List ℕ → Type 0
N n ds = 0 < n → n ≤ 2 ^ 63 → (bs : List ℕ) (us : List Lexeme) (rest : List ℕ)
    → Leads (mode.Digits true (pos 0 -ℤ pos n)) [] bs us rest → Leads mode.Minus [] (ds ++ bs) us rest

one_negative : (n : ℕ) → n < 10 → N n ((48 + n) ∷ [])
one_negative n l p m bs us rest h = goes (λ from at. rw (start_negative n p l) refl) h

pub shifted_negative : (n : ℕ) → shifted true (pos 0 -ℤ pos (n / 10)) (n % 10) ≡ pos 0 -ℤ pos n
shifted_negative n = omega (arith, ints)

fits_negative : (n : ℕ) → n ≤ 2 ^ 63 → is_bits64 (pos 0 -ℤ pos n) ≡ true
fits_negative n l = grind (arith, ints, nat_tests)

grown_negative : (n : ℕ) → n ≤ 2 ^ 63 → grown true (pos 0 -ℤ pos (n / 10)) (n % 10) ≡ Some (pos 0 -ℤ pos n)
grown_negative n l = rw (shifted_negative n, fits_negative n l) refl

more_negative : (n : ℕ) (ds : List ℕ) → 10 ≤ n → N (n / 10) ds → N n (ds ++ ((48 + n % 10) ∷ []))
more_negative n ds l q p m bs us rest h =
    rw (append_assoc ds ((48 + n % 10) ∷ []) bs)
    (q (omega arith) (omega arith) ((48 + n % 10) ∷ bs) us rest (goes (λ from at.
    let d : is_ascii_digit (48 + n % 10) ≡ true = grind (arith, nat_tests) in
    let s : 48 + n % 10 - 48 ≡ n % 10 = omega arith in
    rw (d, s, grown_negative n m) refl) h))

after_minus : (n : ℕ) (rest : List ℕ) → n ≤ 2 ^ 63
    → Leads mode.Minus [] (decimal n ++ 110 ∷ rest) (Int (pos 0 -ℤ pos n) ∷ []) rest
after_minus zero rest l =
    rw (decimal_digit 0 (omega arith)) (goes {k = mode.Zero} {more = []} (λ from at. refl) (ends (λ from at. refl)))
after_minus (suc n) rest l =
    decimal_by_steps N one_negative more_negative (suc n) (omega arith) (omega arith) l (110 ∷ rest) _ rest
    (ends (λ from at. refl))

natural : (k : ℕ) → is_bits64 (pos k) ≡ true → k < 2 ^ 63
natural k h = grind (arith, ints, nat_tests)

negative : (k : ℕ) → is_bits64 (pos 0 -ℤ pos k) ≡ true → k ≤ 2 ^ 63
negative k h = grind (arith, ints, nat_tests)

signed_runs : (minus : Bool) (k : ℕ) (rest : List ℕ) → is_bits64 (signed minus k) ≡ true
    → Leads mode.Between [] (spelling.sign minus ++ (decimal k ++ 110 ∷ rest)) (Int (signed minus k) ∷ []) rest
signed_runs true k rest h =
    begins {k = mode.Minus} {more = []} (λ from at. refl) (after_minus k rest (negative k h))
signed_runs false zero rest h = zero_runs rest
signed_runs false (suc k) rest h = positive_runs (suc k) rest (omega arith) (natural (suc k) h)

int_runs : (n : ℤ) (text rest : List ℕ) → BeginsInt text n rest → Leads mode.Between [] text (Int n ∷ []) rest
int_runs n text rest i =
    subst (λ z. Leads mode.Between [] z (Int n ∷ []) rest) (sym i.written)
    (subst (λ z. Leads mode.Between [] (spelling.sign i.minus ++ (decimal i.size ++ 110 ∷ rest)) (Int z ∷ []) rest)
    (sym i.value) (signed_runs i.minus i.size rest (subst (λ z. is_bits64 z ≡ true) i.value i.bits64)))

-- ---- strings

plain_string : (b : ℕ) → is_plain b ≡ true → in_string b ≡ act.Keep mode.Text
plain_string b p = grind (arith, nat_tests)

-- what a letter stands for is a character of one byte
small_by : (m : ℕ) → m < 128 → (t : Bool) (o : Option ℕ) → ((c : ℕ) → o ≡ Some c → c < 128) → (c : ℕ)
    → (if t then Some m else o) ≡ Some c → c < 128
small_by m l true o h c e = let is : m ≡ c = cc in subst (λ z. z < 128) is l
small_by m l false o h c e = h c e

pub letter_small : (b c : ℕ) → letter b ≡ Some c → c < 128
letter_small b =
    small_by 34 (omega arith) _ _ (small_by 92 (omega arith) _ _ (small_by 8 (omega arith) _ _
    (small_by 12 (omega arith) _ _ (small_by 10 (omega arith) _ _ (small_by 13 (omega arith) _ _
    (small_by 9 (omega arith) _ None (λ c e. (let f : None ≡ Some c = e in absurd cc))))))))

no_u : (b c : ℕ) (t : Bool) → (b == 117) ≡ t → letter b ≡ Some c → t ≡ false
no_u b c true e h =
    let is : b ≡ 117 = grind (arith, nat_tests) in
    let f : None ≡ Some c = subst (λ z. letter z ≡ Some c) is h in absurd cc
no_u b c false e h = refl

escape_put : (b c : ℕ) → letter b ≡ Some c → in_escape b ≡ act.Put c
escape_put b c h = rw (no_u b c (b == 117) refl h, h) refl

digit_small : (a : ℕ) → is_digit a 16 ≡ true → digit_value a < 16
digit_small a h = grind (arith, nat_tests)

pub record Hex (a b c d : ℕ) : Type 0 where
  pub first : is_digit a 16 ≡ true
  pub second : is_digit b 16 ≡ true
  pub third : is_digit c 16 ≡ true
  pub fourth : is_digit d 16 ≡ true
  pub bound : spelling.unit_of a b c d < 65536

pub hex : (a b c d : ℕ) → are_hex a b c d ≡ true → Hex a b c d
hex a b c d h =
    let p : is_digit a 16 ≡ true = both-left (is_digit a 16) _ h in
    let h2 = both-right (is_digit a 16) _ h in
    let q : is_digit b 16 ≡ true = both-left (is_digit b 16) _ h2 in
    let h3 = both-right (is_digit b 16) _ h2 in
    let r : is_digit c 16 ≡ true = both-left (is_digit c 16) _ h3 in
    let s : is_digit d 16 ≡ true = both-right (is_digit c 16) _ h3 in
    let x = digit_small a p in
    let y = digit_small b q in
    let z = digit_small c r in
    let w = digit_small d s in
    record { first = p; second = q; third = r; fourth = s; bound = omega (arith, x, y, z, w) }

-- a unit that is no surrogate
pub lone_put : (u : ℕ) → u < 65536 → is_high u ≡ false → is_low u ≡ false → lone u ≡ act.Put u
lone_put u l p q = let s : is_scalar u ≡ true = grind (arith, nat_tests) in rw (p, s) refl

pub lone_high : (u : ℕ) → is_high u ≡ true → lone u ≡ act.Stay (mode.High u)
lone_high u p = rw p refl

-- a pair
pub paired_put : (h l : ℕ) → is_high h ≡ true → is_low l ≡ true → paired h l ≡ act.Put (spelling.paired h l)
paired_put h l p q = let s : is_scalar (spelling.paired h l) ≡ true = grind (arith, nat_tests) in rw (p, q, s) refl

not_true : (b : Bool) → not b ≡ true → b ≡ false
not_true true h = let f : false ≡ true = h in absurd cc
not_true false h = refl

pub high_not_zero : (u : ℕ) → is_high u ≡ true → (u == 0) ≡ false
high_not_zero u h = grind (arith, nat_tests)

abbrev Reads : List ℕ → List ℕ → List ℕ → List ℕ → Type 0
Reads acc bytes text rest = Leads mode.Text acc (bytes ++ 34 ∷ rest) (Text (acc ++ text) ∷ []) rest

-- the content so far goes on with what was written
moved : (acc piece text : List ℕ) (bs rest : List ℕ)
    → Leads mode.Text (acc ++ piece) bs (Text ((acc ++ piece) ++ text) ∷ []) rest
    → Leads mode.Text (acc ++ piece) bs (Text (acc ++ (piece ++ text)) ∷ []) rest
moved acc piece text bs rest h =
    subst (λ z. Leads mode.Text (acc ++ piece) bs (Text z ∷ []) rest) (append_assoc acc piece text) h

text_on : {bytes text : List ℕ} → Stands bytes text → (acc rest : List ℕ) → is_utf8 (acc ++ text) ≡ true
    → Reads acc bytes text rest
text_on done acc rest u =
    let n : acc ++ [] ≡ acc = append-nil acc in
    let v : is_utf8 acc ≡ true = ap is_utf8 (sym n) ∙ u in
    subst (λ z. Leads mode.Text acc (34 ∷ rest) (Text z ∷ []) rest) (sym n) (ends (λ from at. rw v refl))
text_on (plain b {bytes = bytes} {text = text} p s) acc rest u =
    goes (λ from at. rw (plain_string b p) refl)
    (moved acc (b ∷ []) text (bytes ++ 34 ∷ rest) rest
    (text_on s (acc ++ b ∷ []) rest (ap is_utf8 (append_assoc acc (b ∷ []) text) ∙ u)))
text_on (escape b c {bytes = bytes} {text = text} e s) acc rest u =
    let n : encode_utf8 c ≡ c ∷ [] = encode_ascii c (letter_small b c e) in
    goes {k = mode.Escape} {more = acc} (λ from at. refl)
    (goes (λ from at. rw (escape_put b c e, n) refl)
    (moved acc (c ∷ []) text (bytes ++ 34 ∷ rest) rest
    (text_on s (acc ++ c ∷ []) rest (ap is_utf8 (append_assoc acc (c ∷ []) text) ∙ u))))
text_on (unit a b c d {bytes = bytes} {text = text} h v s) acc rest u =
    let x = hex a b c d h in
    let w = spelling.unit_of a b c d in
    let p : is_high w ≡ false = not_true (is_high w) (both-left (not (is_high w)) (not (is_low w)) v) in
    let q : is_low w ≡ false = not_true (is_low w) (both-right (not (is_high w)) (not (is_low w)) v) in
    goes {k = mode.Escape} {more = acc} (λ from at. refl)
    (goes {k = mode.Hex0 0} {more = acc} (λ from at. refl)
    (goes {k = mode.Hex1 0 (digit_value a)} {more = acc} (λ from at. rw x.first refl)
    (goes {k = mode.Hex2 0 (digit_value a) (digit_value b)} {more = acc} (λ from at. rw x.second refl)
    (goes {k = mode.Hex3 0 (digit_value a) (digit_value b) (digit_value c)} {more = acc} (λ from at. rw x.third refl)
    (goes (λ from at. rw (x.fourth, lone_put w x.bound p q) refl)
    (moved acc (encode_utf8 w) text (bytes ++ 34 ∷ rest) rest
    (text_on s (acc ++ encode_utf8 w) rest (ap is_utf8 (append_assoc acc (encode_utf8 w) text) ∙ u))))))))
text_on (pair a b c d e f g h {bytes = bytes} {text = text} i j v s) acc rest u =
    let x = hex a b c d i in
    let y = hex e f g h j in
    let w = spelling.unit_of a b c d in
    let z = spelling.unit_of e f g h in
    let p : is_high w ≡ true = both-left (is_high w) (is_low z) v in
    let q : is_low z ≡ true = both-right (is_high w) (is_low z) v in
    let o = spelling.paired w z in
    goes {k = mode.Escape} {more = acc} (λ from at. refl)
    (goes {k = mode.Hex0 0} {more = acc} (λ from at. refl)
    (goes {k = mode.Hex1 0 (digit_value a)} {more = acc} (λ from at. rw x.first refl)
    (goes {k = mode.Hex2 0 (digit_value a) (digit_value b)} {more = acc} (λ from at. rw x.second refl)
    (goes {k = mode.Hex3 0 (digit_value a) (digit_value b) (digit_value c)} {more = acc} (λ from at. rw x.third refl)
    (goes {k = mode.High w} {more = acc} (λ from at. rw (x.fourth, lone_high w p) refl)
    (goes {k = mode.HighEscape w} {more = acc} (λ from at. refl)
    (goes {k = mode.Hex0 w} {more = acc} (λ from at. refl)
    (goes {k = mode.Hex1 w (digit_value e)} {more = acc} (λ from at. rw y.first refl)
    (goes {k = mode.Hex2 w (digit_value e) (digit_value f)} {more = acc} (λ from at. rw y.second refl)
    (goes {k = mode.Hex3 w (digit_value e) (digit_value f) (digit_value g)} {more = acc} (λ from at. rw y.third refl)
    (goes (λ from at. rw (y.fourth, high_not_zero w p, paired_put w z p q) refl)
    (moved acc (encode_utf8 o) text (bytes ++ 34 ∷ rest) rest
    (text_on s (acc ++ encode_utf8 o) rest (ap is_utf8 (append_assoc acc (encode_utf8 o) text) ∙ u))))))))))))))

string_runs : (content text rest : List ℕ) → BeginsText text content rest
    → Leads mode.Between [] text (Text content ∷ []) rest
string_runs content text rest t =
    subst (λ z. Leads mode.Between [] z (Text content ∷ []) rest) (sym t.written)
    (begins {k = mode.Text} {more = []} (λ from at. refl) (text_on t.stands [] rest t.utf8))

-- ---- comments

or_first : (x y z : Bool) → (x || y) ≡ true → (x || y || z) ≡ true
or_first true y z e = refl
or_first false true z e = refl
or_first false false z e = let f : false ≡ true = e in absurd cc

or_last : (x y z : Bool) → (x || y) ≡ false → (x || y || z) ≡ z
or_last true y z e = let f : true ≡ false = e in absurd cc
or_last false true z e = let f : true ≡ false = e in absurd cc
or_last false false z e = refl

line_end : (b : ℕ) (bs : List ℕ) → ends_line b bs ≡ true → past_line (b ∷ bs) ≡ b ∷ bs
line_end b bs e = rw e refl

line_goes : (b : ℕ) (bs : List ℕ) → ends_line b bs ≡ false → past_line (b ∷ bs) ≡ past_line bs
line_goes b bs e = rw e refl

no_separator : (b : ℕ) (bs : List ℕ) → (b == 226) ≡ false → is_separator (take 3 (b ∷ bs)) ≡ false
no_separator b bs e = rw e refl

no_second : (c : ℕ) (cs : List ℕ) → (c == 128) ≡ false → is_separator (take 3 (226 ∷ c ∷ cs)) ≡ false
no_second c cs e = rw e refl

both_tests : (x y : Bool) → ((x && true) || (y && true)) ≡ (x || y)
both_tests true y = refl
both_tests false true = refl
both_tests false false = refl

separator : (d : ℕ) → is_separator (226 ∷ 128 ∷ d ∷ []) ≡ ((d == 168) || (d == 169))
separator d = both_tests (d == 168) (d == 169)

-- a comment goes on from here
abbrev Lined : List ℕ → Type 0
Lined bs = (acc : List ℕ) → Leads mode.Comment acc bs [] (past_line bs)

abbrev Shorter : ℕ → Type 0
Shorter n = (cs : List ℕ) → length cs ≤ n → Lined cs

-- two modes that do the same here
alike : {m k : Mode} {text bs rest : List ℕ} {us : List Lexeme}
    → ((from at : ℕ) → scan_on m text from at bs ≡ scan_on k text from at bs) → Leads k text bs us rest
    → Leads m text bs us rest
alike e h =
    record { size = h.size; count = h.count; run = λ from at. (let r = h.run from at in (r.0, e from at ∙ r.1)) }

-- a line's end: the same byte between tokens
at_end : (b : ℕ) (bs acc : List ℕ) → ((b == 10) || (b == 13)) ≡ true → Leads mode.Comment acc (b ∷ bs) [] (b ∷ bs)
at_end b bs acc e =
    let k : is_blank b ≡ true = grind (arith, nat_tests) in
    stays (λ from at. (at, rw (e, k) (sym (in_front-nil (scan_on mode.Between [] at (at + 1) bs)))))

by_fifth : (n d : ℕ) (ds : List ℕ) (t : Bool) → ((d == 168) || (d == 169)) ≡ t → Shorter n → length (d ∷ ds) ≤ n
    → Lined (226 ∷ 128 ∷ d ∷ ds)
by_fifth n d ds true e h l acc =
    subst (λ z. Leads mode.Comment acc (226 ∷ 128 ∷ d ∷ ds) [] z)
    (sym (line_end 226 (128 ∷ d ∷ ds) (separator d ∙ e))) (stays (λ from at. (at, rw e refl)))
by_fifth n d ds false e h l acc =
    let p : past_line (226 ∷ 128 ∷ d ∷ ds) ≡ past_line (d ∷ ds) = line_goes 226 (128 ∷ d ∷ ds) (separator d ∙ e) in
    subst (λ z. Leads mode.Comment acc (226 ∷ 128 ∷ d ∷ ds) [] z) (sym p)
    (begins {k = mode.CommentE2} {more = []} (λ from at. refl)
    (goes {k = mode.CommentE280} {more = []} (λ from at. refl) (alike (λ from at. rw e refl) (h (d ∷ ds) l []))))

by_fourth : (n : ℕ) (cs : List ℕ) → Shorter n → length cs ≤ n → Lined (226 ∷ 128 ∷ cs)
by_fourth n [] h l acc = begins {k = mode.CommentE2} {more = []} (λ from at. refl) (ends (λ from at. refl))
by_fourth n (d ∷ ds) h l acc = by_fifth n d ds ((d == 168) || (d == 169)) refl h l acc

by_third : (n c : ℕ) (cs : List ℕ) (t : Bool) → (c == 128) ≡ t → Shorter n → length (c ∷ cs) ≤ n → Lined (226 ∷ c ∷ cs)
by_third n c cs true e h l acc =
    let is : 128 ≡ c = grind (arith, nat_tests) in
    subst (λ z. Lined (226 ∷ z ∷ cs)) is (by_fourth n cs h (omega (arith, l))) acc
by_third n c cs false e h l acc =
    subst (λ z. Leads mode.Comment acc (226 ∷ c ∷ cs) [] z) (sym (line_goes 226 (c ∷ cs) (no_second c cs e)))
    (begins {k = mode.CommentE2} {more = []} (λ from at. refl) (alike (λ from at. rw e refl) (h (c ∷ cs) l [])))

by_second : (n : ℕ) (bs : List ℕ) → Shorter n → length bs ≤ n → Lined (226 ∷ bs)
by_second n [] h l acc = ends (λ from at. refl)
by_second n (c ∷ cs) h l acc = by_third n c cs (c == 128) refl h l acc

by_first : (n b : ℕ) (bs : List ℕ) (t u : Bool) → ((b == 10) || (b == 13)) ≡ t → (b == 226) ≡ u → Shorter n
    → length bs ≤ n
    → Lined (b ∷ bs)
by_first n b bs true u e f h l acc =
    subst (λ z. Leads mode.Comment acc (b ∷ bs) [] z)
    (sym (line_end b bs (or_first (b == 10) (b == 13) (is_separator (take 3 (b ∷ bs))) e))) (at_end b bs acc e)
by_first n b bs false true e f h l acc =
    let is : 226 ≡ b = grind (arith, nat_tests) in subst (λ z. Lined (z ∷ bs)) is (by_second n bs h l) acc
by_first n b bs false false e f h l acc =
    subst (λ z. Leads mode.Comment acc (b ∷ bs) [] z)
    (sym (line_goes b bs (or_last (b == 10) (b == 13) (is_separator (take 3 (b ∷ bs))) e ∙ no_separator b bs f)))
    (goes {k = mode.Comment} {more = acc} (λ from at. rw (e, f) refl) (h bs l acc))

lined : (n : ℕ) → Shorter n
lined n [] l acc = stays (λ from at. (at, refl))
lined zero (b ∷ bs) l acc = absurd (omega (arith, l))
lined (suc n) (b ∷ bs) l acc =
    by_first n b bs ((b == 10) || (b == 13)) (b == 226) refl refl (lined n) (omega (arith, l)) acc

comment_runs : (text : List ℕ) → Leads mode.Between [] (47 ∷ 47 ∷ text) [] (past_line text)
comment_runs text =
    begins {k = mode.Slash} {more = []} (λ from at. refl)
    (goes {k = mode.Comment} {more = []} (λ from at. refl) (lined (length text) text (omega arith) []))

-- ---- texts

-- the machine takes what a text begins with
pub runs : {text rest : List ℕ} {us : List Token} → Begins text us rest
    → Leads mode.Between [] text (map lexeme_of us) rest
runs (blank b rest p) = blank_runs b rest p
runs (comment text) = comment_runs text
runs (word b text p) = word_runs b text p
runs (int n text rest i) = int_runs n text rest i
runs (string content text rest t) = string_runs content text rest t
runs (mark b rest p) = mark_runs b rest p

pub map_append : (us ts : List Token) → map lexeme_of (us ++ ts) ≡ map lexeme_of us ++ map lexeme_of ts
map_append [] ts = refl
map_append (u ∷ us) ts = ap (λ z. lexeme_of u ∷ z) (map_append us ts)

-- and the whole text
pub scanned : {text : List ℕ} {ts : List Token} → spelling.Scans text ts → (from at : ℕ)
    → scan_on mode.Between [] from at text ≡ Ok (map lexeme_of ts)
scanned spelling.end from at = refl
scanned (spelling.next {front = us} {ts = ts} b d) from at =
    let h = runs b in
    let r = h.run from at in
    r.1 ∙ ap (λ z. in_front (map lexeme_of us) z) (scanned d r.0 (at + h.size))
    ∙ ap (λ z. Ok z) (sym (map_append us ts))
