-- What bytes begin with is what the code finds.
use Rattle.std.proofs.Common.{◌≡◌, ℕ, zero, suc, ◌+◌, ◌<◌, Bool, true, false, ◌==◌, ◌&&◌, ◌||◌, List, [], ◌∷◌, ◌++◌}
use Rattle.std.proofs.Common.{length, take, codes, Some, ◌⊎◌, inl, inr, refl, sym, ap, ◌∙◌, subst, append_assoc, arith}
use Rattle.std.proofs.Common.{rules}
use Rattle.std.specs.Option.{option_and_then}
use Rattle.std.specs.List.{AllByRecursion, prefix_len}
use Rattle.std.specs.Char.{is_ascii_digit}
use Rattle.std.specs.Str.{bytes_eq, is_utf8, IsAscii}
use Rattle.std.proofs.lemmas.Bool.Decides.{nat_tests}
use Rattle.std.proofs.lemmas.Str.{IsUtf8-from_ascii}
use Rattle.qc_lex.specs.declared.token.Table.{Table}
use Rattle.qc_lex.specs.declared.token.Table.TheVariants.{Oql, Sql, Rule}
use Rattle.qc_lex.specs.declared.token.Kind.{Kind}
use Rattle.qc_lex.specs.declared.token.Kind.TheVariants.{Word, Quoted, Whole, Text, Mark}
use Rattle.qc_lex.specs.declared.token.Lexeme.{Lexeme}
use Rattle.qc_lex.specs.Class.{begins_word, in_word, quotes_text, quotes_name, among, is_mark, is_double}
use Rattle.qc_lex.specs.Pieces.{doubled, quoted}
use Rattle.qc_lex.specs.Tokens.{run, NoQuote, lexeme_of, Front, word, whole, text, name, double, single}
use Rattle.qc_lex.specs.inner.Steps.{kind_of, fits, goes_on, fitting, front}
use Rattle.qc_lex.proofs.Valid.{valid}
use Rattle.qc_lex.proofs.Quoting.{end_of, taken, content_quoted}
use borrow.Author.Tests.{lt-ltb, le-leb, eqb-true}

-- ---- tests

pub either : (a b : Bool) → a || b ≡ true → (a ≡ true) ⊎ (b ≡ true)
either true b h = inl refl
either false b h = inr h

pub both-left : (a b : Bool) → a && b ≡ true → a ≡ true
both-left true b h = refl
both-left false b h = h

pub both-right : (a b : Bool) → a && b ≡ true → b ≡ true
both-right true b h = h
both-right false b h = absurd cc

-- what holds at a number holds at one that equals it
pub at_same : (P : ℕ → Type 0) (b k : ℕ) → (b == k) ≡ true → P k → P b
at_same P b k e p = subst P (sym (eqb-true b k e)) p

-- what holds of all members holds of each
at_member : (P : ℕ → Type 0) (ms : List ℕ) (b : ℕ) → AllByRecursion P ms → among ms b ≡ true → P b
at_member P [] b all h = absurd cc
at_member P (m ∷ ms) b all h =
    elim (either (b == m) (among ms b) h) [ inl e ↦ at_same P b m e all.0 | inr e ↦ at_member P ms b all.1 e ]

-- ---- kinds by the first byte

kind_word : (table : Table) (b : ℕ) → begins_word b ≡ true → kind_of table b ≡ Word
kind_word table b h = rw h refl

kind_whole : (table : Table) (b : ℕ) → is_ascii_digit b ≡ true → kind_of table b ≡ Whole
kind_whole table b h = let n : begins_word b ≡ false = grind (arith, nat_tests) in rw (n, h) refl

kind_text : (table : Table) (b : ℕ) → quotes_text table b ≡ true → kind_of table b ≡ Text
kind_text Oql b h =
    elim (either (b == 34) (b == 39) h) [
      | inl e ↦ at_same (λ k. kind_of Oql k ≡ Text) b 34 e refl
      | inr e ↦ at_same (λ k. kind_of Oql k ≡ Text) b 39 e refl
    ]
kind_text Sql b h = at_same (λ k. kind_of Sql k ≡ Text) b 39 h refl
kind_text Rule b h = at_same (λ k. kind_of Rule k ≡ Text) b 34 h refl

kind_name : (table : Table) (b : ℕ) → quotes_name table b ≡ true → kind_of table b ≡ Quoted
kind_name Oql b h = absurd cc
kind_name Sql b h = at_same (λ k. kind_of Sql k ≡ Quoted) b 34 h refl
kind_name Rule b h = absurd cc

-- a byte of marks
abbrev IsMarkByte : Table → ℕ → Type 0
IsMarkByte table b = (kind_of table b ≡ Mark) × (b < 128)

mark_byte : (table : Table) (b : ℕ) → is_mark table b ≡ true → IsMarkByte table b
mark_byte Oql b h = at_member (IsMarkByte Oql) (codes "(),.:;+-*/=<>") b (search rules) h
mark_byte Sql b h = at_member (IsMarkByte Sql) (codes "(),.;+-*/=<>") b (search rules) h
mark_byte Rule b h = at_member (IsMarkByte Rule) (codes "()-") b (search rules) h

-- two bytes of a mark
abbrev IsPair : Table → ℕ → ℕ → Type 0
IsPair table b c = IsMarkByte table b × (c < 128)

is_pair : (table : Table) (b c m n : ℕ) → IsMarkByte table m → n < 128 → bytes_eq (b ∷ c ∷ []) (m ∷ n ∷ []) ≡ true
    → IsPair table b c
is_pair table b c m n p l h =
    let right : bytes_eq (c ∷ []) (n ∷ []) ≡ true = both-right (b == m) _ h in (
      at_same (IsMarkByte table) b m (both-left (b == m) _ h) p,
      at_same (λ k. k < 128) c n (both-left (c == n) _ right) l,
    )

pair_byte : (table : Table) (b c : ℕ) → is_double table (b ∷ c ∷ []) ≡ true → IsPair table b c
pair_byte Oql b c h = elim (either _ _ h) [
  | inl i ↦ elim (either _ _ i) [
    | inl j ↦ elim (either _ _ j) [
      | inl k ↦ is_pair Oql b c 33 61 (refl, omega arith) (omega arith) k
      | inr k ↦ is_pair Oql b c 60 61 (refl, omega arith) (omega arith) k
    ]
    | inr j ↦ is_pair Oql b c 62 61 (refl, omega arith) (omega arith) j
  ]
  | inr i ↦ is_pair Oql b c 124 124 (refl, omega arith) (omega arith) i
]
pair_byte Sql b c h = elim (either _ _ h) [
  | inl i ↦ elim (either _ _ i) [
    | inl j ↦ elim (either _ _ j) [
      | inl k ↦ is_pair Sql b c 60 62 (refl, omega arith) (omega arith) k
      | inr k ↦ is_pair Sql b c 60 61 (refl, omega arith) (omega arith) k
    ]
    | inr j ↦ is_pair Sql b c 62 61 (refl, omega arith) (omega arith) j
  ]
  | inr i ↦ is_pair Sql b c 124 124 (refl, omega arith) (omega arith) i
]
pair_byte Rule b c h = absurd cc

-- ---- ASCII

ascii_cons : (b : ℕ) (bs : List ℕ) → b < 128 → IsAscii bs → IsAscii (b ∷ bs)
ascii_cons b bs l all zero = l
ascii_cons b bs l all (suc i) = all i

ascii_none : IsAscii []
ascii_none i = omega arith

run_none : (is_kind : ℕ → Bool) (b : ℕ) (bs : List ℕ) → is_kind b ≡ false → run is_kind (b ∷ bs) ≡ []
run_none is_kind b bs h = rw h refl

run_some : (is_kind : ℕ → Bool) (b : ℕ) (bs : List ℕ) → is_kind b ≡ true → run is_kind (b ∷ bs) ≡ b ∷ run is_kind bs
run_some is_kind b bs h =
    let e : 1 + prefix_len is_kind bs ≡ suc (prefix_len is_kind bs) = omega arith in rw (h, e) refl

ascii_by : (is_kind : ℕ → Bool) → ((b : ℕ) → is_kind b ≡ true → b < 128) → (b : ℕ) (bs : List ℕ) (v : Bool)
    → is_kind b ≡ v → IsAscii (run is_kind bs) → IsAscii (run is_kind (b ∷ bs))
ascii_by is_kind low b bs true e all = subst IsAscii (sym (run_some is_kind b bs e)) (ascii_cons b _ (low b e) all)
ascii_by is_kind low b bs false e all = subst IsAscii (sym (run_none is_kind b bs e)) ascii_none

ascii_run : (is_kind : ℕ → Bool) → ((b : ℕ) → is_kind b ≡ true → b < 128) → (bs : List ℕ) → IsAscii (run is_kind bs)
ascii_run is_kind low [] = ascii_none
ascii_run is_kind low (b ∷ bs) = ascii_by is_kind low b bs (is_kind b) refl (ascii_run is_kind low bs)

word_low : (b : ℕ) → in_word b ≡ true → b < 128
word_low b h = grind (arith, nat_tests)

first_low : (b : ℕ) → begins_word b ≡ true → b < 128
first_low b h = grind (arith, nat_tests)

digit_low : (b : ℕ) → is_ascii_digit b ≡ true → b < 128
digit_low b h = grind (arith, nat_tests)

utf8_ascii : (b : ℕ) (bs : List ℕ) → b < 128 → IsAscii bs → is_utf8 (b ∷ bs) ≡ true
utf8_ascii b bs l all = valid (b ∷ bs) (IsUtf8-from_ascii (b ∷ bs) (ascii_cons b bs l all))

-- ---- a front is found

fitting_is : (kind : Kind) (piece : List ℕ) → is_utf8 piece ≡ true → fits kind piece ≡ true
    → fitting kind piece ≡ Some (lexeme_of kind piece)
fitting_is kind piece u f = rw (u, f) refl

front_is : (table : Table) (b : ℕ) (bs : List ℕ) (n : ℕ) (kind : Kind) (x : Lexeme) → kind_of table b ≡ kind
    → goes_on table kind b bs ≡ Some n → fitting kind (b ∷ take n bs) ≡ Some x
    → front table (b ∷ bs) ≡ Some x
front_is table b bs n kind x k g f =
    let P : Kind → Type 0 = λ j. option_and_then (λ i. fitting j (b ∷ take i bs)) (goes_on table j b bs) ≡ Some x in
    subst P (sym k) (rw g f)

quoted_is : (table : Table) (kind : Kind) (quote : ℕ) (inside rest : List ℕ) → kind_of table quote ≡ kind
    → goes_on table kind quote (doubled quote inside ++ quote ∷ rest) ≡ Some (length (doubled quote inside) + 1)
    → is_utf8 (quoted quote inside) ≡ true → fits kind (quoted quote inside) ≡ true
    → front table (quoted quote inside ++ rest) ≡ Some (lexeme_of kind (quoted quote inside))
quoted_is table kind quote inside rest k g u f =
    let P : List ℕ → Type 0 = λ bs. front table (quote ∷ bs) ≡ Some (lexeme_of kind (quoted quote inside)) in
    let Q : List ℕ → Type 0 = λ piece. fitting kind (quote ∷ piece) ≡ Some (lexeme_of kind (quoted quote inside)) in
    subst P (sym (append_assoc (doubled quote inside) (quote ∷ []) rest))
    (front_is table quote (doubled quote inside ++ quote ∷ rest) _ kind _ k g
    (subst Q (sym (taken quote inside rest)) (fitting_is kind (quoted quote inside) u f)))

content_end : (quote : ℕ) (inside rest : List ℕ) → NoQuote quote rest
    → goes_on Oql Text quote (doubled quote inside ++ quote ∷ rest) ≡ Some (length (doubled quote inside) + 1)
content_end quote inside rest n = end_of quote inside rest n 0 ∙ ap (λ (k : ℕ). Some k) (omega arith)

pub front_found : {table : Table} {bytes : List ℕ} {x : Lexeme} → Front table bytes x → front table bytes ≡ Some x
front_found {table = table} (word {b = b} {bs = bs} h l) =
    front_is table b bs _ Word _ (kind_word table b h) refl
    (fitting_is Word _ (utf8_ascii b _ (first_low b h) (ascii_run in_word word_low bs)) (le-leb _ _ l))
front_found {table = table} (whole {b = b} {bs = bs} h l) =
    front_is table b bs _ Whole _ (kind_whole table b h) refl
    (fitting_is Whole _ (utf8_ascii b _ (digit_low b h) (ascii_run is_ascii_digit digit_low bs)) (lt-ltb _ _ l))
front_found {table = table} (text {quote = quote} inside rest q u n e) =
    rw e (quoted_is table Text quote inside rest (kind_text table quote q) (content_end quote inside rest n) u refl)
front_found {table = table} (name {quote = quote} inside rest q u i n e) =
    rw e (quoted_is table Quoted quote inside rest (kind_name table quote q) (content_end quote inside rest n) u
    (rw (content_quoted quote inside) i))
front_found {table = table} (double {b = b} {c = c} {rest = rest} h) =
    let p = pair_byte table b c h in
    front_is table b (c ∷ rest) 1 Mark _ p.0.0 (rw h refl)
    (fitting_is Mark _ (utf8_ascii b _ p.0.1 (ascii_cons c [] p.1 ascii_none)) refl)
front_found {table = table} (single {b = b} {rest = rest} h n) =
    let p = mark_byte table b h in
    front_is table b rest 0 Mark _ p.0 (rw (n, h) refl) (fitting_is Mark _ (utf8_ascii b [] p.1 ascii_none) refl)

-- ---- the front by its first byte, as the code takes it

front_along : (table : Table) (b : ℕ) (bs : List ℕ) (n : ℕ) → goes_on table (kind_of table b) b bs ≡ Some n
    → fitting (kind_of table b) (take (n + 1) (b ∷ bs)) ≡ front table (b ∷ bs)
front_along table b bs n g = let s : n + 1 ≡ suc n = omega arith in rw (g, s) refl

pub front_at : (table : Table) (b : ℕ) (bs bytes : List ℕ) (n : ℕ) (kind : Kind) → bytes ≡ b ∷ bs
    → kind ≡ kind_of table b → goes_on table kind b bs ≡ Some n
    → fitting kind (take (n + 1) bytes) ≡ front table bytes
front_at table b bs bytes n kind e k g = rw (e, k) (front_along table b bs n (rw k at g))
