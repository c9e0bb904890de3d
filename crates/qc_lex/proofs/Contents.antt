-- What stands between quotes is UTF-8 where the whole is.
use Rattle.std.proofs.Common.{◌≡◌, ℕ, suc, ◌<◌, Bool, true, false, ◌==◌, ◌&&◌, if◌then◌else◌, List, [], ◌∷◌, ◌++◌}
use Rattle.std.proofs.Common.{length, get_or, refl, sym, ap, ◌∙◌, subst, arith, append-nil}
use Rattle.std.specs.List.{AllByRecursion}
use Rattle.std.specs.Str.{IsUtf8, encode_utf8_all, all_scalars}
use Rattle.std.specs.Char.{encode_utf8}
use Rattle.std.proofs.lemmas.Str.{encode_ascii, inside_one, length-encode, len_utf8_bounds, IsUtf8-past_char}
use Rattle.qc_lex.specs.Pieces.{undoubled, content}
use Rattle.qc_lex.proofs.Valid.{not_true}
use borrow.Author.Tests.{eqb-true, eqb-false, eq-eqb}

-- no byte is the quote
abbrev NoQuote : ℕ → List ℕ → Type 0
NoQuote quote bytes = AllByRecursion (λ b. (b == quote) ≡ false) bytes

by_index : (quote : ℕ) (bytes : List ℕ) → ((k : ℕ) → k < length bytes → get_or bytes k 0 ≡ quote → ⊥)
    → NoQuote quote bytes
by_index quote [] h = tt
by_index quote (b ∷ bs) h = (
  not_true (b == quote) (λ e. h 0 (omega arith) (eqb-true b quote e)),
  by_index quote bs (λ k l. h (suc k) (omega arith)),
)

-- bytes that are not the quote stay
kept_on : (quote : ℕ) (bytes rest : List ℕ) → NoQuote quote bytes
    → undoubled quote false (bytes ++ rest) ≡ bytes ++ undoubled quote false rest
kept_on quote [] rest n = refl
kept_on quote (b ∷ bs) rest n = rw n.0 (ap (λ more. b ∷ more) (kept_on quote bs rest n.1))

kept : (quote : ℕ) (second : Bool) (bytes rest : List ℕ) → 0 < length bytes → NoQuote quote bytes
    → undoubled quote second (bytes ++ rest) ≡ bytes ++ undoubled quote false rest
kept quote second [] rest l n = absurd (omega arith)
kept quote second (b ∷ bs) rest l n = rw n.0 (ap (λ more. b ∷ more) (kept_on quote bs rest n.1))

-- a character that is not the quote has no byte that is
other_char : (quote c : ℕ) → quote < 128 → (c == quote) ≡ false → NoQuote quote (encode_utf8 c)
other_char quote c q n = by_index quote (encode_utf8 c) (λ k l e.
    eqb-false c quote n (inside_one c [] (encode_utf8 c) k (sym (append-nil (encode_utf8 c))) l (omega arith) ∙ e))

some_byte : (c : ℕ) → 0 < length (encode_utf8 c)
some_byte c = omega (arith, length-encode c, len_utf8_bounds c)

-- the bytes of characters, of which the quotes are dropped
abbrev AreChars : ℕ → Bool → List ℕ → Type 0
AreChars quote second cs = undoubled quote second (encode_utf8_all cs) ≡ encode_utf8_all (undoubled quote second cs)

at_quote : (quote : ℕ) (second : Bool) (cs : List ℕ) → quote < 128 → ((v : Bool) → AreChars quote v cs)
    → AreChars quote second (quote ∷ cs)
at_quote quote true cs q more =
    rw (encode_ascii quote q, eq-eqb quote quote refl, encode_ascii quote q) (ap (λ bytes. quote ∷ bytes) (more false))
at_quote quote false cs q more = rw (encode_ascii quote q, eq-eqb quote quote refl) (more true)

at_other : (quote c : ℕ) (second : Bool) (cs : List ℕ) → quote < 128 → (c == quote) ≡ false → AreChars quote false cs
    → AreChars quote second (c ∷ cs)
at_other quote c second cs q n more =
    rw n (kept quote second (encode_utf8 c) (encode_utf8_all cs) (some_byte c) (other_char quote c q n)
    ∙ ap (λ bytes. encode_utf8 c ++ bytes) more)

of_char : (quote c : ℕ) (second : Bool) (cs : List ℕ) (v : Bool) → (c == quote) ≡ v → quote < 128
    → ((w : Bool) → AreChars quote w cs) → AreChars quote second (c ∷ cs)
of_char quote c second cs true e q more =
    let P : ℕ → Type 0 = λ k. AreChars quote second (k ∷ cs) in
    subst P (sym (eqb-true c quote e)) (at_quote quote second cs q more)
of_char quote c second cs false e q more = at_other quote c second cs q e (more false)

of_chars : (quote : ℕ) → quote < 128 → (cs : List ℕ) (second : Bool) → AreChars quote second cs
of_chars quote q [] second = refl
of_chars quote q (c ∷ cs) second = of_char quote c second cs (c == quote) refl q (of_chars quote q cs)

-- they are still characters
both-left : (a b : Bool) → a && b ≡ true → a ≡ true
both-left true b h = refl
both-left false b h = h

both-right : (a b : Bool) → a && b ≡ true → b ≡ true
both-right true b h = h
both-right false b h = absurd cc

keep_scalar : (v w : Bool) (quote c : ℕ) (cs : List ℕ) → all_scalars (c ∷ cs) ≡ true
    → ((u : Bool) → all_scalars (undoubled quote u cs) ≡ true)
    → all_scalars (if v then (if w then c ∷ undoubled quote false cs else undoubled quote true cs) else c
    ∷ undoubled quote false cs) ≡ true
keep_scalar true true quote c cs h more = rw (both-left _ (all_scalars cs) h) (more false)
keep_scalar true false quote c cs h more = more true
keep_scalar false w quote c cs h more = rw (both-left _ (all_scalars cs) h) (more false)

keep_scalars : (quote : ℕ) (cs : List ℕ) (second : Bool) → all_scalars cs ≡ true
    → all_scalars (undoubled quote second cs) ≡ true
keep_scalars quote [] second h = refl
keep_scalars quote (c ∷ cs) second h =
    keep_scalar (c == quote) second quote c cs h (λ u. keep_scalars quote cs u (both-right _ (all_scalars cs) h))

undoubled_utf8 : (quote : ℕ) (second : Bool) (bytes : List ℕ) → quote < 128 → IsUtf8 bytes
    → IsUtf8 (undoubled quote second bytes)
undoubled_utf8 quote second bytes q u = (
  undoubled quote second u.0,
  (
    keep_scalars quote u.0 second u.1.0,
    sym (of_chars quote q u.0 second)
        ∙ ap (undoubled quote second) u.1.1,
  ),
)

-- what stands between ASCII quotes in UTF-8 is UTF-8
pub content_utf8 : (quote : ℕ) (bytes : List ℕ) → quote < 128 → IsUtf8 (quote ∷ bytes)
    → IsUtf8 (content (quote ∷ bytes))
content_utf8 quote bytes q u =
    undoubled_utf8 quote false bytes q (IsUtf8-past_char (quote ∷ bytes) bytes quote u (rw (encode_ascii quote q) refl))
