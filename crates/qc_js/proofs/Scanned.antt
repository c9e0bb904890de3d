-- The layout of good tokens has these tokens.
use Rattle.std.proofs.Common.{◌≡◌, ℕ, suc, ℤ, pos, negsuc, ◌-ℤ◌, List, [], ◌∷◌, ◌++◌, Bool, true, false, ◌||◌, ◌==◌}
use Rattle.std.proofs.Common.{if◌then◌else◌, codes, refl, sym, ap, ◌∙◌, arith, subst}
use Rattle.std.proofs.lemmas.Bool.Decides.{nat_tests}
use Rattle.std.proofs.lemmas.Int.{ints}
use Rattle.std.specs.Char.{is_ascii_alphabetic, is_ascii_alphanumeric}
use Rattle.std.specs.Fmt.{signed_decimal}
use Rattle.std.specs.Str.{is_utf8, bytes_eq}
use Rattle.qc_js.specs.declared.token.Token.{Token}
use Rattle.qc_js.specs.declared.token.Token.TheVariants.{Word, Int, Text, Mark}
use Rattle.qc_js.specs.Held.{is_bits64}
use Rattle.qc_js.specs.Layout.{Left, opens, keyword, other, left, gap, gap_other, is_tight, spelling, after, escaped}
use Rattle.qc_js.specs.Spelling.{is_mark, word_part, past_word, Begins, blank, word, int, string, mark, Scans, end}
use Rattle.qc_js.specs.Spelling.{next}
use Rattle.qc_js.specs.inner.Good.{all_alphanumeric, is_word, is_good, all_good}
use Rattle.qc_js.proofs.Escapes.{escaped_stands}
use Rattle.qc_js.proofs.Fronts.{assoc}
use Rattle.qc_js.proofs.Tests.{both-left, both-right}

-- no word goes on here
abbrev pub NoWord : List ℕ → Type 0
NoWord [] = Unit {0}
NoWord (b ∷ bs) = is_ascii_alphanumeric b ≡ false

-- ---- a token and what follows

word_ends : (cs rest : List ℕ) → all_alphanumeric cs ≡ true → NoWord rest
    → (word_part (cs ++ rest) ≡ cs) × (past_word (cs ++ rest) ≡ rest)
word_ends [] [] g n = (refl, refl)
word_ends [] (b ∷ rest) g n = (rw n refl, rw n refl)
word_ends (c ∷ cs) rest g n =
    let a : is_ascii_alphanumeric c ≡ true = both-left (is_ascii_alphanumeric c) (all_alphanumeric cs) g in
    let h = word_ends cs rest (both-right (is_ascii_alphanumeric c) (all_alphanumeric cs) g) n in
    (rw a (ap (λ z. c ∷ z) h.0), rw a h.1)

pub begins_word : (w rest : List ℕ) → is_word w ≡ true → NoWord rest → Begins (w ++ rest) (Word w ∷ []) rest
begins_word [] rest g n = let f : false ≡ true = g in absurd cc
begins_word (c ∷ cs) rest g n =
    let h = word_ends cs rest (both-right (is_ascii_alphabetic c) (all_alphanumeric cs) g) n in
    subst (λ z. Begins (c ∷ (cs ++ rest)) (Word (c ∷ z) ∷ []) rest) h.0
    (subst (λ z. Begins (c ∷ (cs ++ rest)) (Word (c ∷ word_part (cs ++ rest)) ∷ []) z) h.1
    (word c (cs ++ rest) (both-left (is_ascii_alphabetic c) (all_alphanumeric cs) g)))

minus_is : (n : ℕ) → negsuc n ≡ pos 0 -ℤ pos (suc n)
minus_is n = omega (arith, ints)

pub begins_int : (n : ℤ) (rest : List ℕ) → is_bits64 n ≡ true
    → Begins (signed_decimal n ++ 110 ∷ rest) (Int n ∷ []) rest
begins_int (pos n) rest h =
    int (pos n) _ rest (record { minus = false; size = n; value = refl; written = refl; bits64 = h })
begins_int (negsuc n) rest h =
    int (negsuc n) _ rest (record { minus = true; size = suc n; value = minus_is n; written = refl; bits64 = h })

pub begins_text : (t rest : List ℕ) → is_utf8 t ≡ true → Begins (34 ∷ (escaped t ++ 34 ∷ rest)) (Text t ∷ []) rest
begins_text t rest u =
    string t _ rest (record { bytes = escaped t; written = refl; stands = escaped_stands t; utf8 = u })

-- ---- the layout, and what follows it

abbrev laid : Left → List Token → List ℕ → List ℕ
laid l [] tail = tail
laid l (t ∷ ts) tail = gap l t ++ (spelling t ++ laid (left t) ts tail)

after_laid : (l : Left) (ts : List Token) (tail : List ℕ) → after l ts ++ tail ≡ laid l ts tail
after_laid l [] tail = refl
after_laid l (t ∷ ts) tail =
    assoc (gap l t) (spelling t ++ after (left t) ts) tail
    ∙ ap (λ z. gap l t ++ z)
    (assoc (spelling t) (after (left t) ts) tail ∙ ap (λ z. spelling t ++ z) (after_laid (left t) ts tail))

spaced : (text : List ℕ) (ts : List Token) → Scans text ts → Scans (32 ∷ text) ts
spaced text ts h = next (blank 32 text refl) h

cond_gap : (c : Bool) (x : List ℕ) (ts : List Token) → Scans x ts → Scans ((if c then [] else 32 ∷ []) ++ x) ts
cond_gap true x ts h = h
cond_gap false x ts h = spaced x ts h

other_gap : (l : Left) (x : List ℕ) (ts : List Token) → Scans x ts → Scans (gap_other l ++ x) ts
other_gap opens x ts h = h
other_gap keyword x ts h = spaced x ts h
other_gap other x ts h = spaced x ts h

any_gap : (l : Left) (t : Token) (x : List ℕ) (ts : List Token) → Scans x ts → Scans (gap l t ++ x) ts
any_gap l (Word w) x ts h = other_gap l x ts h
any_gap l (Int n) x ts h = other_gap l x ts h
any_gap l (Text s) x ts h = other_gap l x ts h
any_gap opens (Mark b) x ts h = h
any_gap keyword (Mark b) x ts h = cond_gap (is_tight b) x ts h
any_gap other (Mark b) x ts h = cond_gap (is_tight b || (b == 40)) x ts h

mark_stops : (c : Bool) (b : ℕ) (rest : List ℕ) → is_mark b ≡ true → NoWord ((if c then [] else 32 ∷ []) ++ (b ∷ rest))
mark_stops true b rest m = grind (arith, nat_tests)
mark_stops false b rest m = refl

stops : (t : Token) (ts : List Token) (tail : List ℕ) → is_good t ≡ true → NoWord (laid other (t ∷ ts) tail)
stops (Word w) ts tail g = refl
stops (Int n) ts tail g = refl
stops (Text s) ts tail g = refl
stops (Mark b) ts tail g = mark_stops (is_tight b || (b == 40)) b _ g

stops_keyword : (t : Token) (ts : List Token) (tail : List ℕ) → is_good t ≡ true → NoWord (laid keyword (t ∷ ts) tail)
stops_keyword (Word w) ts tail g = refl
stops_keyword (Int n) ts tail g = refl
stops_keyword (Text s) ts tail g = refl
stops_keyword (Mark b) ts tail g = mark_stops (is_tight b) b _ g

stops_word : (c : Bool) (ts : List Token) (tail : List ℕ) → all_good ts ≡ true → NoWord tail
    → NoWord (laid (if c then keyword else other) ts tail)
stops_word true [] tail g s = s
stops_word false [] tail g s = s
stops_word true (t ∷ ts) tail g s = stops_keyword t ts tail (both-left (is_good t) (all_good ts) g)
stops_word false (t ∷ ts) tail g s = stops t ts tail (both-left (is_good t) (all_good ts) g)

round : (l : Left) (ts : List Token) (tail : List ℕ) → all_good ts ≡ true → NoWord tail → Scans tail []
    → Scans (laid l ts tail) ts
round l [] tail g s h = h
round l (Word w ∷ ts) tail g s h =
    let a : is_word w ≡ true = both-left (is_word w) (all_good ts) g in
    let b : all_good ts ≡ true = both-right (is_word w) (all_good ts) g in
    any_gap l (Word w) _ _
    (next (begins_word w _ a (stops_word (bytes_eq w (codes "for") || bytes_eq w (codes "if")) ts tail b s))
    (round (left (Word w)) ts tail b s h))
round l (Int n ∷ ts) tail g s h =
    let a : is_bits64 n ≡ true = both-left (is_bits64 n) (all_good ts) g in
    let b : all_good ts ≡ true = both-right (is_bits64 n) (all_good ts) g in
    any_gap l (Int n) _ _
    (subst (λ z. Scans z (Int n ∷ ts)) (sym (assoc (signed_decimal n) (110 ∷ []) (laid other ts tail)))
    (next (begins_int n _ a) (round other ts tail b s h)))
round l (Text t ∷ ts) tail g s h =
    let a : is_utf8 t ≡ true = both-left (is_utf8 t) (all_good ts) g in
    let b : all_good ts ≡ true = both-right (is_utf8 t) (all_good ts) g in
    any_gap l (Text t) _ _
    (subst (λ z. Scans (34 ∷ z) (Text t ∷ ts)) (sym (assoc (escaped t) (34 ∷ []) (laid other ts tail)))
    (next (begins_text t _ a) (round other ts tail b s h)))
round l (Mark m ∷ ts) tail g s h =
    let a : is_mark m ≡ true = both-left (is_mark m) (all_good ts) g in
    let b : all_good ts ≡ true = both-right (is_mark m) (all_good ts) g in
    any_gap l (Mark m) _ _ (next (mark m _ a) (round (left (Mark m)) ts tail b s h))

-- good tokens, laid out and ended by a line feed, are scanned
pub layout_scanned : (ts : List Token) → all_good ts ≡ true → Scans (after opens ts ++ 10 ∷ []) ts
layout_scanned ts g =
    subst (λ z. Scans z ts) (sym (after_laid opens ts (10 ∷ [])))
    (round opens ts (10 ∷ []) g refl (next (blank 10 [] refl) end))
