-- What the machine comes to is right for the text.
use Rattle.std.proofs.Common.{◌≡◌, ◌⊎◌, inl, inr, ℕ, zero, suc, ◌+◌, ◌-◌, ◌≤◌, ◌<◌, List, [], ◌∷◌, ◌++◌, map, length}
use Rattle.std.proofs.Common.{Bool, true, false, decimal, refl, sym, ap, ◌∙◌, subst, arith, if◌then◌else◌}
use Rattle.std.specs.Prelude.{Ok, Err}
use Rattle.std.proofs.lemmas.List.{length-append}
use Rattle.std.specs.Char.{is_ascii_alphanumeric}
use Rattle.qc_js.specs.declared.token.Token.{Token}
use Rattle.qc_js.specs.Spelling as spelling
use Rattle.qc_js.specs.Spelling.{Begins, Scans, Stops, past_line, past_word, ends_line, end, next, here, past}
use Rattle.qc_js_lex.specs.declared.lexeme.Lexeme.{Lexeme}
use Rattle.qc_js_lex.specs.declared.scanning.Scan.{Scan}
use Rattle.qc_js_lex.specs.declared.scanning.Scan.TheVariants.{Lexemes, BadScan}
use Rattle.qc_js_lex.specs.declared.step.Mode.TheVariants as mode
use Rattle.qc_js_lex.specs.Lexemes.{lexeme_of}
use Rattle.qc_js_lex.specs.Scanned.{IsScan, IsBad, Answers}
use Rattle.qc_js_lex.specs.inner.Machine.{Scanned, in_front, scan_on, scan, Has}
use Rattle.qc_js_lex.proofs.Progress.{Goes, goes_on}
use Rattle.qc_js_lex.proofs.Runs.{runs, scanned, map_append}

-- ---- lengths

line_by : (b : ℕ) (bs : List ℕ) (t : Bool) → length (past_line bs) ≤ length bs
    → length (if t then b ∷ bs else past_line bs) ≤ suc (length bs)
line_by b bs true h = omega arith
line_by b bs false h = omega (arith, h)

line_short : (bs : List ℕ) → length (past_line bs) ≤ length bs
line_short [] = omega arith
line_short (b ∷ bs) = line_by b bs (ends_line b bs) (line_short bs)

word_short_by : (b : ℕ) (bs : List ℕ) (t : Bool) → length (past_word bs) ≤ length bs
    → length (if t then past_word bs else b ∷ bs) ≤ suc (length bs)
word_short_by b bs true h = omega (arith, h)
word_short_by b bs false h = omega arith

word_short : (bs : List ℕ) → length (past_word bs) ≤ length bs
word_short [] = omega arith
word_short (b ∷ bs) = word_short_by b bs (is_ascii_alphanumeric b) (word_short bs)

behind : (a b : List ℕ) (c : ℕ) (rest : List ℕ) → suc (length rest) ≤ length (a ++ (b ++ c ∷ rest))
behind a b c rest = omega (arith, length-append a (b ++ c ∷ rest), length-append b (c ∷ rest))

quoted : (b : List ℕ) (rest : List ℕ) → suc (length rest) ≤ length (34 ∷ (b ++ 34 ∷ rest))
quoted b rest = omega (arith, length-append b (34 ∷ rest))

-- a piece takes a byte for each of its tokens, and one at least
taken : {text rest : List ℕ} {us : List Token} → Begins text us rest
    → (suc (length rest) ≤ length text) × (length us + length rest ≤ length text)
taken (spelling.blank b rest p) = (omega arith, omega arith)
taken (spelling.comment text) = let h = line_short text in (omega (arith, h), omega (arith, h))
taken (spelling.word b text p) = let h = word_short text in (omega (arith, h), omega (arith, h))
taken (spelling.int n text rest i) =
    let h : suc (length rest) ≤ length text =
    subst (λ z. suc (length rest) ≤ length z) (sym i.written)
    (behind (spelling.sign i.minus) (decimal i.size) 110 rest) in
    (h, omega (arith, h))
taken (spelling.string content text rest t) =
    let h : suc (length rest) ≤ length text =
    subst (λ z. suc (length rest) ≤ length z) (sym t.written) (quoted t.bytes rest) in
    (h, omega (arith, h))
taken (spelling.mark b rest p) = (omega arith, omega arith)

pub few : {text : List ℕ} {ts : List Token} → Scans text ts → length ts ≤ length text
few end = omega arith
few (next {text = text} {rest = rest} {front = us} {ts = ts} b d) =
    let h = taken b in let k = few d in omega (arith, h.1, k, length-append us ts)

-- a place at which a text stops is within it
pub within : {text : List ℕ} {at : ℕ} → Stops text at → at < length text
within (here b text n) = omega arith
within (past b d) = let t = taken b in let h = within d in omega (arith, t.0, h)

-- ---- texts

front_err : (us : List Lexeme) (r : Scanned) (e : ℕ) → in_front us r ≡ Err e → r ≡ Err e
front_err us (Ok ls) e h = absurd cc
front_err us (Err f) e h = h

-- the tokens of a text, or where it stops
abbrev pub Read : ℕ → ℕ → List ℕ → Type 0
Read from at text = ((ts : List Token) × Scans text ts × (scan_on mode.Between [] from at text ≡ Ok (map lexeme_of ts)))
    ⊎ ((bad : ℕ) × Stops text bad × (scan_on mode.Between [] from at text ≡ Err (at + bad)))

abbrev pub Shorter : ℕ → Type 0
Shorter n = (text : List ℕ) → length text ≤ n → (from at : ℕ) → Read from at text

-- behind a piece
behind_piece : {text rest : List ℕ} {us : List Token} (n from at f : ℕ) → Begins text us rest
    → length text ≡ n + length rest
    → scan_on mode.Between [] from at text ≡ in_front (map lexeme_of us) (scan_on mode.Between [] f (at + n) rest)
    → Read f (at + n) rest → Read from at text
behind_piece {us = us} n from at f b c e (inl x) =
    inl (
      us ++ x.0,
      next b x.1,
      e ∙ ap (λ z. in_front (map lexeme_of us) z) x.2 ∙ ap (λ z. Ok z) (sym (map_append us x.0)),
    )
behind_piece {text = text} {rest = rest} {us = us} n from at f b c e (inr x) =
    let q : at + n + x.0 ≡ at + (length text - length rest + x.0) = omega (arith, c) in
    inr (
      length text - length rest + x.0,
      past b x.1,
      e ∙ ap (λ z. in_front (map lexeme_of us) z) x.2 ∙ ap (λ z. Err z) q,
    )

-- no piece where the machine fails here
no_later : (at n f : ℕ) (rest : List ℕ) → 0 < n → Read f (at + n) rest
    → scan_on mode.Between [] f (at + n) rest ≡ Err at → ⊥
no_later at n f rest p (inl x) e = let o : Ok (map lexeme_of x.0) ≡ Err at = sym x.2 ∙ e in absurd cc
no_later at n f rest p (inr x) e =
    let o : Err (at + n + x.0) ≡ Err at = sym x.2 ∙ e in
    let q : at + n + x.0 ≡ at = cc in omega (arith, p, q)

read_by : (n b : ℕ) (bs : List ℕ) → Shorter n → length bs ≤ n → (from at : ℕ) → Goes (b ∷ bs) → Read from at (b ∷ bs)
read_by n b bs h l from at (inl x) =
    let r = runs x.2 in
    let s = r.run from at in
    let t = taken x.2 in
    behind_piece r.size from at s.0 x.2 r.count s.1 (h x.1 (omega (arith, l, t.0)) s.0 (at + r.size))
read_by n b bs h l from at (inr g) =
    inr (
      0,
      here b bs (λ us rest q.
          (let r = runs q in
          let s = r.run 0 0 in
          let t = taken q in
          let p : 0 < r.size = omega (arith, r.count, t.0) in
          no_later 0 r.size s.0 rest p (h rest (omega (arith, l, t.0)) s.0 (0 + r.size))
          (front_err (map lexeme_of us) _ 0 (sym s.1 ∙ g 0 0)))),
      g from at ∙ ap (λ z. Err z) (let q : at ≡ at + 0 = omega arith in q),
    )

pub read : (n : ℕ) → Shorter n
read n [] l from at = inl ([], end, refl)
read zero (b ∷ bs) l from at = absurd (omega (arith, l))
read (suc n) (b ∷ bs) l from at = read_by n b bs (read n) (omega (arith, l)) from at (goes_on b bs)

-- ---- answers

-- the lexemes of a text's tokens
pub scanned_as : {text : List ℕ} {ts : List Token} → Scans text ts → IsScan text (map lexeme_of ts)
scanned_as {ts = ts} s = record {
  tokens = ts;
  scanned = s;
  only = λ us d.
      (let o : Ok (map lexeme_of us) ≡ Ok (map lexeme_of ts) = sym (scanned d 0 0) ∙ scanned s 0 0 in cc);
}

is_scan : (text : List ℕ) (ls : List Lexeme) → scan text ≡ Ok ls → Read 0 0 text → IsScan text ls
is_scan text ls e (inl x) =
    let o : Ok (map lexeme_of x.0) ≡ Ok ls = sym x.2 ∙ e in
    let q : map lexeme_of x.0 ≡ ls = cc in subst (λ z. IsScan text z) q (scanned_as x.1)
is_scan text ls e (inr x) = let o : Err (0 + x.0) ≡ Ok ls = sym x.2 ∙ e in absurd cc

is_bad : (text : List ℕ) (at : ℕ) → scan text ≡ Err at → Read 0 0 text → IsBad text at
is_bad text at e (inl x) = let o : Ok (map lexeme_of x.0) ≡ Err at = sym x.2 ∙ e in absurd cc
is_bad text at e (inr x) =
    let o : Err (0 + x.0) ≡ Err at = sym x.2 ∙ e in
    let q : x.0 ≡ at = (let z : 0 + x.0 ≡ at = cc in omega (arith, z)) in
    record {
      stops = subst (λ z. Stops text z) q x.1;
      no_scan = λ ts s. (let k : Ok (map lexeme_of ts) ≡ Err at = sym (scanned s 0 0) ∙ e in absurd cc);
    }

answer : (text : List ℕ) (s : Scan) → Has (scan text) s → Read 0 0 text → Answers text s
answer text (Lexemes ls) h r = is_scan text ls.items h r
answer text (BadScan at) h r = is_bad text at h r

pub answers : (text : List ℕ) (s : Scan) → Has (scan text) s → Answers text s
answers text s h = answer text s h (read (length text) text (omega arith) 0 0)
