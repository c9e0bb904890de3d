-- A text stops at one place.
use Rattle.std.proofs.Common.{◌≡◌, inl, inr, ℕ, ◌+◌, ◌-◌, List, [], ◌∷◌, map, length, refl, sym, ap, ◌∙◌, arith}
use Rattle.std.specs.Prelude.{Err}
use Rattle.qc_js.specs.declared.token.Token.{Token}
use Rattle.qc_js.specs.Spelling.{Begins, Scans, Stops, next, here, past}
use Rattle.qc_js_lex.specs.declared.step.Mode.TheVariants as mode
use Rattle.qc_js_lex.specs.Lexemes.{lexeme_of}
use Rattle.qc_js_lex.specs.inner.Machine.{in_front, scan_on}
use Rattle.qc_js_lex.proofs.Answered.{Read, read}
use Rattle.qc_js_lex.proofs.Runs.{runs}

-- nothing begins here
abbrev None : List ℕ → Type 0
None text = (front : List Token) (rest : List ℕ) → ¬ Begins text front rest

no_tokens : (b : ℕ) (text : List ℕ) (ts : List Token) → None (b ∷ text) → Scans (b ∷ text) ts → ⊥
no_tokens b text ts none (next {rest = rest} {front = us} p d) = none us rest p

at_once : (b : ℕ) (text : List ℕ) (at : ℕ) → None (b ∷ text) → Stops (b ∷ text) at → at ≡ 0
at_once b text at none (here c more m) = refl
at_once b text at none (past {rest = rest} {front = us} p d) = absurd (none us rest p)

stops_here : (b : ℕ) (text : List ℕ) (from a : ℕ) → None (b ∷ text) → Read from a (b ∷ text)
    → scan_on mode.Between [] from a (b ∷ text) ≡ Err (a + 0)
stops_here b text from a none (inl x) = absurd (no_tokens b text x.0 none x.1)
stops_here b text from a none (inr x) = x.2 ∙ ap (λ z. Err (a + z)) (at_once b text x.0 none x.1)

-- the machine fails where the text stops
machine_stops : {text : List ℕ} {at : ℕ} → Stops text at → (from a : ℕ)
    → scan_on mode.Between [] from a text ≡ Err (a + at)
machine_stops (here b text none) from a =
    stops_here b text from a none (read (length (b ∷ text)) (b ∷ text) (omega arith) from a)
machine_stops (past {text = text} {rest = rest} {front = us} {at = at} p d) from a =
    let r = runs p in
    let s = r.run from a in
    let q : a + r.size + at ≡ a + (length text - length rest + at) = omega (arith, r.count) in
    s.1 ∙ ap (λ z. in_front (map lexeme_of us) z) (machine_stops d s.0 (a + r.size)) ∙ ap (λ z. Err z) q

pub one_stop : {text : List ℕ} {at bad : ℕ} → Stops text at → Stops text bad → at ≡ bad
one_stop {at = at} {bad = bad} s u =
    let o : Err (0 + at) ≡ Err (0 + bad) = sym (machine_stops s 0 0) ∙ machine_stops u 0 0 in
    let q : 0 + at ≡ 0 + bad = cc in omega (arith, q)
