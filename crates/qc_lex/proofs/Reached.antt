-- Bytes are one list of tokens or have one first bad byte, and how far a scan has come.
use Rattle.std.proofs.Common.{◌≡◌, ℕ, zero, suc, ◌+◌, ◌<◌, ◌≤◌, ◌⊎◌, inl, inr, List, [], ◌∷◌, ◌++◌, ◌-◌, length, take}
use Rattle.std.proofs.Common.{drop, subst, refl, sym, ap, ◌∙◌, append_assoc, append-nil, length-drop, arith}
use Rattle.std.specs.List.{AllByRecursion, slice_range}
use Rattle.std.proofs.Math.Seq.{take-length}
use Rattle.qc_lex.specs.declared.token.Table.{Table}
use Rattle.qc_lex.specs.declared.token.Lexeme.{Lexeme}
use Rattle.qc_lex.specs.declared.token.Placed.{Placed}
use Rattle.qc_lex.specs.declared.front.Next.{Next}
use Rattle.qc_lex.specs.declared.front.Next.TheVariants as next
use Rattle.qc_lex.specs.Tokens.{Gap, TokenFront, NoFront, placed, Scans, ends, gap, token, Stops, here, past_gap}
use Rattle.qc_lex.specs.Tokens.{past_token}
use Rattle.qc_lex.specs.inner.Steps.{begins}
use Rattle.qc_lex.specs.Scanned.{IsScan, IsBad}
use Rattle.qc_lex.specs.Words.{AllTokens}
use Rattle.qc_lex.proofs.Laws.{gap_found, gap_is, token_found, token_is, end_found, end_is, bad_found, bad_is}
use Rattle.qc_lex.proofs.Known.{gap_size, token_size, token_piece}

-- ---- one answer

-- a scan, and a scan up to a bad byte, by what the code finds
data Walks (table : Table) (bytes : List ℕ) : ℕ → List Placed → Type 0 where
  w_ends : {at : ℕ} → begins table (drop at bytes) ≡ next.End → Walks table bytes at []
  w_gap : {at n : ℕ} {words : List Placed} → begins table (drop at bytes) ≡ next.Gap n
      → Walks table bytes (at + n) words → Walks table bytes at words
  w_token : {at : ℕ} {x : Lexeme} {words : List Placed} → begins table (drop at bytes) ≡ next.Token x
      → Walks table bytes (at + length x.piece) words
      → Walks table bytes at (placed at x ∷ words)

data Sticks (table : Table) (bytes : List ℕ) : ℕ → ℕ → Type 0 where
  s_here : {at : ℕ} → begins table (drop at bytes) ≡ next.Bad → Sticks table bytes at at
  s_gap : {at n bad : ℕ} → begins table (drop at bytes) ≡ next.Gap n → Sticks table bytes (at + n) bad
      → Sticks table bytes at bad
  s_token : {at bad : ℕ} {x : Lexeme} → begins table (drop at bytes) ≡ next.Token x
      → Sticks table bytes (at + length x.piece) bad → Sticks table bytes at bad

walks : {table : Table} {bytes : List ℕ} {at : ℕ} {words : List Placed} → Scans table bytes at words
    → Walks table bytes at words
walks {table = table} (ends e) = w_ends (end_found table e)
walks (gap g s) = w_gap (gap_found g) (walks s)
walks (token t s) = w_token (token_found t) (walks s)

sticks : {table : Table} {bytes : List ℕ} {at bad : ℕ} → Stops table bytes at bad → Sticks table bytes at bad
sticks (here n) = s_here (bad_found n)
sticks (past_gap g s) = s_gap (gap_found g) (sticks s)
sticks (past_token t s) = s_token (token_found t) (sticks s)

one_walk : {table : Table} {bytes : List ℕ} {at : ℕ} {words others : List Placed} → Walks table bytes at words
    → Walks table bytes at others → others ≡ words
one_walk (w_ends e) (w_ends f) = refl
one_walk (w_ends e) (w_gap f r) = absurd cc
one_walk (w_ends e) (w_token f r) = absurd cc
one_walk (w_gap e s) (w_ends f) = absurd cc
one_walk {table = table} {bytes = bytes} {at = at} {others = others} (w_gap {n = n} e s) (w_gap {n = k} f r) =
    let same : k ≡ n = cc in
    one_walk s (subst (λ (i : ℕ). Walks table bytes (at + i) others) same r)
one_walk (w_gap e s) (w_token f r) = absurd cc
one_walk (w_token e s) (w_ends f) = absurd cc
one_walk (w_token e s) (w_gap f r) = absurd cc
one_walk {table = table} {bytes = bytes} {at = at} (w_token {x = x} {words = ws} e s)
    (w_token {x = y} {words = vs} f r) =
    let same : y ≡ x = cc in
    let more : vs ≡ ws = one_walk s (subst (λ (z : Lexeme). Walks table bytes (at + length z.piece) vs) same r) in
    cc

one_stick : {table : Table} {bytes : List ℕ} {at bad other : ℕ} → Sticks table bytes at bad
    → Sticks table bytes at other → other ≡ bad
one_stick (s_here e) (s_here f) = refl
one_stick (s_here e) (s_gap f r) = absurd cc
one_stick (s_here e) (s_token f r) = absurd cc
one_stick (s_gap e s) (s_here f) = absurd cc
one_stick {table = table} {bytes = bytes} {at = at} {other = other} (s_gap {n = n} e s) (s_gap {n = k} f r) =
    let same : k ≡ n = cc in
    one_stick s (subst (λ (i : ℕ). Sticks table bytes (at + i) other) same r)
one_stick (s_gap e s) (s_token f r) = absurd cc
one_stick (s_token e s) (s_here f) = absurd cc
one_stick (s_token e s) (s_gap f r) = absurd cc
one_stick {table = table} {bytes = bytes} {at = at} {other = other} (s_token {x = x} e s) (s_token {x = y} f r) =
    let same : y ≡ x = cc in
    one_stick s (subst (λ (z : Lexeme). Sticks table bytes (at + length z.piece) other) same r)

not_walk : {table : Table} {bytes : List ℕ} {at bad : ℕ} {words : List Placed} → Walks table bytes at words
    → ¬ Sticks table bytes at bad
not_walk (w_ends e) (s_here f) = cc
not_walk (w_ends e) (s_gap f r) = cc
not_walk (w_ends e) (s_token f r) = cc
not_walk (w_gap e s) (s_here f) = cc
not_walk {table = table} {bytes = bytes} {at = at} {bad = bad} (w_gap {n = n} e s) (s_gap {n = k} f r) =
    let same : k ≡ n = cc in
    not_walk s (subst (λ (i : ℕ). Sticks table bytes (at + i) bad) same r)
not_walk (w_gap e s) (s_token f r) = cc
not_walk (w_token e s) (s_here f) = cc
not_walk (w_token e s) (s_gap f r) = cc
not_walk {table = table} {bytes = bytes} {at = at} {bad = bad} (w_token {x = x} e s) (s_token {x = y} f r) =
    let same : y ≡ x = cc in
    not_walk s (subst (λ (z : Lexeme). Sticks table bytes (at + length z.piece) bad) same r)

-- bytes are one list of tokens
pub one_scan : {table : Table} {bytes : List ℕ} {at : ℕ} {words others : List Placed} → Scans table bytes at words
    → Scans table bytes at others → others ≡ words
one_scan s t = one_walk (walks s) (walks t)

-- there is one first bad byte
pub one_stop : {table : Table} {bytes : List ℕ} {at bad other : ℕ} → Stops table bytes at bad
    → Stops table bytes at other → other ≡ bad
one_stop s t = one_stick (sticks s) (sticks t)

-- bytes that are tokens have no bad byte
pub not_both : {table : Table} {bytes : List ℕ} {at bad : ℕ} {words : List Placed} → Scans table bytes at words
    → ¬ Stops table bytes at bad
not_both s t = not_walk (walks s) (sticks t)

-- each word of a scan is a token
pub are_tokens : {table : Table} {bytes : List ℕ} {at : ℕ} {words : List Placed} → Scans table bytes at words
    → AllTokens words
are_tokens (ends e) = tt
are_tokens (gap g s) = are_tokens s
are_tokens {table = table} {bytes = bytes} {at = at} (token t s) = ((table, (drop at bytes, t.front)), are_tokens s)

-- the piece of each word stands in the bytes at its place
pub pieces_stand : {table : Table} {bytes : List ℕ} {at : ℕ} {words : List Placed} → Scans table bytes at words
    → AllByRecursion (λ word. slice_range bytes word.start word.end ≡ word.lexeme.piece) words
pieces_stand (ends e) = tt
pieces_stand (gap g s) = pieces_stand s
pieces_stand {bytes = bytes} {at = at} (token {x = x} t s) =
    let size : at + length x.piece - at ≡ length x.piece = omega arith in
    (ap (λ (n : ℕ). take n (drop at bytes)) size ∙ token_piece t.front, pieces_stand s)

-- ---- how far a scan has come

-- the bytes before the place are these words, with blanks and comments: what the bytes from there on are, all are
pub record Reaches (table : Table) (bytes : List ℕ) (words : List Placed) (at : ℕ) : Type 0 where
  pub scans : (more : List Placed) → Scans table bytes at more → Scans table bytes 0 (words ++ more)
  pub stops : (bad : ℕ) → Stops table bytes at bad → Stops table bytes 0 bad

pub at_start : (table : Table) (bytes : List ℕ) → Reaches table bytes [] 0
at_start table bytes = record { scans = λ more s. s; stops = λ bad s. s }

pub gap_on : {table : Table} {bytes : List ℕ} {words : List Placed} {at n : ℕ} → Reaches table bytes words at
    → Gap table (drop at bytes) n → Reaches table bytes words (at + n)
gap_on r g = record { scans = λ more s. r.scans more (gap g s); stops = λ bad s. r.stops bad (past_gap g s) }

pub token_on : {table : Table} {bytes : List ℕ} {words : List Placed} {at : ℕ} {x : Lexeme}
    → Reaches table bytes words at → TokenFront table (drop at bytes) x
    → Reaches table bytes (words ++ placed at x ∷ []) (at + length x.piece)
token_on {words = words} {at = at} {x = x} r t = record {
  scans = λ more s. rw (append_assoc words (placed at x ∷ []) more) (r.scans (placed at x ∷ more) (token t s));
  stops = λ bad s. r.stops bad (past_token t s);
}

pub is_scan : {table : Table} {bytes : List ℕ} {words : List Placed} {at : ℕ} → Reaches table bytes words at
    → drop at bytes ≡ [] → IsScan table bytes words
is_scan {table = table} {bytes = bytes} {words = words} r e =
    let s : Scans table bytes 0 words = rw (append-nil words) at (r.scans [] (ends e)) in
    record { scanned = s; only = λ others. one_scan s; good = λ at. not_both s }

pub is_bad : {table : Table} {bytes : List ℕ} {words : List Placed} {at : ℕ} → Reaches table bytes words at
    → NoFront table (drop at bytes) → IsBad table bytes at
is_bad {table = table} {bytes = bytes} {at = at} r n =
    let s : Stops table bytes 0 at = r.stops at (here n) in
    record { stopped = s; only = λ other. one_stop s; no_scan = λ words t. not_both t s }

-- ---- how the place goes on

-- a gap has a byte, and ends within the bytes
pub gap_within : {table : Table} {n : ℕ} (bytes : List ℕ) (at : ℕ) → at ≤ length bytes → Gap table (drop at bytes) n
    → (0 < n) × (at + n ≤ length bytes)
gap_within bytes at l g = let s = gap_size g in (s.0, omega (arith, s.1, length-drop at bytes))

-- so does a token
pub token_within : {table : Table} {x : Lexeme} (bytes : List ℕ) (at : ℕ) → at ≤ length bytes
    → TokenFront table (drop at bytes) x → (0 < length x.piece) × (at + length x.piece ≤ length bytes)
token_within bytes at l t = let s = token_size t.front in (s.0, omega (arith, s.1, length-drop at bytes))

-- what is left from a place on, as the code takes it
pub at_rest : (table : Table) (bytes : List ℕ) (at : ℕ)
    → begins table (take (length bytes - at) (drop at bytes)) ≡ begins table (drop at bytes)
at_rest table bytes at =
    ap (λ n. begins table (take n (drop at bytes))) (sym (length-drop at bytes))
    ∙ ap (begins table) (take-length (drop at bytes))

-- ---- no third answer

-- the bytes from a place on are tokens, or there is a first bad byte
abbrev pub OneOf : Table → List ℕ → ℕ → Type 0
OneOf table bytes at = ((words : List Placed) × Scans table bytes at words) ⊎ ((bad : ℕ) × Stops table bytes at bad)

behind_gap : {table : Table} (bytes : List ℕ) (at n : ℕ) → Gap table (drop at bytes) n → OneOf table bytes (at + n)
    → OneOf table bytes at
behind_gap bytes at n g (inl s) = inl (s.0, gap g s.1)
behind_gap bytes at n g (inr s) = inr (s.0, past_gap g s.1)

behind_token : {table : Table} (bytes : List ℕ) (at : ℕ) (x : Lexeme) → TokenFront table (drop at bytes) x
    → OneOf table bytes (at + length x.piece) → OneOf table bytes at
behind_token bytes at x t (inl s) = inl (placed at x ∷ s.0, token t s.1)
behind_token bytes at x t (inr s) = inr (s.0, past_token t s.1)

one_step : (table : Table) (bytes : List ℕ) (at : ℕ) (found : Next) → begins table (drop at bytes) ≡ found
    → at ≤ length bytes
    → ((later : ℕ) → at < later → later ≤ length bytes → OneOf table bytes later) → OneOf table bytes at
one_step table bytes at next.End e l more = inl ([], ends (end_is table (drop at bytes) e))
one_step table bytes at (next.Gap n) e l more =
    let g = gap_is table (drop at bytes) n e in
    let s = gap_within bytes at l g in
    behind_gap bytes at n g (more (at + n) (omega (arith, s.0)) s.1)
one_step table bytes at (next.Token x) e l more =
    let t = token_is table (drop at bytes) x e in
    let s = token_within bytes at l t in
    behind_token bytes at x t (more (at + length x.piece) (omega (arith, s.0)) s.1)
one_step table bytes at next.Bad e l more = inr (at, here (bad_is table (drop at bytes) e))

from_place : (table : Table) (bytes : List ℕ) (left at : ℕ) → at ≤ length bytes → length bytes ≤ at + left
    → OneOf table bytes at
from_place table bytes zero at l e =
    one_step table bytes at (begins table (drop at bytes)) refl l (λ later a b. absurd (omega arith))
from_place table bytes (suc left) at l e =
    one_step table bytes at (begins table (drop at bytes)) refl l
    (λ later a b. from_place table bytes left later b (omega arith))

-- all bytes are tokens, or have a first bad byte
pub scan_or_stop : (table : Table) (bytes : List ℕ) → OneOf table bytes 0
scan_or_stop table bytes = from_place table bytes (length bytes) 0 (omega arith) (omega arith)
