-- What a scan answers.
use Rattle.std.specs.Prelude.{◌≡◌, ℕ, ◌<◌, ◌≤◌, List, length, Result, Ok, Err}
use Rattle.qc_lex.specs.declared.token.Table.{Table}
use Rattle.qc_lex.specs.declared.token.Placed.{Placed}
use Rattle.qc_lex.specs.declared.fault.ScanFault.{ScanFault}
use Rattle.qc_lex.specs.declared.fault.ScanFault.TheVariants.{BadScan, TooManyTokens, Memory}
use Rattle.qc_lex.specs.Tokens.{Scans, Stops}

-- the bytes are these tokens, no others, and have no bad byte
pub record IsScan (table : Table) (bytes : List ℕ) (words : List Placed) : Type 0 where
  pub scanned : Scans table bytes 0 words
  pub only : (others : List Placed) → Scans table bytes 0 others → others ≡ words
  pub good : (at : ℕ) → ¬ Stops table bytes 0 at

-- the byte at the place is the first bad one, and so the bytes are no tokens
pub record IsBad (table : Table) (bytes : List ℕ) (at : ℕ) : Type 0 where
  pub stopped : Stops table bytes 0 at
  pub only : (other : ℕ) → Stops table bytes 0 other → other ≡ at
  pub no_scan : (words : List Placed) → ¬ Scans table bytes 0 words

-- why there is a fault
abbrev pub IsFault : Table → List ℕ → ScanFault → Type 0
IsFault table bytes (BadScan at) = IsBad table bytes at
IsFault table bytes TooManyTokens = (words : List Placed) × IsScan table bytes words × (1000 < length words)
IsFault table bytes Memory = Unit {0}

-- at most 1,000 tokens, or a fault
abbrev pub Answers : Table → List ℕ → Result (List Placed) ScanFault → Type 0
Answers table bytes (Ok words) = IsScan table bytes words × (length words ≤ 1000)
Answers table bytes (Err fault) = IsFault table bytes fault
