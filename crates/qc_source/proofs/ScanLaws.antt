-- Bytes are one list of tokens, or have one fault.
use Rattle.std.proofs.Common.{◌≡◌, ◌≢◌, ◌<◌, ◌≤◌, ℕ, List, length, refl, ap, subst, arith}
use Rattle.qc_lex.specs.declared.fault.ScanFault.{ScanFault}
use Rattle.qc_lex.specs.declared.fault.ScanFault.TheVariants as scan
use Rattle.qc_lex.specs.declared.token.Placed.{Placed}
use Rattle.qc_lex.specs.declared.token.Table.{Table}
use Rattle.qc_lex.specs.Scanned.{IsScan, IsBad, IsFault}
use Rattle.qc_source.specs.declared.fault.QueryFault.{QueryFault}
use Rattle.qc_source.specs.declared.fault.QueryFault.TheVariants.{BadScan, TooManyTokens, BadSyntax, BadType, Memory}
use Rattle.qc_source.specs.Faults.{of_scan}
use Rattle.qc_source.specs.Queries.{IsTokens, IsScanFault}

module _ (table : Table) (bytes : List ℕ) where
  -- a fault of the scanner is one of its query
  pub scan_fault : (f : ScanFault) → IsFault table bytes f → IsScanFault table bytes (of_scan f)
  scan_fault (scan.BadScan at) u = u
  scan_fault scan.TooManyTokens u = u
  scan_fault scan.Memory u = u

  one_scan : (a b : List Placed) → IsScan table bytes a → IsScan table bytes b → a ≡ b
  one_scan a b s t = t.only a s.scanned

  -- bytes are one list of tokens
  pub one_list : (a b : List Placed) → IsTokens table bytes a → IsTokens table bytes b → a ≡ b
  one_list a b s t = one_scan a b s.scan t.scan

  not_many : (a b : List Placed) → IsTokens table bytes a → IsScan table bytes b → 1000 < length b → ⊥
  not_many a b s t many =
      let few : length b ≤ 1000 = subst (λ words. length words ≤ 1000) (one_scan a b s.scan t) s.few in
      omega arith

  not_bad : (a : List Placed) (at : ℕ) → IsScan table bytes a → IsBad table bytes at → ⊥
  not_bad a at s b = b.no_scan a s.scanned

  -- bytes that are tokens have no fault
  pub no_scan_fault : (a : List Placed) (f : QueryFault) → IsTokens table bytes a → IsScanFault table bytes f
      → f ≡ Memory
  no_scan_fault a (BadScan at) s u = absurd (not_bad a at s.scan u)
  no_scan_fault a TooManyTokens s u = absurd (not_many a u.0 s u.1 u.2)
  no_scan_fault a (BadSyntax at) s u = absurd u
  no_scan_fault a (BadType at) s u = absurd u
  no_scan_fault a Memory s u = refl

  -- and others have one, but for want of memory
  pub one_scan_fault : (f g : QueryFault) → f ≢ Memory → g ≢ Memory
      → IsScanFault table bytes f → IsScanFault table bytes g → f ≡ g
  one_scan_fault Memory g m n u v = absurd (m refl)
  one_scan_fault f Memory m n u v = absurd (n refl)
  one_scan_fault (BadSyntax a) g m n u v = absurd u
  one_scan_fault (BadType a) g m n u v = absurd u
  one_scan_fault f (BadSyntax b) m n u v = absurd v
  one_scan_fault f (BadType b) m n u v = absurd v
  one_scan_fault (BadScan a) (BadScan b) m n u v = ap (λ (at : ℕ). BadScan at) (v.only a u.stopped)
  one_scan_fault (BadScan a) TooManyTokens m n u v = absurd (not_bad v.0 a v.1 u)
  one_scan_fault TooManyTokens (BadScan b) m n u v = absurd (not_bad u.0 b u.1 v)
  one_scan_fault TooManyTokens TooManyTokens m n u v = refl
