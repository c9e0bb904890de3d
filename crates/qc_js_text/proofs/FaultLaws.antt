-- A text is read as one program, or has one fault.
use Rattle.std.proofs.Common.{◌≡◌, ◌≢◌, ℕ, List, refl, sym, ap, arith}
use Rattle.std.specs.Prelude.{Err}
use Rattle.qc_js.specs.declared.tree.Program.{Program}
use Rattle.qc_js.specs.Tokens.{program_tokens}
use Rattle.qc_js_lex.proofs.StopLaws.{one_stop}
use Rattle.qc_js_text.specs.declared.fault.JsFault.{JsFault}
use Rattle.qc_js_text.specs.declared.fault.JsFault.TheVariants as fault
use Rattle.qc_js_text.specs.Reading.{Answers, IsRead}

module _ (text : List ℕ) where
  pub one_value : (p q : Program) → IsRead text p → IsRead text q → p ≡ q
  one_value p q a b = sym (a.only q b.spelled)

  pub no_fault : (p : Program) (f : JsFault) → IsRead text p → Answers text (Err f) → f ≡ fault.Memory
  no_fault p fault.TooLong a long = absurd (omega (arith, a.short, long))
  no_fault p (fault.BadScan at) a u = absurd (u.no_scan (program_tokens p) a.spelled.tokens)
  no_fault p fault.BadJs a u = absurd (u.bad (a.shallow u.tokens u.scanned) p a.spelled)
  no_fault p fault.Memory a u = refl

  pub one_fault : (f g : JsFault) → f ≢ fault.Memory → g ≢ fault.Memory → Answers text (Err f) → Answers text (Err g)
      → f ≡ g
  one_fault fault.Memory g m n u v = absurd (m refl)
  one_fault f fault.Memory m n u v = absurd (n refl)
  one_fault fault.TooLong fault.TooLong m n u v = refl
  one_fault fault.TooLong (fault.BadScan at) m n long v = absurd (omega (arith, long, v.short))
  one_fault fault.TooLong fault.BadJs m n long v = absurd (omega (arith, long, v.short))
  one_fault (fault.BadScan at) fault.TooLong m n u long = absurd (omega (arith, long, u.short))
  one_fault (fault.BadScan at) (fault.BadScan bad) m n u v = ap (λ z. fault.BadScan z) (one_stop u.stops v.stops)
  one_fault (fault.BadScan at) fault.BadJs m n u v = absurd (u.no_scan v.tokens v.scanned)
  one_fault fault.BadJs fault.TooLong m n u long = absurd (omega (arith, long, u.short))
  one_fault fault.BadJs (fault.BadScan at) m n u v = absurd (v.no_scan u.tokens u.scanned)
  one_fault fault.BadJs fault.BadJs m n u v = refl
