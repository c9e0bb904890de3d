-- A text spells at most one program, and reading the layout of a program gives it back.
use Rattle.std.proofs.Common.{◌≡◌, ◌⊎◌, inl, inr, ◌≤◌, List, ℕ, length, refl, sym, ap, subst, arith}
use Rattle.std.specs.Prelude.{Result, Ok, Err}
use Rattle.qc_js.specs.declared.tree.Program.{Program}
use Rattle.qc_js.specs.Spelling.{Spells}
use Rattle.qc_js.specs.Tokens.{program_tokens}
use Rattle.qc_js_text.specs.declared.fault.JsFault.{JsFault}
use Rattle.qc_js_text.specs.declared.fault.JsFault.TheVariants.{TooLong, BadScan, BadJs, Memory}
use Rattle.qc_js_text.specs.Reading.{Answers, depth, most_bytes, most_open}
use Rattle.qc_js_text.proofs.Answered.{same_tokens}

-- a text within the limits that spells a program is read as this program, if memory suffices
pub read_back : (text : List ℕ) (p : Program) (r : Result Program JsFault) → Spells text p
    → length text ≤ most_bytes → depth (program_tokens p) ≤ most_open → Answers text r → (r ≡ Ok p) ⊎ (r ≡ Err Memory)
read_back text p (Ok q) s l d a = inl (ap (λ z. Ok z) (sym (a.only p s)))
read_back text p (Err TooLong) s l d a = absurd (omega (arith, l, a))
read_back text p (Err (BadScan at)) s l d a = absurd (a.no_scan (program_tokens p) s.tokens)
read_back text p (Err BadJs) s l d a =
    let same : program_tokens p ≡ a.tokens = same_tokens p s a.tokens a.scanned in
    absurd (a.bad (subst (λ z. depth z ≤ most_open) same d) p s)
read_back text p (Err Memory) s l d a = inr refl
