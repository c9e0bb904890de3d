-- Names that a test let through.
use Rattle.std.proofs.Common.{◌≡◌, ℕ, List, Bool, true, false, Some, None, cond, unwrap_or, ap}

pub some_if : (b : Bool) (n s : List ℕ) → Some n ≡ cond b (Some s) None → n ≡ s
some_if true n s e = ap (λ o. unwrap_or o n) e
some_if false n s e = absurd (cc)
