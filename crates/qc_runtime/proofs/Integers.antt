-- Arrays of integers, gone through once.
use Rattle.std.proofs.Common.{◌≡◌, ℕ, ℤ, ◌+◌, ◌<◌, List, map, drop, get_or, length, refl}
use Rattle.std.proofs.Common.{add-one}
use Rattle.std.proofs.Common.{drop-cons}
use Rattle.qc_data.specs.Kinds.{as_int}
use Rattle.qc_data.specs.Outcome.{Value}
use Rattle.qc_data.specs.declared.data.Json.{Json}
use Rattle.qc_ops.proofs.Folds.{fold_ints}
use Rattle.qc_rt.specs.Seen.{seen}

-- one integer more
pub fold_more_seen : {B : Type 0} (f : B → ℤ → B) (js : List Json) (j : Json) (i : ℕ) (z : B) (n : ℤ) (next : B)
    → j ≡ get_or js i j → as_int (seen j) ≡ Value n → i < length js → next ≡ f z n
    → fold_ints f z (map seen (drop i js)) ≡ fold_ints f next (map seen (drop (i + 1) js))
fold_more_seen f js j i z n next at is lt e = rw (add-one, drop-cons js i j, ← at, is, e) refl
