-- The last value of those that were written.
use Rattle.std.proofs.Common.{◌≡◌, List, [], ◌∷◌, Option, Some, None, refl}
use Rattle.qc_data.specs.declared.data.Datum.{Datum}
use Rattle.qc_nnrs_store.specs.Variables.{last_of}
use Rattle.qc_nnrs_store.specs.inner.Last.{last_after}

after_any : (d : Datum) (o : Option Datum) (ds : List Datum) → last_of (d ∷ ds) ≡ last_after o (d ∷ ds)
after_any d o [] = refl
after_any d o (e ∷ ds) = after_any e (Some d) ds

pub last_is : (ds : List Datum) → last_of ds ≡ last_after None ds
last_is [] = refl
last_is (d ∷ ds) = after_any d None ds
