-- A collection of what a body made of each member.
use Rattle.std.proofs.Common.{◌≡◌, List, refl}
use Rattle.qc_data.specs.Kinds.{as_coll}
use Rattle.qc_data.specs.Outcome.{Value, each}
use Rattle.qc_data.specs.declared.data.Datum.{Datum}
use Rattle.qc_data.specs.declared.data.Datum.TheVariants.{Coll}
use Rattle.qc_nra.specs.Forms.{Meaning, map_of}

pub map_made : (f : Meaning) (e v : Datum) (xs ys : List Datum) → as_coll v ≡ Value xs
    → each (λ x. f x e) xs ≡ Value ys → map_of f e v ≡ Value (Coll ys)
unfolding map_of
map_made f e v xs ys p q = rw (p, q) refl
