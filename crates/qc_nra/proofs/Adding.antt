-- Members put behind others.
use Rattle.std.proofs.Common.{◌≡◌, ◌∙◌, ◌++◌, List, [], ◌∷◌, ap, append_assoc, append-nil, refl, sym}
use Rattle.qc_data.specs.Outcome.{Outcome, Value, Halts, Why, alone, and_then, gather}
use Rattle.qc_data.specs.declared.data.Datum.{Datum}
use Rattle.qc_data.proofs.Outcomes.{gather_from, gather_is}
use Rattle.qc_nra.specs.Forms.{beside}
use Rattle.qc_nra.specs.inner.Added.{added, all_added}
use Rattle.qc_ops.specs.Records.{concatenation}

pub added_halt : (done : List Datum) (w : Why) → added done (Halts w) ≡ Halts w
unfolding added
added_halt done w = refl

added_twice : (done ys : List Datum) (o : Outcome (List Datum)) → added (done ++ ys) o ≡ added done (added ys o)
unfolding added
added_twice done ys (Value zs) = ap Value (append_assoc done ys zs)
added_twice done ys (Halts w) = refl

from_step : (f : Datum → Outcome (List Datum)) (done : List Datum) (o : Outcome (List Datum)) (xs : List Datum)
    → ((d : List Datum) → gather_from f d xs ≡ added d (gather f xs))
    → and_then o (λ ys. gather_from f (done ++ ys) xs)
    ≡ added done (and_then o (λ ys. and_then (gather f xs) (λ zs. Value (ys ++ zs))))
unfolding added
from_step f done (Value ys) xs h = h (done ++ ys) ∙ added_twice done ys (gather f xs)
from_step f done (Halts w) xs h = refl

from_is : (f : Datum → Outcome (List Datum)) (done xs : List Datum) → gather_from f done xs ≡ added done (gather f xs)
unfolding added
from_is f done [] = ap Value (sym (append-nil done))
from_is f done (x ∷ xs) = from_step f done (f x) xs (λ d. from_is f d xs)

-- a record with each of the members, behind others
pub beside_added : (done ys : List Datum) (x : Datum)
    → added done (beside ys x) ≡ gather_from (λ y. alone (concatenation x y)) done ys
unfolding beside
beside_added done ys x = sym (from_is (λ y. alone (concatenation x y)) done ys)

all_step : (f : Datum → Outcome (List Datum)) (done : List Datum) (o : Outcome (List Datum)) (xs : List Datum)
    → ((d : List Datum) → gather_from f d xs ≡ all_added f d xs)
    → and_then o (λ ys. gather_from f (done ++ ys) xs) ≡ and_then (added done o) (λ all. all_added f all xs)
unfolding added
all_step f done (Value ys) xs h = h (done ++ ys)
all_step f done (Halts w) xs h = refl

all_is : (f : Datum → Outcome (List Datum)) (done xs : List Datum) → gather_from f done xs ≡ all_added f done xs
all_is f done [] = refl
all_is f done (x ∷ xs) = all_step f done (f x) xs (λ d. all_is f d xs)

-- a traversal by what each member adds
pub gather_added : (f : Datum → Outcome (List Datum)) (xs : List Datum) → gather f xs ≡ all_added f [] xs
gather_added f xs = gather_is f xs ∙ all_is f [] xs
