-- What a value of an outcome tells of its parts.
use Rattle.std.proofs.Common.{◌≡◌, Bool, true, false, cond, Option, Some, None, refl, ap}
use Rattle.qc_data.specs.Outcome.{Outcome, Value, Halts, and_then, IsKept}
use Rattle.qc_data.specs.declared.data.Datum.{Datum}
use Rattle.qc_data.specs.declared.data.Datum.TheOpen.{Datum-F}
use Rattle.qc_ops.specs.Operands.{as_bool, found}
use Rattle.qc_ops.specs.Sides.{side_at}
use Rattle.qc_trees.specs.Branches.{truth}

-- the first part has a value, and the second one goes on from it to b
pub record GoesOn (A B : Type 0) (o : Outcome A) (f : A → Outcome B) (b : B) : Type 0 where
  pub value : A
  pub first : o ≡ Value value
  pub goes : f value ≡ Value b

pub goes_on : {A B : Type 0} (o : Outcome A) (f : A → Outcome B) (b : B) → and_then o f ≡ Value b → GoesOn A B o f b
goes_on (Value a) f b e = record { value = a; first = refl; goes = e }
goes_on (Halts why) f b e = absurd (cc)

pub value_is : {A : Type 0} (a b : A) → Value a ≡ Value b → a ≡ b
value_is a b e = cc

pub found_is : {A : Type 0} (o : Option A) (a : A) → found o ≡ Value a → o ≡ Some a
found_is (Some b) a e = ap Some (value_is b a e)
found_is None a e = absurd (cc)

-- what a condition that is true or false has as its value
pub truth_of : (o : Outcome Datum) (t : Bool) → truth o ≡ Value t → GoesOn Datum Bool o as_bool t
unfolding truth
truth_of o t e = goes_on o as_bool t e

-- where each value of the first outcome is the second's, the first is kept
pub kept_where : {A : Type 0} (o p : Outcome A) → ((a : A) → o ≡ Value a → p ≡ Value a) → IsKept o p
kept_where (Value a) p h = h a refl
kept_where (Halts why) p h = tt

pub same_outcome : {A : Type 0} (o : Outcome A) → and_then o (λ v. Value v) ≡ o
same_outcome (Value v) = refl
same_outcome (Halts why) = refl

-- where the first outcome is a value that the test or the side picks, so is the second
pub value_chosen : {A B : Type 0} (t : Bool) (a b : Outcome A) (c d : Outcome B) (u : A) (v : B)
    → (a ≡ Value u → c ≡ Value v) → (b ≡ Value u → d ≡ Value v) → cond t a b ≡ Value u → cond t c d ≡ Value v
value_chosen true a b c d u v h k e = h e
value_chosen false a b c d u v h k e = k e

pub value_at : {A B : Type 0} (f g : Datum → Outcome A) (h k : Datum → Outcome B) (u : A) (v : B)
    → ((x : Datum) → f x ≡ Value u → h x ≡ Value v) → ((x : Datum) → g x ≡ Value u → k x ≡ Value v)
    → (d : Datum-F Datum) → side_at f g d ≡ Value u → side_at h k d ≡ Value v
value_at f g h k u v p q (Datum-F.Left d) e = p d e
value_at f g h k u v p q (Datum-F.Right d) e = q d e
value_at f g h k u v p q _ e = absurd (cc)
