-- Outcomes whose values are related.
use Rattle.std.proofs.Common.{◌≡◌, refl, sym, subst}
use Rattle.qc_data.specs.Outcome.{Outcome, Value, Halts, Why, and_then}
use Rattle.qc_to_js.specs.inner.Kept.{Related}

module _ {A B C D : Type 0} (P : A → Type 0) (f : A → B) (Q : C → Type 0) (g : C → D) where
  -- what comes behind related outcomes is related if it is so for each value
  pub related_then : (o : Outcome A) (p : Outcome B) (k : A → Outcome C) (l : B → Outcome D) → Related P f o p
      → ((a : A) → P a → Related Q g (k a) (l (f a))) → Related Q g (and_then o k) (and_then p l)
  related_then (Value a) p k l r rest = subst (λ q. Related Q g (k a) (and_then q l)) (sym r.1) (rest a r.0)
  related_then (Halts why) p k l r rest = subst (λ q. Related Q g (Halts why) (and_then q l)) (sym r.1) (tt, refl)

module _ {A B : Type 0} (P : A → Type 0) (f : A → B) where
  -- related outcomes that are the same as these
  pub related_as : (o q : Outcome A) (p r : Outcome B) → q ≡ o → r ≡ p → Related P f o p → Related P f q r
  related_as o q p r e d h = rw (e, d) h

  pub related_value : (a : A) → P a → Related P f (Value a) (Value (f a))
  related_value a h = (h, refl)

  pub related_halt : (why : Why) → Related P f (Halts why) (Halts why)
  related_halt why = (tt, refl)
