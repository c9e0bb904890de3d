-- The types of forms that all trees have are right where their parts' are.
use Rattle.std.proofs.Common.{◌≡◌, List, Option, Some, None, Bool, true, false, cond, IsTrue, refl}
use Rattle.std.specs.Prelude.{option_map, option_and_then}
use Rattle.qc_data.specs.Kinds.{as_coll, coll_at}
use Rattle.qc_data.specs.Outcome.{Mode, Outcome, Value, and_then, each}
use Rattle.qc_data.specs.declared.data.Datum.{Datum}
use Rattle.qc_data.specs.declared.data.Datum.TheOpen.{Datum-F}
use Rattle.qc_data.specs.declared.data.Datum.TheViews.{out-Datum}
use Rattle.qc_data.specs.declared.data.Datum.TheVariants as datum
use Rattle.qc_types.specs.declared.ty.Ty.{Ty}
use Rattle.qc_types.specs.declared.ty.Ty.TheOpen.{Ty-F}
use Rattle.qc_types.specs.declared.ty.Ty.TheViews.{out-Ty}
use Rattle.qc_types.specs.declared.ty.Ty.TheVariants as ty
use Rattle.qc_types.specs.Classes.{Defs}
use Rattle.qc_types.specs.Joins.{join, AboveBoth}
use Rattle.qc_types.specs.Schemas.{good_classes}
use Rattle.qc_types.specs.Types.{sub}
use Rattle.qc_types.proofs.Inductions.{AllOf}
use Rattle.qc_types.proofs.JoinLaws.{join_above}
use Rattle.qc_ops.specs.Operands.{as_bool, bag}
use Rattle.qc_typing.specs.Typed.{HasType}
use Rattle.qc_typing.proofs.Outcomes.{Holds, Typed, holds_then, holds_weaker, typed_after, typed_each, typed_map}
use Rattle.qc_typing.proofs.Outcomes.{typed_then}
use Rattle.qc_typing.proofs.Values.{Any, At, below_type, bool_holds, coll_layer, make_coll, nothing_bottom, opened}
use Rattle.qc_trees.specs.Branches.{truth}
use Rattle.qc_ops.specs.Sides.{side_at, by_side}
use Rattle.qc_trees.specs.PartTypes.{join_both, chosen_type}
use Rattle.qc_typing.specs.Kinds.{members_bound, bound_by, sides_bound, sides_of}
use Rattle.qc_trees.proofs.ConstantsSound.{typed_if}

module _ (c : Defs) (g : IsTrue (good_classes c)) (m : Mode) where
  abbrev pub Bag : List Datum → Ty → Type 0
  Bag xs t = AllOf (λ x. HasType c x t) xs

  -- ---- members

  bound_layer : (x : Datum-F Datum) (y : Ty-F Ty) → At c x y → Typed m Bag (members_bound y) (coll_at x)
  bound_layer x Ty-F.Bottom h = absurd (nothing_bottom c x Ty-F.Bottom refl h)
  bound_layer x (Ty-F.Coll t) h = coll_layer c m t x h
  bound_layer x y h = tt

  -- the members of a collection
  pub bound_typed : (t : Ty) (v : Datum) → HasType c v t → Typed m Bag (bound_by t) (as_coll v)
  bound_typed t v h = bound_layer (out-Datum v) (out-Ty t) (opened c v t h)

  each_typed : (r : Option Ty) (x : Ty) (f : Datum → Outcome Datum) (xs : List Datum) → Bag xs x
      → ((y : Datum) → HasType c y x → Typed m (HasType c) r (f y))
      → Typed m (HasType c) (option_map (λ u. ty.Coll u) r) (bag (each f xs))
  each_typed r x f xs all h =
      typed_map m Bag (HasType c) r (each f xs) (λ u. ty.Coll u) (λ ys. Value (datum.Coll ys))
      (typed_each m (λ y. HasType c y x) (HasType c) r f xs all h) (λ t ys k. make_coll c t ys k)

  -- a value of the type that there is for each value of a type
  abbrev pub Body : (Ty → Option Ty) → (Datum → Outcome Datum) → Type 0
  Body f a = (t : Ty) (v : Datum) → HasType c v t → Typed m (HasType c) (f t) (a v)

  -- what a body makes of each member
  pub members_typed : (f : Ty → Option Ty) (a : Datum → Outcome Datum) → Body f a
      → Body (λ t. option_and_then (λ x. option_map (λ u. ty.Coll u) (f x)) (bound_by t))
      (λ v. and_then (as_coll v) (λ xs. bag (each a xs)))
  members_typed f a s t v h =
      typed_then m Bag (HasType c) (bound_by t) (as_coll v) (λ x. option_map (λ u. ty.Coll u) (f x))
      (λ xs. bag (each a xs)) (bound_typed t v h) (λ x xs all. each_typed (f x) x a xs all (λ y i. s x y i))

  -- ---- values of one of two types are of their join

  pub join_left : (t u : Ty) (j : Option Ty) (o : Outcome Datum) → AboveBoth c t u j → Holds m (λ v. HasType c v t) o
      → Typed m (HasType c) j o
  join_left t u None o up h = tt
  join_left t u (Some j) o up h =
      holds_weaker m (λ v. HasType c v t) (λ v. HasType c v j) o (λ v k. below_type c g v t j k up.0) h

  pub join_right : (t u : Ty) (j : Option Ty) (o : Outcome Datum) → AboveBoth c t u j → Holds m (λ v. HasType c v u) o
      → Typed m (HasType c) j o
  join_right t u None o up h = tt
  join_right t u (Some j) o up h =
      holds_weaker m (λ v. HasType c v u) (λ v. HasType c v j) o (λ v k. below_type c g v u j k up.1) h

  both_left : (r q : Option Ty) (o : Outcome Datum) → Typed m (HasType c) r o → Typed m (HasType c) (join_both c r q) o
  both_left None q o h = tt
  both_left (Some t) None o h = tt
  both_left (Some t) (Some u) o h = join_left t u (join c t u) o (join_above c t u) h

  both_right : (r q : Option Ty) (o : Outcome Datum) → Typed m (HasType c) q o → Typed m (HasType c) (join_both c r q) o
  both_right None q o h = tt
  both_right (Some t) None o h = tt
  both_right (Some t) (Some u) o h = join_right t u (join c t u) o (join_above c t u) h

  -- ---- conditions

  pub truth_holds : (o : Outcome Datum) (t : Ty) → IsTrue (sub c t ty.Bool) → Holds m (λ v. HasType c v t) o
      → Holds m Any (truth o)
  unfolding truth
  truth_holds o t below h =
      holds_then m (λ v. HasType c v t) Any o as_bool h
      (λ v k. bool_holds c m v (below_type c g v t ty.Bool k below))

  branch_typed : (b : Bool) (x y : Ty) (o p : Outcome Datum) → Holds m (λ v. HasType c v x) o
      → Holds m (λ v. HasType c v y) p → Typed m (HasType c) (join c x y) (cond b o p)
  branch_typed true x y o p h k = join_left x y (join c x y) o (join_above c x y) h
  branch_typed false x y o p h k = join_right x y (join c x y) p (join_above c x y) k

  pub chosen_typed : (test r q : Option Ty) (t o p : Outcome Datum) → Typed m (HasType c) test t
      → Typed m (HasType c) r o → Typed m (HasType c) q p
      → Typed m (HasType c) (option_and_then (λ u. option_and_then (λ x. option_and_then (chosen_type c u x) q) r) test)
      (and_then (truth t) (λ holds. cond holds o p))
  chosen_typed None r q t o p h i j = tt
  chosen_typed (Some u) None q t o p h i j = tt
  chosen_typed (Some u) (Some x) None t o p h i j = tt
  chosen_typed (Some u) (Some x) (Some y) t o p h i j =
      typed_if m (HasType c) (sub c u ty.Bool) (join c x y) _ (λ below.
      typed_after m Any (HasType c) (join c x y) (truth t) (λ holds. cond holds o p) (truth_holds t u below h)
      (λ b k. branch_typed b x y o p i j))

  -- ---- sides

  module _ (f h : Ty → Option Ty) (a b : Datum → Outcome Datum) (s : Body f a) (z : Body h b) where
    side_layer : (x : Datum-F Datum) (y : Ty-F Ty) → At c x y
        → Typed m (HasType c) (option_and_then (λ u. join_both c (f u.0) (h u.1)) (sides_bound y)) (side_at a b x)
    side_layer x Ty-F.Bottom j = absurd (nothing_bottom c x Ty-F.Bottom refl j)
    side_layer (Datum-F.Left d) (Ty-F.Either t u) j =
        both_left (f t) (h u) (a d) (s t d (record { fitting = j.fitting; records = j.records }))
    side_layer (Datum-F.Right d) (Ty-F.Either t u) j =
        both_right (f t) (h u) (b d) (z u d (record { fitting = j.fitting; records = j.records }))
    side_layer x (Ty-F.Either t u) j = let i = j.fitting in absurd (cc)
    side_layer x y j = tt

    -- what the content of a left and of a right value gives
    pub sides_typed : Body (λ t. option_and_then (λ u. join_both c (f u.0) (h u.1)) (sides_of t)) (by_side a b)
    sides_typed t v i = side_layer (out-Datum v) (out-Ty t) (opened c v t i)
