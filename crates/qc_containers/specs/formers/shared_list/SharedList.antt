-- `SharedList` as a type that may hold the type that holds it.
use Rattle.std.specs.Prelude.{◌≡◌, List, [], Option, Some, None, map}
use mathlib.Core.Path.{refl, sym}
use mathlib.Core.Logic.{◌⊎◌, inl, inr}
use mathlib.Core.Former.{Former, this, const, pair, or, list, via, children}
use base.Stored.{code_map, gnil}
use base.Fml.{ftrue}
use denote.RattleType.{RattleType}
use denote.Memory.{part_of}
use denote.RawPtr.{Ptr}
use denote.Sharing.{nothing}
use denote.HoleLaws.{Alike}
use denote.HolePlaces.{Recodes, struct_places, enum_places, eachs, laid, one_value}
use denote.Hole.Carrier.{listed, list-listed}
use denote.Hole.Fix.{over}
use denote.Param.Weighed.{Weighed, w_list}
use denote.Model.Placed.{held, view_places}
use Rattle.std.specs.formers.vec.Vec as vec
use Rattle.std.specs.declared.vec.Vec.{Vec}
use Rattle.std.specs.contracts.vec.Vec as vector
use Rattle.std.specs.declared.rc.Rc.{Rc}
use Rattle.std.specs.contracts.rc.Rc as rc
use Rattle.std.specs.contracts.option.Option as option
use Rattle.std.specs.declared.alloc.Global.{Global}
use Rattle.std.specs.contracts.alloc.Global as heap
use Rattle.std.specs.contracts.impls.GlobalAllocator.TheImpl.{ghosts}
use Rattle.qc_containers.specs.Sharing.{list_of}
use Rattle.qc_containers.specs.declared.shared_list.SharedList.TheInside.{Inside}
use Rattle.qc_containers.specs.declared.shared_list.SharedList.TheView.{view, invariant}
use Rattle.qc_containers.specs.contracts.shared_list.SharedList as C
use Rattle.qc_containers.specs.contracts.shared_list.SharedList.TheInside as I

abbrev pub the_former : Former {0} → Former {0}
the_former g = list g

abbrev pub the_weighed : {g : Former {0}} → Weighed g → Weighed (the_former g)
the_weighed w = w_list w

pub the_empty : List ⊥
the_empty = []

abbrev pub the_items : (X : Type 0) → List X → List X
the_items X d = d

pub the_items_listed : (X : Type 0) (d : List X) → listed _ (children (the_former this) X d) ≡ the_items X d
the_items_listed X d = list-listed X d

-- ---- the fields, from the inside out: a `Vec`, an `Rc` of it, and an `Option` of that
abbrev Handle : Type 0 → Type 0
Handle X = Rc (Vec X Global) Global

abbrev handles : Former {0}
handles =
    via (pair (const Ptr) (vec.the_former this Global)) Handle (λ X r. (r.ptr, r.value))
    (λ X v. record { ptr = v.0; value = v.1 }) (λ X r. refl) (λ X v. refl)

module _ {X : Type 0} where
  abbrev split : Option (Handle X) → Unit {0} ⊎ Handle X
  split None = inl tt
  split (Some r) = inr r

  abbrev join : Unit {0} ⊎ Handle X → Option (Handle X)
  join (inl u) = None
  join (inr r) = Some r

  join-split : (o : Option (Handle X)) → join (split o) ≡ o
  join-split None = refl
  join-split (Some r) = refl

  split-join : (s : Unit {0} ⊎ Handle X) → split (join s) ≡ s
  split-join (inl u) = refl
  split-join (inr r) = refl

abbrev maybe : Former {0}
maybe = via (or (const (Unit {0})) handles) (λ X. Option (Handle X)) (λ X. split) (λ X. join) (λ X. join-split)
    (λ X. split-join)

abbrev fields : Former {0}
fields = via (pair maybe (const Global)) Inside (λ X a. (a.items, a.alloc)) (λ X v. record { items = v.0; alloc = v.1 })
    (λ X a. refl) (λ X v. refl)

abbrev over_handle : {X Y : Type 0} → (X → Y) → Handle X → Handle Y
over_handle h r = record { ptr = r.ptr; value = vec.mapped h r.value }

abbrev over_maybe : {X Y : Type 0} → (X → Y) → Option (Handle X) → Option (Handle Y)
over_maybe h None = None
over_maybe h (Some r) = Some (over_handle h r)

abbrev inside : {X : Type 0} → Option (Handle X) → Global → Inside X
inside o a = record { items = o; alloc = a }

keeps : (X : Type 0) (o : Option (Handle X)) (a : Global)
    → held (the_former this) X (list_of o) ≡ held fields X (inside o a)
keeps X None a = refl
keeps X (Some r) a = refl

natural : (X Y : Type 0) (h : X → Y) (o : Option (Handle X)) (a : Global)
    → list_of (fields.map X Y h (inside o a)).items ≡ map h (list_of o)
natural X Y h None a = refl
natural X Y h (Some r) a = refl

over_is : (X Y : Type 0) (h : X → Y) (o : Option (Handle X)) → maybe.map X Y h o ≡ over_maybe h o
over_is X Y h None = refl
over_is X Y h (Some r) = refl

abbrev rc_of : RattleType → RattleType
rc_of R = rc.the_row R heap.the_row ghosts

abbrev vec_of : RattleType → RattleType
vec_of R = vector.the_row R heap.the_row ghosts

abbrev with_value : {X Y : Type 0} → Rc X Global → Y → Rc Y Global
with_value r y = record { ptr = r.ptr; value = y }

-- an `Rc` goes along with what it holds
module _ (R S : RattleType) (h : R.Denot → S.Denot) where
  rc_places : Alike R S h → Alike (rc_of R) (rc_of S) (λ r. with_value r (h r.value))
  unfolding part_of
  rc_places a = record {
    mir_same = λ i. (rc_of (one_value R (a.mir_same i) (λ _. ftrue) (λ _ _. nothing) gnil)).mir;
    own_same =
        λ r i. (rc_of (one_value R (a.mir_same i) (a.own_same r.value i) (a.shr_same r.value i) gnil)).own_val
        (with_value r tt);
    shr_same =
        λ r i. (rc_of (one_value R (a.mir_same i) (a.own_same r.value i) (a.shr_same r.value i) gnil)).shr_at
        (with_value r tt);
  }

module _ (R S : RattleType) (h : R.Denot → S.Denot) where
  variant : (o : Option (Handle R.Denot)) → (option.enum (rc_of (vec_of S))).as_values (over_maybe h o)
      ≡ eachs (option.enum (rc_of (vec_of R))).parts (option.enum (rc_of (vec_of S))).parts
      (tt, ((over_handle h, tt), tt)) ((option.enum (rc_of (vec_of R))).as_values o)
  variant None = refl
  variant (Some r) = refl

  maybe_places : Alike R S h → Alike (option.the_row (rc_of (vec_of R))) (option.the_row (rc_of (vec_of S)))
      (over_maybe h)
  maybe_places a =
      enum_places (option.enum (rc_of (vec_of R))) (option.enum (rc_of (vec_of S))) (tt, ((over_handle h, tt), tt))
      (over_maybe h) variant refl (
        tt,
        (
          (
            laid _ _ _ (rc_places (vec_of R) (vec_of S) (vec.mapped h) (vec.the_places heap.the_row ghosts R S h a)),
            tt,
          ),
          tt,
        ),
      )

  pub the_places : Alike R S h → Alike (C.the_row R) (C.the_row S) ((the_former this).map R.Denot S.Denot h)
  the_places a =
      view_places fields (the_former this) view (λ X Y k u. natural X Y k u.items u.alloc)
      (λ X u. keeps X u.items u.alloc) R.Denot S.Denot h (C.the_row R).coded (C.the_row S).coded
      (invariant R.Denot) (invariant S.Denot) (λ u p q. refl) (λ u p q. refl) (λ u e. tt) (λ u e. tt)
      (over (I.the_row R)) (over (I.the_row S))
      (struct_places (I.the_type R) (I.the_type S) (over_maybe h, ((λ n. n), tt)) _
      (λ d i. (over_is R.Denot S.Denot h d.items i, (d.alloc, tt))) refl
      (laid _ _ _ (maybe_places a), ((refl, (λ n. refl, λ n. refl)), tt)))

  pub the_codes_placed : Recodes R S h → Recodes (C.the_row R) (C.the_row S) ((the_former this).map R.Denot S.Denot h)
  the_codes_placed e d = sym (code_map R.coded.code S.coded.code h (λ x. sym (e x)) d)
