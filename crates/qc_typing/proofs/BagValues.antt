-- Values of types of collections: members kept, sorted, filtered and joined.
use Rattle.std.proofs.Common.{◌≡◌, ℕ, suc, List, [], ◌∷◌, ◌++◌, map, Bool, true, false, cond, IsTrue, Ordering, refl}
use Rattle.std.specs.Prelude.{filter, ◌==◌, nat_le, nat_lt}
use Rattle.std.specs.List.{list_all}
use Rattle.std.specs.Ordering.{is_gt}
use Rattle.qc_data.specs.Kinds.{as_coll}
use Rattle.qc_data.specs.Order.{insert_by, sort_by}
use Rattle.qc_data.specs.Outcome.{Mode, Value, gather}
use Rattle.qc_data.specs.declared.data.Datum.{Datum}
use Rattle.qc_data.specs.declared.data.Datum.TheViews.{out-Datum}
use Rattle.qc_data.specs.declared.data.Datum.TheVariants as datum
use Rattle.qc_types.specs.declared.ty.Ty.{Ty}
use Rattle.qc_types.specs.declared.ty.Ty.TheOpen.{Ty-F}
use Rattle.qc_types.specs.declared.ty.Ty.TheViews.{out-Ty}
use Rattle.qc_types.specs.declared.ty.Ty.TheVariants as ty
use Rattle.qc_types.specs.Classes.{Defs}
use Rattle.qc_types.proofs.Inductions.{AllOf}
use Rattle.qc_types.proofs.RowLaws.{and_parts}
use Rattle.qc_ops.specs.Bags.{common, firsts, kept_by, only_of, without}
use Rattle.qc_ops.specs.Operands.{bag}
use Rattle.qc_ops.specs.Sameness.{copies}
use Rattle.qc_typing.specs.Kinds.{bag_at, bag_above}
use Rattle.qc_typing.specs.Typed.{HasType}
use Rattle.qc_typing.proofs.Outcomes.{Typed, holds_then, holds_gather}
use Rattle.qc_typing.proofs.Values.{Maybe, coll_layer, make_coll, none_bottom, opened_as}

-- ---- what holds of each member

kept_all : (P : Datum → Type 0) (test : ℕ → Datum → Bool) (before xs : List Datum) → AllOf P xs
    → AllOf P (kept_by test before xs)
kept_all P test before [] h = tt
kept_all P test before (x ∷ xs) h =
    let rest = kept_all P test (before ++ x ∷ []) xs h.1 in
    elim (test (suc (copies x before)) x) as (λ b. AllOf P
    (cond b (x ∷ kept_by test (before ++ x ∷ []) xs) (kept_by test (before ++ x ∷ []) xs)))
    [ true ↦ (h.0, rest) | false ↦ rest ]

pub firsts_all : (P : Datum → Type 0) (xs : List Datum) → AllOf P xs → AllOf P (firsts xs)
firsts_all P xs h = kept_all P (λ k x. k == 1) [] xs h

pub without_all : (P : Datum → Type 0) (xs ys : List Datum) → AllOf P xs → AllOf P (without xs ys)
without_all P xs ys h = kept_all P (λ k x. nat_lt (copies x ys) k) [] xs h

pub common_all : (P : Datum → Type 0) (xs ys : List Datum) → AllOf P xs → AllOf P (common xs ys)
common_all P xs ys h = kept_all P (λ k x. nat_le k (copies x ys)) [] xs h

pub filter_all : {A : Type 0} (P : A → Type 0) (test : A → Bool) (xs : List A) → AllOf P xs → AllOf P (filter test xs)
filter_all P test [] h = tt
filter_all P test (x ∷ xs) h =
    let rest = filter_all P test xs h.1 in
    elim (test x) as (λ b. AllOf P (cond b (x ∷ filter test xs) (filter test xs))) [ true ↦ (h.0, rest) | false ↦ rest ]

pub map_all : {A B : Type 0} (P : A → Type 0) (Q : B → Type 0) (f : A → B) (xs : List A) → ((x : A) → P x → Q (f x))
    → AllOf P xs → AllOf Q (map f xs)
map_all P Q f [] k h = tt
map_all P Q f (x ∷ xs) k h = (k x h.0, map_all P Q f xs k h.1)

insert_all : {A : Type 0} (P : A → Type 0) (order : A → A → Ordering) (x : A) (xs : List A) → P x → AllOf P xs
    → AllOf P (insert_by order x xs)
insert_all P order x [] h k = (h, tt)
insert_all P order x (y ∷ ys) h k =
    let rest = insert_all P order x ys h k.1 in
    elim (is_gt (order x y)) as (λ b. AllOf P (cond b (y ∷ insert_by order x ys) (x ∷ y ∷ ys)))
    [ true ↦ (k.0, rest) | false ↦ (h, k) ]

pub sort_all : {A : Type 0} (P : A → Type 0) (order : A → A → Ordering) (xs : List A) → AllOf P xs
    → AllOf P (sort_by order xs)
sort_all P order [] h = tt
sort_all P order (x ∷ xs) h = insert_all P order x (sort_by order xs) h.0 (sort_all P order xs h.1)

-- what a test says of each member
pub all_pass : {A : Type 0} (test : A → Bool) (xs : List A) → IsTrue (list_all test xs)
    → AllOf (λ x. IsTrue (test x)) xs
all_pass test [] h = tt
all_pass test (x ∷ xs) h = let a = and_parts (test x) (list_all test xs) h in (a.0, all_pass test xs a.1)

-- and back
pub pass_all : {A : Type 0} (P : A → Type 0) (test : A → Bool) (xs : List A) → ((x : A) → P x → test x ≡ true)
    → AllOf P xs → list_all test xs ≡ true
pass_all P test [] k h = refl
pass_all P test (x ∷ xs) k h = rw (k x h.0, pass_all P test xs k h.1) refl

module _ (c : Defs) where
  pub only_maybe : (t : Ty) (xs : List Datum) → AllOf (λ x. HasType c x t) xs → Maybe c t (only_of xs)
  only_maybe t [] h = tt
  only_maybe t (x ∷ []) h = h.0
  only_maybe t (x ∷ y ∷ ys) h = tt

  flat_at : (m : Mode) (s : Ty) (y : Ty-F Ty) (xs : List Datum) → out-Ty s ≡ y → AllOf (λ x. HasType c x s) xs
      → Typed m (HasType c) (bag_at y) (bag (gather as_coll xs))
  flat_at m s Ty-F.Bottom xs e h = let none = none_bottom c xs s (rw e refl) h in rw none (make_coll c ty.Bottom [] tt)
  flat_at m s (Ty-F.Coll t) xs e h =
      holds_then m (AllOf (λ x. HasType c x t)) (λ v. HasType c v (ty.Coll t)) (gather as_coll xs)
      (λ ys. Value (datum.Coll ys))
      (holds_gather m (λ x. HasType c x s) (λ x. HasType c x t) as_coll xs h
      (λ x k. coll_layer c m t (out-Datum x) (opened_as c x s (Ty-F.Coll t) e k))) (λ ys k. make_coll c t ys k)
  flat_at m s y xs e h = tt

  -- members' members
  pub flat_typed : (m : Mode) (s : Ty) (xs : List Datum) → AllOf (λ x. HasType c x s) xs
      → Typed m (HasType c) (bag_above s) (bag (gather as_coll xs))
  flat_typed m s xs h = flat_at m s (out-Ty s) xs refl h
