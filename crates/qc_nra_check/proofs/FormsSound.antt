-- The types of the forms are right where their parts' are.
use Rattle.std.proofs.Common.{◌≡◌, List, [], ◌∷◌, Option, Some, None, Bool, true, false, ◌&&◌, cond, IsTrue, refl, sym}
use Rattle.std.proofs.Common.{rules, subst}
use Rattle.std.specs.Prelude.{is_some, option_map, option_and_then}
use Rattle.qc_data.specs.Kinds.{as_coll, coll_at}
use Rattle.qc_data.specs.Outcome.{Mode, any_size, within, Outcome, Range, Stuck, Value, Halts, and_then, gather, each}
use Rattle.qc_data.specs.declared.data.Datum.{Datum, the_lemmas}
use Rattle.qc_data.specs.declared.data.Datum.TheOpen.{Datum-F}
use Rattle.qc_data.specs.declared.data.Datum.TheViews.{out-Datum}
use Rattle.qc_data.specs.declared.data.Datum.TheVariants as datum
use Rattle.qc_types.specs.declared.ty.Width.TheVariants.{Wide}
use Rattle.qc_types.specs.declared.ty.Ty.{Ty}
use Rattle.qc_types.specs.declared.ty.Ty.TheOpen.{Ty-F}
use Rattle.qc_types.specs.declared.ty.Ty.TheViews.{out-Ty}
use Rattle.qc_types.specs.declared.ty.Ty.TheVariants as ty
use Rattle.qc_types.specs.Classes.{Defs}
use Rattle.qc_types.specs.Joins.{join, AboveBoth}
use Rattle.qc_types.specs.Schemas.{good_classes}
use Rattle.qc_types.specs.Types.{sub}
use Rattle.qc_types.proofs.Inductions.{AllOf}
use Rattle.qc_types.proofs.JoinLaws.{join_above}
use Rattle.qc_types.proofs.RowLaws.{and_parts}
use Rattle.qc_ops.specs.declared.op.Binary.TheVariants.{Cat}
use Rattle.qc_ops.specs.Operands.{as_bool, as_rec, bag}
use Rattle.qc_ops.specs.Records.{concatenation}
use Rattle.qc_typing.specs.Kinds.{when}
use Rattle.qc_typing.specs.Tables.{binary_type, both_below}
use Rattle.qc_typing.specs.Typed.{HasType}
use Rattle.qc_typing.proofs.Outcomes.{Holds, Typed, holds_then, holds_gather, holds_weaker, typed_after}
use Rattle.qc_typing.proofs.Outcomes.{typed_each, typed_map, typed_then, typed_when}
use Rattle.qc_typing.proofs.Values.{Any, At, Fields, below_type, bool_holds, closed_as, coll_holds, coll_layer}
use Rattle.qc_typing.proofs.Values.{make_coll, nothing_bottom, opened}
use Rattle.qc_typing.proofs.RecordValues.{rec_holds}
use Rattle.qc_typing.proofs.BinarySound.{binary_sound}
use Rattle.qc_nra_check.specs.FormTypes.{Typing, map_type, select_type, records, pairs_type, product_type, join_type}
use Rattle.qc_nra_check.specs.FormTypes.{default_type, env_map_type}
use Rattle.qc_nra.specs.Forms.{Meaning, map_of, kept, select_of, beside, product_of, joined, join_of, members_or}
use Rattle.qc_nra.specs.Forms.{default_of, env_map_of}
use Rattle.qc_trees.specs.Branches.{truth}
use Rattle.qc_typing.specs.Kinds.{members_bound, bound_by}
use Rattle.qc_trees.proofs.ConstantsSound.{typed_if}
use Rattle.qc_trees.proofs.PartsSound as parts
use Rattle.qc_trees.proofs.PartsSound.{members_typed}

-- two facts of one value
holds_both : {A : Type 0} (m : Mode) (P Q : A → Type 0) (o : Outcome A) → Holds m P o → Holds m Q o
    → Holds m (λ v. P v × Q v) o
holds_both m P Q (Value v) h k = (h, k)
holds_both any_size P Q (Halts why) h k = absurd h
holds_both (within low high) P Q (Halts Range) h k = tt
holds_both (within low high) P Q (Halts Stuck) h k = absurd h

outs-Coll : (xs : List Datum) → out-Datum (datum.Coll xs) ≡ Datum-F.Coll xs
outs-Coll xs = search (rules, the_lemmas)

module _ (c : Defs) (g : IsTrue (good_classes c)) (m : Mode) where
  -- at an input and an environment of their types, a value of the type that the typing gives
  abbrev pub Sound : Typing → Meaning → Type 0
  Sound f a = (i e : Ty) (v w : Datum) → HasType c v i → HasType c w e → Typed m (HasType c) (f i e) (a v w)

  -- ---- parts of values

  abbrev Bag : List Datum → Ty → Type 0
  Bag = parts.Bag c g m

  bound_typed : (t : Ty) (v : Datum) → HasType c v t → Typed m Bag (bound_by t) (as_coll v)
  bound_typed = parts.bound_typed c g m

  join_left : (t u : Ty) (j : Option Ty) (o : Outcome Datum) → AboveBoth c t u j → Holds m (λ v. HasType c v t) o
      → Typed m (HasType c) j o
  join_left = parts.join_left c g m

  join_right : (t u : Ty) (j : Option Ty) (o : Outcome Datum) → AboveBoth c t u j → Holds m (λ v. HasType c v u) o
      → Typed m (HasType c) j o
  join_right = parts.join_right c g m

  truth_holds : (o : Outcome Datum) (t : Ty) → IsTrue (sub c t ty.Bool) → Holds m (λ v. HasType c v t) o
      → Holds m Any (truth o)
  truth_holds = parts.truth_holds c g m

  self_layer : (t : Ty) (x : Datum-F Datum) (y : Ty-F Ty) → out-Ty t ≡ y → At c x y
      → IsTrue (is_some (members_bound y)) → Holds m (λ xs. HasType c (datum.Coll xs) t) (coll_at x)
  self_layer t x Ty-F.Bottom e h k = absurd (nothing_bottom c x Ty-F.Bottom refl h)
  self_layer t (Datum-F.Coll xs) (Ty-F.Coll u) e h k =
      closed_as c (datum.Coll xs) t (Datum-F.Coll xs) (Ty-F.Coll u) (outs-Coll xs) e h
  self_layer t x (Ty-F.Coll u) e h k = let f = h.fitting in absurd (cc)
  self_layer t x y e h k = absurd (cc)

  -- a value of a type of collections is the collection of its members
  self_holds : (t : Ty) (v : Datum) → IsTrue (is_some (bound_by t)) → HasType c v t
      → Holds m (λ xs. HasType c (datum.Coll xs) t) (as_coll v)
  self_holds t v k h = self_layer t (out-Datum v) (out-Ty t) refl (opened c v t h) k

  -- ---- map and mapenv

  pub map_typed : (f : Typing) (a : Meaning) → Sound f a → (e : Ty) (w : Datum) → HasType c w e → (t : Ty) (v : Datum)
      → HasType c v t → Typed m (HasType c) (map_type f e t) (map_of a w v)
  unfolding map_of
  map_typed f a s e w k = members_typed c g m (λ x. f x e) (λ y. a y w) (λ x y i. s x e y w i k)

  pub env_map_typed : (f : Typing) (a : Meaning) → Sound f a → (i e : Ty) (v w : Datum) → HasType c v i → HasType c w e
      → Typed m (HasType c) (env_map_type f i e) (env_map_of a v w)
  unfolding env_map_of
  env_map_typed f a s i e v w h k = members_typed c g m (λ x. f i x) (λ y. a v y) (λ x y j. s i x v y h j) e w k

  -- ---- conditions

  kept_cond : (b : Bool) (y : Datum) (x : Ty) → HasType c y x → Bag (cond b (y ∷ []) []) x
  kept_cond true y x h = (h, tt)
  kept_cond false y x h = tt

  kept_holds : (a : Meaning) (w y : Datum) (u x : Ty) → IsTrue (sub c u ty.Bool) → HasType c y x
      → Holds m (λ v. HasType c v u) (a y w) → Holds m (AllOf (λ z. HasType c z x)) (kept a w y)
  unfolding kept
  kept_holds a w y u x below h k =
      holds_then m Any (AllOf (λ z. HasType c z x)) (truth (a y w)) (λ holds. Value (cond holds (y ∷ []) []))
      (truth_holds (a y w) u below k) (λ b i. kept_cond b y x h)

  selected : (r : Option Ty) (x : Ty) (a : Meaning) (w : Datum) (xs : List Datum) → Bag xs x
      → ((y : Datum) → HasType c y x → Typed m (HasType c) r (a y w))
      → Typed m (HasType c) (option_and_then (λ u. when (sub c u ty.Bool) (ty.Coll x)) r) (bag (gather (kept a w) xs))
  selected None x a w xs all h = tt
  selected (Some u) x a w xs all h =
      typed_when m (HasType c) (sub c u ty.Bool) (ty.Coll x) (bag (gather (kept a w) xs)) (λ below.
      holds_then m (AllOf (λ z. HasType c z x)) (λ v. HasType c v (ty.Coll x)) (gather (kept a w) xs)
      (λ ys. Value (datum.Coll ys))
      (holds_gather m (λ y. HasType c y x) (λ z. HasType c z x) (kept a w) xs all
      (λ y k. kept_holds a w y u x below k (h y k))) (λ ys k. make_coll c x ys k))

  pub select_typed : (f : Typing) (a : Meaning) → Sound f a → (e : Ty) (w : Datum) → HasType c w e → (t : Ty)
      (v : Datum) → HasType c v t → Typed m (HasType c) (select_type c f e t) (select_of a w v)
  unfolding select_of
  select_typed f a s e w k t v h =
      typed_then m Bag (HasType c) (bound_by t) (as_coll v) _ _ (bound_typed t v h)
      (λ x xs all. selected (f x e) x a w xs all (λ y i. s x e y w i k))

  -- ---- pairs

  -- what cat gives of each of two members
  abbrev Cats : Ty → Ty → Option Ty → Type 0
  Cats x y r = (d e : Datum) → HasType c d x → HasType c e y → Typed m (HasType c) r (concatenation d e)

  beside_typed : (r : Option Ty) (x y : Ty) → Cats x y r → (d : Datum) (es : List Datum) → HasType c d x → Bag es y
      → Typed m Bag r (beside es d)
  unfolding beside
  beside_typed r x y h d es i all =
      typed_each m (λ z. HasType c z y) (HasType c) r (concatenation d) es all (λ z k. h d z i k)

  gathered : (r : Option Ty) (f : Datum → Outcome (List Datum)) (P : Datum → Type 0) (ds : List Datum) → AllOf P ds
      → ((d : Datum) → P d → Typed m Bag r (f d))
      → Typed m (HasType c) (option_map (λ v. ty.Coll v) r) (bag (gather f ds))
  gathered None f P ds all h = tt
  gathered (Some t) f P ds all h =
      holds_then m (AllOf (λ z. HasType c z t)) (λ v. HasType c v (ty.Coll t)) (gather f ds)
      (λ ys. Value (datum.Coll ys)) (holds_gather m P (λ z. HasType c z t) f ds all h) (λ ys k. make_coll c t ys k)

  pub product_typed : (t u : Ty) (v w : Datum) → HasType c v t → HasType c w u
      → Typed m (HasType c) (product_type c t u) (product_of v w)
  unfolding product_of
  product_typed t u v w h k =
      typed_if m (HasType c) (both_below c t u records) (pairs_type c t u) _ (λ below.
      typed_then m Bag (HasType c) (bound_by t) (as_coll v) _ _ (bound_typed t v h) (λ x ds all.
      typed_then m Bag (HasType c) (bound_by u) (as_coll w) _ _ (bound_typed u w k) (λ y es every.
      gathered (binary_type c Cat x y) (beside es) (λ d. HasType c d x) ds all (λ d i.
      beside_typed (binary_type c Cat x y) x y (binary_sound c g m Cat x y) d es i every))))

  -- ---- djoin

  -- members of the type, which are records
  abbrev Row : Ty → Datum → Type 0
  Row x d = HasType c d x × HasType c d (ty.Rec Wide [])

  rows_all : (x : Ty) (ds : List Datum) → Bag ds x → Bag ds (ty.Rec Wide []) → AllOf (Row x) ds
  rows_all x [] h k = tt
  rows_all x (d ∷ ds) h k = ((h.0, k.0), rows_all x ds h.1 k.1)

  joined_typed : (u x y : Ty) (a : Meaning) (w d : Datum) → HasType c d (ty.Rec Wide []) → HasType c d x
      → bound_by u ≡ Some y → Holds m (λ v. HasType c v u) (a d w)
      → Typed m Bag (binary_type c Cat x y) (joined a w d)
  unfolding joined
  joined_typed u x y a w d r i by h =
      typed_after m (Fields c Wide []) Bag (binary_type c Cat x y) (as_rec d) _ (rec_holds c m Wide [] d r)
      (λ fields k. typed_after m (λ v. HasType c v u) Bag (binary_type c Cat x y) (a d w) _ h (λ v j.
      typed_after m (λ es. Bag es y) Bag (binary_type c Cat x y) (as_coll v) _
      (let P : Option Ty → Type 0 = λ o. Typed m Bag o (as_coll v) in subst P by (bound_typed u v j))
      (λ es every. beside_typed (binary_type c Cat x y) x y (binary_sound c g m Cat x y) d es i every)))

  joined_by : (u x : Ty) (q : Option Ty) (a : Meaning) (w : Datum) (ds : List Datum) → bound_by u ≡ q
      → AllOf (Row x) ds
      → ((d : Datum) → HasType c d x → Holds m (λ v. HasType c v u) (a d w))
      → Typed m (HasType c) (option_and_then (λ y. option_map (λ v. ty.Coll v) (binary_type c Cat x y)) q)
      (bag (gather (joined a w) ds))
  joined_by u x None a w ds by all h = tt
  joined_by u x (Some y) a w ds by all h =
      gathered (binary_type c Cat x y) (joined a w) (Row x) ds all
      (λ d i. joined_typed u x y a w d i.1 i.0 by (h d i.0))

  -- a collection of records, and what a body gives for one
  abbrev Rows : Meaning → Datum → Datum → Outcome Datum
  Rows a w v = and_then (as_coll v) (λ ds. bag (gather (joined a w) ds))

  rows_typed : (t u x : Ty) (a : Meaning) (w v : Datum) → bound_by t ≡ Some x → HasType c v t
      → ((d : Datum) → HasType c d x → Holds m (λ z. HasType c z u) (a d w))
      → Typed m (HasType c) (product_type c t u) (Rows a w v)
  rows_typed t u x a w v by h k =
      typed_if m (HasType c) (both_below c t u records) (pairs_type c t u) (Rows a w v) (λ below.
      let low = and_parts (sub c t records) (sub c u records) below in
      let P : Option Ty → Type 0 = λ o. Typed m Bag o (as_coll v) in
      let all = holds_both m (λ ds. Bag ds x) (λ ds. Bag ds (ty.Rec Wide [])) (as_coll v)
      (subst P by (bound_typed t v h))
      (coll_holds c m (ty.Rec Wide []) v (below_type c g v t records h low.0)) in
      let Q : Option Ty → Type 0 = λ o. Typed m (HasType c) (option_and_then
      (λ x. option_and_then (λ y. option_map (λ z. ty.Coll z) (binary_type c Cat x y)) (bound_by u)) o) (Rows a w v) in
      subst Q (sym by) (typed_after m (λ ds. Bag ds x × Bag ds (ty.Rec Wide [])) (HasType c) _ (as_coll v) _ all
      (λ ds i. joined_by u x (bound_by u) a w ds refl (rows_all x ds i.0 i.1) k)))

  rows_with : (t x : Ty) (q : Option Ty) (a : Meaning) (w v : Datum) → bound_by t ≡ Some x → HasType c v t
      → ((d : Datum) → HasType c d x → Typed m (HasType c) q (a d w))
      → Typed m (HasType c) (option_and_then (product_type c t) q) (Rows a w v)
  rows_with t x None a w v by h k = tt
  rows_with t x (Some u) a w v by h k = rows_typed t u x a w v by h k

  rows_in : (f : Typing) (a : Meaning) → Sound f a → (e : Ty) (w : Datum) → HasType c w e → (t : Ty) (v : Datum)
      → HasType c v t → (r : Option Ty) → bound_by t ≡ r
      → Typed m (HasType c) (option_and_then (λ x. option_and_then (product_type c t) (f x e)) r) (Rows a w v)
  rows_in f a s e w k t v h None by = tt
  rows_in f a s e w k t v h (Some x) by = rows_with t x (f x e) a w v by h (λ d i. s x e d w i k)

  pub join_typed : (f : Typing) (a : Meaning) → Sound f a → (e : Ty) (w : Datum) → HasType c w e → (t : Ty) (v : Datum)
      → HasType c v t → Typed m (HasType c) (join_type c f e t) (join_of a w v)
  unfolding join_of
  join_typed f a s e w k t v h = rows_in f a s e w k t v h (bound_by t) refl

  -- ---- default

  members_or_typed : (t u : Ty) (o : Outcome Datum) (xs : List Datum) → IsTrue (is_some (bound_by u))
      → HasType c (datum.Coll xs) t → Holds m (λ v. HasType c v u) o
      → Typed m (HasType c) (join c t u) (members_or o xs)
  unfolding members_or
  members_or_typed t u o [] k h i =
      join_right t u (join c t u) (and_then o (λ w. bag (as_coll w))) (join_above c t u)
      (holds_then m (λ v. HasType c v u) (λ v. HasType c v u) o (λ w. bag (as_coll w)) i
      (λ w j. holds_then m (λ ys. HasType c (datum.Coll ys) u) (λ v. HasType c v u) (as_coll w)
      (λ ys. Value (datum.Coll ys)) (self_holds u w k j) (λ ys l. l)))
  members_or_typed t u o (x ∷ xs) k h i = join_left t u (join c t u) (Value (datum.Coll (x ∷ xs))) (join_above c t u) h

  pub default_typed : (t : Ty) (r : Option Ty) (v : Datum) (o : Outcome Datum) → HasType c v t
      → Typed m (HasType c) r o → Typed m (HasType c) (option_and_then (default_type c t) r) (default_of o v)
  unfolding default_of
  default_typed t None v o h i = tt
  default_typed t (Some u) v o h i =
      typed_if m (HasType c) (is_some (bound_by t) && is_some (bound_by u)) (join c t u) _ (λ below.
      let k = and_parts (is_some (bound_by t)) (is_some (bound_by u)) below in
      typed_after m (λ xs. HasType c (datum.Coll xs) t) (HasType c) (join c t u) (as_coll v) (members_or o)
      (self_holds t v k.0 h) (λ xs j. members_or_typed t u o xs k.1 j i))
