-- The typings of the forms of expressions are sound where their parts' are.
use Rattle.std.proofs.Common.{◌≡◌, ℕ, ℤ, Bool, true, false, List, [], ◌∷◌, Option, Some, None, IsTrue, cond, refl, sym}
use Rattle.std.proofs.Common.{subst}
use Rattle.std.specs.Prelude.{Result, Ok, Err, option_map, option_and_then}
use Rattle.qc_data.specs.Kinds.{as_coll, coll_at}
use Rattle.qc_data.specs.Outcome.{Mode, Outcome, Value, and_then, each}
use Rattle.qc_data.specs.declared.data.Datum.{Datum}
use Rattle.qc_data.specs.declared.data.Datum.TheOpen.{Datum-F}
use Rattle.qc_data.specs.declared.data.Datum.TheViews.{out-Datum}
use Rattle.qc_data.specs.declared.data.Datum.TheVariants as datum
use Rattle.qc_types.specs.declared.ty.Ty.{Ty}
use Rattle.qc_types.specs.declared.ty.Ty.TheOpen.{Ty-F}
use Rattle.qc_types.specs.declared.ty.Ty.TheViews.{out-Ty}
use Rattle.qc_types.specs.declared.ty.Ty.TheVariants as ty
use Rattle.qc_types.specs.Classes.{Defs}
use Rattle.qc_types.specs.Joins.{join, AboveBoth}
use Rattle.qc_types.specs.Schemas.{good_classes}
use Rattle.qc_types.specs.Types.{sub}
use Rattle.qc_types.proofs.Inductions.{AllOf}
use Rattle.qc_types.proofs.JoinLaws.{join_above}
use Rattle.qc_ops.specs.declared.op.Unary.{Unary as OnOne}
use Rattle.qc_ops.specs.declared.op.Unary.TheVariants as one
use Rattle.qc_ops.specs.declared.op.Binary.TheVariants as two
use Rattle.qc_ops.specs.Operands.{as_bool, only_if}
use Rattle.qc_ops.specs.Operators.{unary}
use Rattle.qc_ops.specs.Records.{field}
use Rattle.qc_ops.specs.Sameness.{equality}
use Rattle.qc_ops.specs.Texts.{likeness}
use Rattle.qc_ops.specs.Truths.{negation}
use Rattle.qc_typing.specs.Checking.{and_check, or_fault, need}
use Rattle.qc_typing.specs.Kinds.{when}
use Rattle.qc_typing.specs.Tables.{unary_type, binary_type}
use Rattle.qc_typing.specs.Typed.{HasType}
use Rattle.qc_typing.proofs.Outcomes.{Holds, Typed, holds_then, holds_each, holds_weaker, typed_map, typed_then}
use Rattle.qc_typing.proofs.Outcomes.{typed_when}
use Rattle.qc_typing.proofs.Values.{Any, At, below_type, bool_holds, coll_layer, make_bool, make_coll, make_unit}
use Rattle.qc_typing.proofs.Values.{nothing_bottom, opened}
use Rattle.qc_typing.proofs.UnarySound.{unary_sound}
use Rattle.qc_typing.proofs.BinarySound.{binary_sound}
use Rattle.qc_oql_tree.specs.declared.tree.Unary.{Unary}
use Rattle.qc_oql_tree.specs.declared.tree.Binary.{Binary}
use Rattle.qc_oql_tree.specs.declared.tree.Branding.{Branding}
use Rattle.qc_oql_tree.specs.declared.tree.Constant.{Constant}
use Rattle.qc_oql_tree.specs.declared.tree.Constant.TheVariants.{True, False, Nil}
use Rattle.qc_oql_tree.specs.declared.tree.Division.{Division}
use Rattle.qc_oql_tree.specs.declared.tree.Quantifier.{Quantifier}
use Rattle.qc_oql_tree.specs.Bindings.{Bindings, Meaning}
use Rattle.qc_oql_tree.specs.FormMeanings.{NamedMeaning, constant, bound, matched, truth, chosen, decided, tested}
use Rattle.qc_oql_tree.specs.FormMeanings.{quantified, collected}
use Rattle.qc_oql_tree.specs.OperatorMeanings.{after, one_value, both, of_two, or_else_of}
use Rattle.qc_ops.specs.Sides.{side_at, by_side}
use Rattle.qc_oql_tree.specs.OperatorMeanings.{is_some_list, is_divisor, divided, division, branded, branding}
use Rattle.qc_oql_tree.specs.inner.Pairings.{on_one, at_one, type_at_one, pairing_of, paired, by_pairing}
use Rattle.qc_oql_tree.specs.inner.Pairings.{type_by_pairing}
use Rattle.qc_oql_tree.proofs.Pairings.{one_is, one_type_is, two_is, two_types}
use Rattle.qc_oql_tree.specs.declared.pairing.Pairing.{Pairing}
use Rattle.qc_oql_tree.specs.declared.pairing.Pairing.TheVariants as pairing
use Rattle.qc_oql_tree.specs.FormTypings.{Types, Typing, NamedTyping, type_after, type_of_both, matched_type}
use Rattle.qc_oql_tree.specs.FormTypings.{chosen_type, quantified_type, collected_type}
use Rattle.qc_oql_tree.specs.PartTypes.{join_all}
use Rattle.qc_typing.specs.Kinds.{members_bound, bound_by, sides_bound}
use Rattle.qc_oql_tree.specs.OperatorTypes.{constant_type, one_type, two_type, divided_type, field_type, branded_type}
use Rattle.qc_oql_check.proofs.Checked.{Checked, Zip, checked_after, checked_chain, checked_each, checked_fault}
use Rattle.qc_oql_check.proofs.Checked.{checked_need, checked_then}
use Rattle.qc_oql_check.proofs.Scopes.{Agree, Sound, SoundN}

-- ---- a type under a test of the text

if_typed : {A T : Type 0} (m : Mode) (R : A → T → Type 0) (b : Bool) (r : Option T) (o : Outcome A) → Typed m R r o
    → Typed m R (cond b r None) o
if_typed m R true r o h = h
if_typed m R false r o h = tt

only_typed : {A T : Type 0} (m : Mode) (R : A → T → Type 0) (b : Bool) (r : Option T) (o : Outcome A) → Typed m R r o
    → Typed m R (cond b r None) (only_if b o)
only_typed m R true r o h = h
only_typed m R false r o h = tt

named_typed : {A B T : Type 0} (m : Mode) (R : B → T → Type 0) (b : Bool) (r : Option T) (a : A) (f : A → Outcome B)
    → Typed m R r (f a) → Typed m R (cond b r None) (and_then (only_if b (Value a)) f)
named_typed m R true r a f h = h
named_typed m R false r a f h = tt

module _ (c : Defs) (g : IsTrue (good_classes c)) (m : Mode) where
  -- ---- literals
  pub constant_typed : (k : Constant) → HasType c (constant k) (constant_type k)
  constant_typed True = make_bool c true
  constant_typed False = make_bool c false
  constant_typed Nil = make_unit c

  -- ---- operators of one operand
  pub sound_after : (at : ℕ) (f : Ty → Option Ty) (h : Datum → Outcome Datum) (a : Typing) (b : Meaning)
      → ((t : Ty) (v : Datum) → HasType c v t → Typed m (HasType c) (f t) (h v)) → Sound c m a b
      → Sound c m (type_after at f a) (after h b)
  sound_after at f h a b k p s e i =
      checked_then m (HasType c) (HasType c) (a e) (b s) (λ t. or_fault at (f t)) h (p s e i)
      (λ t v j. checked_fault m (HasType c) at (f t) (h v) (k t v j))

  bound_layer : (x : Datum-F Datum) (y : Ty-F Ty) → At c x y
      → Typed m (λ xs t. AllOf (λ d. HasType c d t) xs) (members_bound y) (coll_at x)
  bound_layer x Ty-F.Bottom h = absurd (nothing_bottom c x Ty-F.Bottom refl h)
  bound_layer x (Ty-F.Coll t) h = coll_layer c m t x h
  bound_layer x y h = tt

  -- the members of what a source gives
  pub bound_typed : (t : Ty) (v : Datum) → HasType c v t
      → Typed m (λ xs t. AllOf (λ d. HasType c d t) xs) (bound_by t) (as_coll v)
  bound_typed t v h = bound_layer (out-Datum v) (out-Ty t) (opened c v t h)

  at_one_typed : (op : Option OnOne) (t : Ty) (v : Datum) → HasType c v t
      → Typed m (HasType c) (type_at_one c op t) (at_one m c op v)
  at_one_typed None t v h =
      typed_map m (λ xs t. AllOf (λ d. HasType c d t) xs) (HasType c) (bound_by t) (as_coll v) (λ u. ty.Bool)
      (λ xs. Value (datum.Bool (is_some_list xs))) (bound_typed t v h) (λ u xs k. make_bool c (is_some_list xs))
  at_one_typed (Some op) t v h = unary_sound c g m op t v h

  pub one_typed : (op : Unary) (t : Ty) (v : Datum) → HasType c v t
      → Typed m (HasType c) (one_type c op t) (one_value m c op v)
  one_typed op t v h = rw (one_type_is c op t, one_is m c op v) (at_one_typed (on_one op) t v h)

  pub divided_typed : (d : Division) (k : ℤ) (t : Ty) (v : Datum) → HasType c v t
      → Typed m (HasType c) (divided_type c d k t) (divided m c d k v)
  divided_typed d k t v h =
      only_typed m (HasType c) (is_divisor k) (unary_type c (division d k) t) (unary m c (division d k) v)
      (unary_sound c g m (division d k) t v h)

  pub like_typed : (pattern : List ℕ) (t : Ty) (v : Datum) → HasType c v t
      → Typed m (HasType c) (unary_type c (one.Like pattern) t) (likeness pattern v)
  like_typed pattern t v h = unary_sound c g m (one.Like pattern) t v h

  pub field_typed : (label : List ℕ) (t : Ty) (v : Datum) → HasType c v t
      → Typed m (HasType c) (field_type c label t) (field label v)
  field_typed label t v h =
      if_typed m (HasType c) _ (unary_type c (one.Dot label) t) (field label v)
      (unary_sound c g m (one.Dot label) t v h)

  pub branded_typed : (b : Branding) (class : List ℕ) (t : Ty) (v : Datum) → HasType c v t
      → Typed m (HasType c) (branded_type c b class t) (branded m c b class v)
  branded_typed b class t v h =
      named_typed m (HasType c) _ (unary_type c (branding b class) t) class (λ name. unary m c (branding b name) v)
      (unary_sound c g m (branding b class) t v h)

  -- ---- values of one of two types are of their join

  join_left : (t u : Ty) (j : Option Ty) (o : Outcome Datum) → AboveBoth c t u j → Holds m (λ v. HasType c v t) o
      → Typed m (HasType c) j o
  join_left t u None o up h = tt
  join_left t u (Some j) o up h =
      holds_weaker m (λ v. HasType c v t) (λ v. HasType c v j) o (λ v k. below_type c g v t j k up.0) h

  join_right : (t u : Ty) (j : Option Ty) (o : Outcome Datum) → AboveBoth c t u j → Holds m (λ v. HasType c v u) o
      → Typed m (HasType c) j o
  join_right t u None o up h = tt
  join_right t u (Some j) o up h =
      holds_weaker m (λ v. HasType c v u) (λ v. HasType c v j) o (λ v k. below_type c g v u j k up.1) h

  -- ---- operators of two operands

  sound_both : (at : ℕ) (f : Ty → Ty → Option Ty) (h : Datum → Datum → Outcome Datum) (a b : Typing) (x y : Meaning)
      → ((t u : Ty) (v w : Datum) → HasType c v t → HasType c w u → Typed m (HasType c) (f t u) (h v w)) → Sound c m a x
      → Sound c m b y
      → Sound c m (type_of_both at f a b) (both h x y)
  sound_both at f h a b x y k p q s e i =
      checked_then m (HasType c) (HasType c) (a e) (x s) (λ t. and_check (b e) (λ u. or_fault at (f t u)))
      (λ v. and_then (y s) (λ w. h v w)) (p s e i) (λ t v j.
      checked_then m (HasType c) (HasType c) (b e) (y s) (λ u. or_fault at (f t u)) (λ w. h v w) (q s e i)
      (λ u w l. checked_fault m (HasType c) at (f t u) (h v w) (k t u v w j l)))

  paired_typed : (p : Pairing) (t u : Ty) (v w : Datum) → HasType c v t → HasType c w u
      → Typed m (HasType c) (type_by_pairing c (Some p) t u) (paired m p v w)
  paired_typed (pairing.Plain op) t u v w h k = binary_sound c g m op t u v w h k
  paired_typed (pairing.Exchanged op) t u v w h k = binary_sound c g m op u t w v k h
  paired_typed pairing.Unequal t u v w h k =
      typed_then m (HasType c) (HasType c) (binary_type c two.Eq t u) (equality v w) (unary_type c one.Not) negation
      (binary_sound c g m two.Eq t u v w h k) (λ b z i. unary_sound c g m one.Not b z i)

  else_layer : (u : Ty) (o : Outcome Datum) → Holds m (λ v. HasType c v u) o → (x : Datum-F Datum) (y : Ty-F Ty)
      → At c x y → Typed m (HasType c) (option_and_then (λ sides. join c sides.0 u) (sides_bound y))
      (side_at (λ d. Value d) (λ d. o) x)
  else_layer u o k x Ty-F.Bottom h = absurd (nothing_bottom c x Ty-F.Bottom refl h)
  else_layer u o k (Datum-F.Left d) (Ty-F.Either t r) h =
      join_left t u (join c t u) (Value d) (join_above c t u) (record { fitting = h.fitting; records = h.records })
  else_layer u o k (Datum-F.Right d) (Ty-F.Either t r) h = join_right t u (join c t u) o (join_above c t u) k
  else_layer u o k x (Ty-F.Either t r) h = let f = h.fitting in absurd (cc)
  else_layer u o k x y h = tt

  else_checked : (at : ℕ) (r : Result Ty ℕ) (o : Outcome Datum) (t : Ty) (v : Datum) → Checked m (HasType c) r o
      → HasType c v t
      → Checked m (HasType c) (and_check r (λ u. or_fault at (type_by_pairing c None t u)))
      (by_side (λ d. Value d) (λ d. o) v)
  else_checked at (Err x) o t v h k = tt
  else_checked at (Ok u) o t v h k =
      checked_fault m (HasType c) at (type_by_pairing c None t u) (by_side (λ d. Value d) (λ d. o) v)
      (else_layer u o h (out-Datum v) (out-Ty t) (opened c v t k))

  sound_pairing : (at : ℕ) (p : Option Pairing) (a b : Typing) (x y : Meaning) → Sound c m a x → Sound c m b y
      → Sound c m (type_of_both at (type_by_pairing c p) a b) (by_pairing m p x y)
  sound_pairing at None a b x y h k s e i =
      checked_then m (HasType c) (HasType c) (a e) (x s)
      (λ t. and_check (b e) (λ u. or_fault at (type_by_pairing c None t u))) (or_else_of y s) (h s e i)
      (λ t v j. else_checked at (b e) (y s) t v (k s e i) j)
  sound_pairing at (Some p) a b x y h k s e i =
      sound_both at (type_by_pairing c (Some p)) (paired m p) a b x y (paired_typed p) h k s e i

  pub sound_two : (at : ℕ) (op : Binary) (a b : Typing) (x y : Meaning) → Sound c m a x → Sound c m b y
      → Sound c m (type_of_both at (two_type c op) a b) (of_two m op x y)
  sound_two at op a b x y h k s e i =
      rw (two_types c op, two_is m op x y s) (sound_pairing at (pairing_of op) a b x y h k s e i)

  -- ---- match

  left_checked : (at : ℕ) (r q : Result Ty ℕ) (o : Outcome Datum) → Checked m (HasType c) r o
      → Checked m (HasType c) (and_check r (λ x. and_check q (λ y. or_fault at (join c x y)))) o
  left_checked at (Err i) q o h = tt
  left_checked at (Ok x) (Err i) o h = tt
  left_checked at (Ok x) (Ok y) o h =
      checked_fault m (HasType c) at (join c x y) o (join_left x y (join c x y) o (join_above c x y) h)

  right_checked : (at : ℕ) (r q : Result Ty ℕ) (o : Outcome Datum) → Checked m (HasType c) q o
      → Checked m (HasType c) (and_check r (λ x. and_check q (λ y. or_fault at (join c x y)))) o
  right_checked at (Err i) q o h = tt
  right_checked at (Ok x) (Err i) o h = tt
  right_checked at (Ok x) (Ok y) o h =
      checked_fault m (HasType c) at (join c x y) o (join_right x y (join c x y) o (join_above c x y) h)

  -- a body at a value of the type that its name is bound to
  body_checked : (f : NamedTyping) (a : NamedMeaning) → SoundN c m f a → (s : Bindings) (e : Types) → Agree c s e
      → (t : Ty) (v : Datum) → HasType c v t → Checked m (HasType c) (f.of ((f.name, t) ∷ e)) (bound a s v)
  body_checked f a h s e i t v k = h.1 ((a.0, v) ∷ s) ((f.name, t) ∷ e) ((sym h.0, k), i)

  sides_checked : (at : ℕ) (l r : NamedTyping) (a b : NamedMeaning) (s : Bindings) (e : Types) → SoundN c m l a
      → SoundN c m r b → Agree c s e → (x : Datum-F Datum) (y : Ty-F Ty) → At c x y
      → Checked m (HasType c) (and_check (or_fault at (sides_bound y))
      (λ sides. and_check (l.of ((l.name, sides.0) ∷ e))
      (λ x. and_check (r.of ((r.name, sides.1) ∷ e)) (λ y. or_fault at (join c x y)))))
      (side_at (bound a s) (bound b s) x)
  sides_checked at l r a b s e h k i x Ty-F.Bottom j = absurd (nothing_bottom c x Ty-F.Bottom refl j)
  sides_checked at l r a b s e h k i (Datum-F.Left d) (Ty-F.Either t u) j =
      left_checked at (l.of ((l.name, t) ∷ e)) (r.of ((r.name, u) ∷ e)) (bound a s d)
      (body_checked l a h s e i t d (record { fitting = j.fitting; records = j.records }))
  sides_checked at l r a b s e h k i (Datum-F.Right d) (Ty-F.Either t u) j =
      right_checked at (l.of ((l.name, t) ∷ e)) (r.of ((r.name, u) ∷ e)) (bound b s d)
      (body_checked r b k s e i u d (record { fitting = j.fitting; records = j.records }))
  sides_checked at l r a b s e h k i x (Ty-F.Either t u) j = let f = j.fitting in absurd (cc)
  sides_checked at l r a b s e h k i x y j = tt

  pub sound_matched : (at : ℕ) (f : Typing) (x : Meaning) (l r : NamedTyping) (a b : NamedMeaning) → Sound c m f x
      → SoundN c m l a → SoundN c m r b → Sound c m (matched_type c at f l r) (matched x a b)
  sound_matched at f x l r a b p h k s e i =
      checked_then m (HasType c) (HasType c) (f e) (x s) _ (by_side (bound a s) (bound b s)) (p s e i)
      (λ t v j. sides_checked at l r a b s e h k i (out-Datum v) (out-Ty t) (opened c v t j))

  -- ---- conditions

  pub truth_holds : (a : Meaning) (s : Bindings) (t : Ty) → IsTrue (sub c t ty.Bool)
      → Holds m (λ v. HasType c v t) (a s) → Holds m Any (truth a s)
  unfolding truth
  truth_holds a s t below h =
      holds_then m (λ v. HasType c v t) Any (a s) as_bool h
      (λ v k. bool_holds c m v (below_type c g v t ty.Bool k below))

  branch_checked : (at : ℕ) (x y : Ty) (oa ob : Outcome Datum) → Holds m (λ v. HasType c v x) oa
      → Holds m (λ v. HasType c v y) ob → (b : Bool) → Checked m (HasType c) (or_fault at (join c x y)) (cond b oa ob)
  branch_checked at x y oa ob h k true =
      checked_fault m (HasType c) at (join c x y) oa (join_left x y (join c x y) oa (join_above c x y) h)
  branch_checked at x y oa ob h k false =
      checked_fault m (HasType c) at (join c x y) ob (join_right x y (join c x y) ob (join_above c x y) k)

  choice_checked : (at : ℕ) (test : Meaning) (s : Bindings) (rt ra rb : Result Ty ℕ) (oa ob : Outcome Datum)
      → Checked m (HasType c) rt (test s) → Checked m (HasType c) ra oa → Checked m (HasType c) rb ob
      → Checked m (HasType c) (and_check rt
      (λ t. and_check ra (λ x. and_check rb
      (λ y. and_check (need at (sub c t ty.Bool)) (λ done. or_fault at (join c x y))))))
      (and_then (truth test s) (λ holds. cond holds oa ob))
  choice_checked at test s (Err i) ra rb oa ob h j k = tt
  choice_checked at test s (Ok t) (Err i) rb oa ob h j k = tt
  choice_checked at test s (Ok t) (Ok x) (Err i) oa ob h j k = tt
  choice_checked at test s (Ok t) (Ok x) (Ok y) oa ob h j k =
      checked_need m (HasType c) at (sub c t ty.Bool) (λ done. or_fault at (join c x y))
      (and_then (truth test s) (λ holds. cond holds oa ob)) (λ below.
      checked_after m Any (HasType c) (or_fault at (join c x y)) (truth test s) (λ holds. cond holds oa ob)
      (truth_holds test s t below h) (λ b u. branch_checked at x y oa ob j k b))

  pub sound_chosen : (at : ℕ) (f p q : Typing) (t a b : Meaning) → Sound c m f t → Sound c m p a → Sound c m q b
      → Sound c m (chosen_type c at f p q) (chosen t a b)
  sound_chosen at f p q t a b h j k s e i =
      choice_checked at t s (f e) (p e) (q e) (a s) (b s) (h s e i) (j s e i) (k s e i)

  tested_checked : (at : ℕ) (q : Quantifier) (name : List ℕ) (a : Meaning) (s : Bindings) (u : Ty) (xs : List Datum)
      (r : Result Ty ℕ) → AllOf (λ x. HasType c x u) xs
      → ((x : Datum) → HasType c x u → Checked m (HasType c) r (a ((name, x) ∷ s)))
      → Checked m (HasType c) (and_check r (λ t. or_fault at (when (sub c t ty.Bool) ty.Bool)))
      (and_then (decided q name a s xs) (λ answer. Value (datum.Bool answer)))
  tested_checked at q name a s u xs (Err i) all h = tt
  tested_checked at q name a s u xs (Ok t) all h =
      checked_fault m (HasType c) at (when (sub c t ty.Bool) ty.Bool) _
      (typed_when m (HasType c) (sub c t ty.Bool) ty.Bool _ (λ below.
      holds_then m Any (λ v. HasType c v ty.Bool) (decided q name a s xs) (λ answer. Value (datum.Bool answer))
      (holds_then m (AllOf Any) Any (each (λ x. truth a ((name, x) ∷ s)) xs) _
      (holds_each m (λ x. HasType c x u) Any (λ x. truth a ((name, x) ∷ s)) xs all
      (λ x k. truth_holds a ((name, x) ∷ s) t below (h x k))) (λ ts k. tt))
      (λ answer k. make_bool c answer)))

  pub sound_quantified : (at : ℕ) (q : Quantifier) (f : NamedTyping) (a : NamedMeaning) (p : Typing) (test : Meaning)
      → SoundN c m f a → Sound c m p test → Sound c m (quantified_type c at f p) (quantified q a test)
  sound_quantified at q f a p test h k s e i =
      checked_chain m (HasType c) (HasType c) (f.of e) (a.1 s) (λ t. or_fault f.at (bound_by t))
      (λ u. and_check (p ((f.name, u) ∷ e)) (λ t. or_fault at (when (sub c t ty.Bool) ty.Bool)))
      (tested q a.0 test s) (h.1 s e i) (λ t v j.
      checked_then m (λ xs u. AllOf (λ d. HasType c d u) xs) (HasType c) (or_fault f.at (bound_by t)) (as_coll v)
      (λ u. and_check (p ((f.name, u) ∷ e)) (λ t. or_fault at (when (sub c t ty.Bool) ty.Bool)))
      (λ xs. and_then (decided q a.0 test s xs) (λ answer. Value (datum.Bool answer)))
      (checked_fault m (λ xs u. AllOf (λ d. HasType c d u) xs) f.at (bound_by t) (as_coll v) (bound_typed t v j))
      (λ u xs all.
      tested_checked at q a.0 test s u xs (p ((f.name, u) ∷ e)) all
      (λ x l. k ((a.0, x) ∷ s) ((f.name, u) ∷ e) ((sym h.0, l), i))))

  -- ---- bag

  -- values of the first type, and of the others' in order
  abbrev Joined : Ty → List Datum → Ty → Type 0
  Joined t ds v = ((d : Datum) → HasType c d t → HasType c d v) × AllOf (λ d. HasType c d v) ds

  joined_step : (t u : Ty) (us : List Ty) (d : Datum) (ds : List Datum) (v : Ty) (o : Option Ty) → AboveBoth c t u o
      → HasType c d u → ((j : Ty) → join_all c j us ≡ Some v → Joined j ds v)
      → option_and_then (λ j. join_all c j us) o ≡ Some v → Joined t (d ∷ ds) v
  joined_step t u us d ds v None up h ih e = absurd (cc)
  joined_step t u us d ds v (Some j) up h ih e =
      let k = ih j e in (λ x i. k.0 x (below_type c g x t j i up.0), (k.0 d (below_type c g d u j h up.1), k.1))

  joined_all : (us : List Ty) (ds : List Datum) (v t : Ty) → Zip (HasType c) ds us → join_all c t us ≡ Some v
      → Joined t ds v
  joined_all [] [] v t z e = let same : t ≡ v = cc in (λ d h. subst (HasType c d) same h, tt)
  joined_all [] (d ∷ ds) v t z e = absurd z
  joined_all (u ∷ us) [] v t z e = absurd z
  joined_all (u ∷ us) (d ∷ ds) v t z e =
      joined_step t u us d ds v (join c t u) (join_above c t u) z.0 (λ j k. joined_all us ds v j z.1 k) e

  bag_typed : (us : List Ty) (ds : List Datum) (o : Option Ty) → join_all c ty.Bottom us ≡ o → Zip (HasType c) ds us
      → Typed m (HasType c) (option_map (λ t. ty.Coll t) o) (Value (datum.Coll ds))
  bag_typed us ds None e z = tt
  bag_typed us ds (Some v) e z = make_coll c v ds (joined_all us ds v ty.Bottom z e).1

  pub sound_collected : (at : ℕ) (fs : List Typing) (xs : List Meaning) → Zip (Sound c m) fs xs
      → Sound c m (collected_type c at fs) (collected xs)
  sound_collected at fs xs z s e i =
      checked_then m (λ ds us. Zip (HasType c) ds us) (HasType c) _ (each (λ x. x s) xs)
      (λ us. or_fault at (option_map (λ t. ty.Coll t) (join_all c ty.Bottom us))) (λ ds. Value (datum.Coll ds))
      (checked_each m (Sound c m) (HasType c) (λ f. f e) (λ x. x s) fs xs (λ f x h. h s e i) z)
      (λ us ds k. checked_fault m (HasType c) at _ (Value (datum.Coll ds))
      (bag_typed us ds (join_all c ty.Bottom us) refl k))
