-- The type that a tree has is right for it.
use Rattle.std.proofs.Common.{◌≡◌, ◌==◌, ℕ, Bool, true, false, cond, List, ◌∷◌, Option, Some, IsTrue, refl, sym, subst}
use Rattle.std.specs.Prelude.{Result, Ok, Err, IfOk}
use Rattle.qc_containers.specs.Pairs.{lookup}
use Rattle.qc_data.specs.Outcome.{Mode, any_size}
use Rattle.qc_data.specs.declared.data.Datum.{Datum}
use Rattle.qc_types.specs.declared.ty.Ty.{Ty}
use Rattle.qc_types.specs.Classes.{Defs}
use Rattle.qc_types.specs.Schemas.{SchemaOf, WorldOf, global, good_classes, is_world}
use Rattle.qc_ops.specs.Operands.{found}
use Rattle.qc_ops.specs.Operators.{unary, binary}
use Rattle.qc_typing.specs.Tables.{unary_type, binary_type}
use Rattle.qc_typing.specs.Typed.{HasType, IsTyped}
use Rattle.qc_typing.proofs.Outcomes.{Typed, typed_all, typed_some, typed_then}
use Rattle.qc_typing.proofs.UnarySound.{unary_sound}
use Rattle.qc_typing.proofs.BinarySound.{binary_sound}
use Rattle.qc_typing.proofs.WorldValues.{global_typed, world_typed}
use Rattle.qc_ops.specs.Sides.{by_side}
use Rattle.qc_trees.proofs.ConstantsSound.{constant_typed}
use Rattle.qc_trees.proofs.PartsSound.{Body, chosen_typed, members_typed, sides_typed}
use Rattle.qc_nnrc.specs.declared.tree.Nnrc.{Nnrc}
use Rattle.qc_nnrc.specs.declared.tree.Nnrc.TheOpen.{Nnrc-F}
use Rattle.qc_nnrc.specs.declared.tree.Nnrc.TheViews.{roll-Nnrc}
use Rattle.qc_nnrc.specs.declared.tree.Nnrc.TheFolds.{fold-roll-Nnrc, map-Nnrc}
use Rattle.qc_nnrc.specs.Laws.{agrees_nnrc}
use Rattle.qc_nnrc.specs.Meaning.{Values, Meaning, bound_to, for_of, form, nnrc}
use Rattle.qc_nnrc_check.specs.Typing.{Types, Typing, bound_type, for_type, either_type, form_type, nnrc_type}
use Rattle.qc_nnrc_check.specs.Typing.{Fits, IsSound}
use Rattle.qc_nnrc.specs.Variables.{look}
use Rattle.qc_nnrc.specs.inner.Induction.{Held, nnrc_ind}

-- the world of a schema and a datum
abbrev world_of : SchemaOf → Datum → WorldOf
world_of schema d = record { classes = schema.classes; globals = schema.globals; datum = d }

module _ (schema : SchemaOf) (good : IsTrue (good_classes schema.classes)) (d : Datum)
    (is : IsTrue (is_world schema.classes schema.globals d)) (m : Mode) where
  abbrev c : Defs
  c = schema.classes

  abbrev w : WorldOf
  w = world_of schema d

  abbrev typing : Nnrc → Typing
  typing q = nnrc_type schema q

  abbrev meaning : Nnrc → Meaning
  meaning q = nnrc m w q

  -- for variables of their types, a value of the type that the typing gives
  abbrev Sound : Typing → Meaning → Type 0
  Sound p a = (e : Types) (f : Values) → Fits c f e → Typed m (HasType c) (p e) (a f)

  abbrev Of : Nnrc → Type 0
  Of q = Sound (typing q) (meaning q)

  variable_at : (x : ℕ) (e : Types) (f : Values) → Fits c f e → Typed m (HasType c) (look x e) (found (look x f))
  variable_at x e f h =
      typed_some m (HasType c) (look x e) (found (look x f)) (λ t k. let v = h x t k in rw v.1 (v.2))

  global_at : (name : List ℕ) → Typed m (HasType c) (lookup name schema.globals) (found (global name d))
  global_at name =
      typed_some m (HasType c) (lookup name schema.globals) (found (global name d)) (λ t e.
      let v = global_typed c schema.globals d (world_typed c schema.globals d is) name t e in rw v.1 (v.2))

  -- ---- binders

  -- a value of the type that there is
  abbrev HasValue : Option Datum → Ty → Type 0
  HasValue o t = (v : Datum) × (o ≡ Some v) × HasType c v t

  under_test : (b : Bool) (t u : Ty) (v : Datum) (o : Option Ty) (p : Option Datum) → HasType c v t
      → ((s : Ty) → o ≡ Some s → HasValue p s) → cond b (Some t) o ≡ Some u → HasValue (cond b (Some v) p) u
  under_test true t u v o p k h e = let same : t ≡ u = cc in (v, refl, subst (HasType c v) same k)
  under_test false t u v o p k h e = h u e

  fits_under : (x : ℕ) (t : Ty) (v : Datum) (e : Types) (f : Values) → HasType c v t → Fits c f e
      → Fits c ((x, v) ∷ f) ((x, t) ∷ e)
  fits_under x t v e f k h y u = under_test (x == y) t u v (look y e) (look y f) k (h y)

  module _ (x : ℕ) (p : Typing) (a : Meaning) (s : Sound p a) (e : Types) (f : Values) (h : Fits c f e) where
    bound_sound : Body c good m (bound_type x p e) (bound_to x a f)
    unfolding bound_to
    bound_sound t v k = s ((x, t) ∷ e) ((x, v) ∷ f) (fits_under x t v e f k h)

    for_sound : Body c good m (for_type x p e) (for_of x a f)
    unfolding for_of
    for_sound = members_typed c good m (bound_type x p e) (bound_to x a f) bound_sound

  -- ---- trees

  layer : (q : Nnrc-F Nnrc) → Held Of q
      → Sound (form_type schema (map-Nnrc Nnrc Typing typing q)) (form m w (map-Nnrc Nnrc Meaning meaning q))
  layer (Nnrc-F.Var x) h e f i = variable_at x e f i
  layer (Nnrc-F.Const k) h e f i = constant_typed c good m k
  layer (Nnrc-F.Global name) h e f i = global_at name
  layer (Nnrc-F.Unary op a) h e f i =
      typed_then m (HasType c) (HasType c) (typing a e) (meaning a f) (unary_type c op) (unary m c op) (h e f i)
      (λ t v k. unary_sound c good m op t v k)
  layer (Nnrc-F.Binary op a b) h e f i =
      typed_then m (HasType c) (HasType c) (typing a e) (meaning a f) _ _ (h.0 e f i) (λ t u k.
      typed_then m (HasType c) (HasType c) (typing b e) (meaning b f) (binary_type c op t) (binary m op u) (h.1 e f i)
      (λ s v j. binary_sound c good m op t s u v k j))
  layer (Nnrc-F.Let x a b) h e f i =
      typed_then m (HasType c) (HasType c) (typing a e) (meaning a f) (bound_type x (typing b) e)
      (bound_to x (meaning b) f) (h.0 e f i) (bound_sound x (typing b) (meaning b) h.1 e f i)
  layer (Nnrc-F.For x a b) h e f i =
      typed_then m (HasType c) (HasType c) (typing a e) (meaning a f) (for_type x (typing b) e)
      (for_of x (meaning b) f) (h.0 e f i) (for_sound x (typing b) (meaning b) h.1 e f i)
  layer (Nnrc-F.If a b c') h e f i =
      chosen_typed c good m (typing a e) (typing b e) (typing c' e) (meaning a f) (meaning b f) (meaning c' f)
      (h.0 e f i) (h.1 e f i) (h.2 e f i)
  layer (Nnrc-F.Either a x b y c') h e f i =
      let left = bound_type x (typing b) e in
      let right = bound_type y (typing c') e in
      typed_then m (HasType c) (HasType c) (typing a e) (meaning a f) (either_type c left right)
      (by_side (bound_to x (meaning b) f) (bound_to y (meaning c') f)) (h.0 e f i)
      (sides_typed c good m left right (bound_to x (meaning b) f) (bound_to y (meaning c') f)
      (bound_sound x (typing b) (meaning b) h.1 e f i) (bound_sound y (typing c') (meaning c') h.2 e f i))

  of_layer : (q : Nnrc-F Nnrc) → Held Of q → Of (roll-Nnrc q)
  of_layer q h =
      let types : typing (roll-Nnrc q) ≡ form_type schema (map-Nnrc Nnrc Typing typing q) =
      fold-roll-Nnrc Typing (form_type schema) q in
      let means : meaning (roll-Nnrc q) ≡ form m w (map-Nnrc Nnrc Meaning meaning q) =
      fold-roll-Nnrc Meaning (form m w) q in
      rw (types, means) (layer q h)

  pub sound_nnrc : (q : Nnrc) → Of q
  sound_nnrc = nnrc_ind Of of_layer

-- in the world of a datum
sound_there : (schema : SchemaOf) → IsTrue (good_classes schema.classes) → (q : Nnrc) (e : Types) (d : Datum)
    (f : Values) → IsTrue (is_world schema.classes schema.globals d) → Fits schema.classes f e
    → IsTyped schema.classes (nnrc_type schema q e) (λ m. nnrc m (world_of schema d) q f)
sound_there schema good q e d f is h =
    typed_all schema.classes (nnrc_type schema q e) (λ m. nnrc m (world_of schema d) q f)
    (sound_nnrc schema good d is any_size q e f h) (λ low high. agrees_nnrc low high (world_of schema d) q f)

-- in each world of the schema
pub nnrc_sound : (schema : SchemaOf) → IsTrue (good_classes schema.classes) → (q : Nnrc) (e : Types)
    → IsSound schema q e (nnrc_type schema q e)
nnrc_sound schema good q e w f of h =
    let same : world_of schema w.datum ≡ w =
    λ k. record { classes = sym of.classes k; globals = sym of.globals k; datum = w.datum } in
    subst (λ (v : WorldOf). IsTyped schema.classes (nnrc_type schema q e) (λ m. nnrc m v q f)) same
    (sound_there schema good q e w.datum f of.datum h)

-- the same of a type that a call answers
pub answered : {E : Type 0} (schema : SchemaOf) → IsTrue (good_classes schema.classes) → (q : Nnrc) (e : Types)
    (r : Result (Option Ty) E) → IfOk r (λ t. t ≡ nnrc_type schema q e) → IfOk r (IsSound schema q e)
answered schema good q e (Ok t) k = subst (IsSound schema q e) (sym k) (nnrc_sound schema good q e)
answered schema good q e (Err x) k = tt
