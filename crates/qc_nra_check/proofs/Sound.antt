-- The type that a tree has is right for it.
use Rattle.std.proofs.Common.{◌≡◌, ℕ, List, Option, IsTrue, sym, subst}
use Rattle.std.specs.Prelude.{Result, Ok, Err, IfOk}
use Rattle.qc_containers.specs.Pairs.{lookup}
use Rattle.qc_data.specs.Outcome.{Mode, any_size}
use Rattle.qc_data.specs.declared.data.Datum.{Datum}
use Rattle.qc_types.specs.declared.ty.Ty.{Ty}
use Rattle.qc_types.specs.Classes.{Defs}
use Rattle.qc_types.specs.Schemas.{SchemaOf, WorldOf, global, good_classes, is_world}
use Rattle.qc_ops.specs.Operands.{found}
use Rattle.qc_ops.specs.Operators.{unary, binary}
use Rattle.qc_typing.specs.Tables.{unary_type, binary_type}
use Rattle.qc_typing.specs.Typed.{HasType, IsTyped}
use Rattle.qc_typing.proofs.Outcomes.{Typed, typed_all, typed_some, typed_then}
use Rattle.qc_typing.proofs.UnarySound.{unary_sound}
use Rattle.qc_typing.proofs.BinarySound.{binary_sound}
use Rattle.qc_typing.proofs.WorldValues.{global_typed, world_typed}
use Rattle.qc_nra.specs.declared.tree.Nra.{Nra}
use Rattle.qc_nra.specs.declared.tree.Nra.TheOpen.{Nra-F}
use Rattle.qc_nra.specs.declared.tree.Nra.TheViews.{roll-Nra}
use Rattle.qc_nra.specs.declared.tree.Nra.TheFolds.{fold-roll-Nra, map-Nra}
use Rattle.qc_nra_check.specs.FormTypes.{Typing, map_type, select_type, product_type, join_type}
use Rattle.qc_nra.specs.Forms.{Meaning, map_of, select_of, product_of, join_of}
use Rattle.qc_nra.specs.Laws.{agrees_nra}
use Rattle.qc_nra.specs.Meaning.{form, nra}
use Rattle.qc_nra_check.specs.Typing.{form_type, nra_type, IsSound}
use Rattle.qc_nra.specs.inner.Induction.{Held, nra_ind}
use Rattle.qc_trees.proofs.ConstantsSound.{constant_typed}
use Rattle.qc_trees.proofs.PartsSound.{chosen_typed, sides_typed}
use Rattle.qc_nra_check.proofs.FormsSound.{Sound, map_typed, env_map_typed, select_typed, product_typed, join_typed}
use Rattle.qc_nra_check.proofs.FormsSound.{default_typed}

-- the world of a schema and a datum
abbrev world_of : SchemaOf → Datum → WorldOf
world_of schema d = record { classes = schema.classes; globals = schema.globals; datum = d }

module _ (schema : SchemaOf) (good : IsTrue (good_classes schema.classes)) (d : Datum)
    (is : IsTrue (is_world schema.classes schema.globals d)) (m : Mode) where
  abbrev c : Defs
  c = schema.classes

  abbrev w : WorldOf
  w = world_of schema d

  abbrev typing : Nra → Typing
  typing q = nra_type schema q

  abbrev meaning : Nra → Meaning
  meaning q = nra m w q

  abbrev Of : Nra → Type 0
  Of q = Sound c good m (typing q) (meaning q)

  global_at : (name : List ℕ) → Typed m (HasType c) (lookup name schema.globals) (found (global name d))
  global_at name =
      typed_some m (HasType c) (lookup name schema.globals) (found (global name d)) (λ t e.
      let v = global_typed c schema.globals d (world_typed c schema.globals d is) name t e in rw v.1 (v.2))

  layer : (x : Nra-F Nra) → Held Of x
      → Sound c good m (form_type schema (map-Nra Nra Typing typing x)) (form m w (map-Nra Nra Meaning meaning x))
  layer (Nra-F.Const k) h i e v u p q = constant_typed c good m k
  layer Nra-F.Input h i e v u p q = p
  layer Nra-F.Env h i e v u p q = q
  layer (Nra-F.Global name) h i e v u p q = global_at name
  layer (Nra-F.Unary op a) h i e v u p q =
      typed_then m (HasType c) (HasType c) (typing a i e) (meaning a v u) (unary_type c op) (unary m c op)
      (h i e v u p q) (λ t x k. unary_sound c good m op t x k)
  layer (Nra-F.Binary op a b) h i e v u p q =
      typed_then m (HasType c) (HasType c) (typing a i e) (meaning a v u) _ _ (h.0 i e v u p q) (λ t x k.
      typed_then m (HasType c) (HasType c) (typing b i e) (meaning b v u) (binary_type c op t) (binary m op x)
      (h.1 i e v u p q) (λ s y j. binary_sound c good m op t s x y k j))
  layer (Nra-F.Comp a b) h i e v u p q =
      typed_then m (HasType c) (HasType c) (typing b i e) (meaning b v u) _ _ (h.1 i e v u p q)
      (λ t x k. h.0 t e x u k q)
  layer (Nra-F.Map a b) h i e v u p q =
      typed_then m (HasType c) (HasType c) (typing b i e) (meaning b v u) (map_type (typing a) e) (map_of (meaning a) u)
      (h.1 i e v u p q) (λ t x k. map_typed c good m (typing a) (meaning a) h.0 e u q t x k)
  layer (Nra-F.Select a b) h i e v u p q =
      typed_then m (HasType c) (HasType c) (typing b i e) (meaning b v u) (select_type c (typing a) e)
      (select_of (meaning a) u) (h.1 i e v u p q)
      (λ t x k. select_typed c good m (typing a) (meaning a) h.0 e u q t x k)
  layer (Nra-F.Product a b) h i e v u p q =
      typed_then m (HasType c) (HasType c) (typing a i e) (meaning a v u) _ _ (h.0 i e v u p q) (λ t x k.
      typed_then m (HasType c) (HasType c) (typing b i e) (meaning b v u) (product_type c t) (product_of x)
      (h.1 i e v u p q) (λ s y j. product_typed c good m t s x y k j))
  layer (Nra-F.DepJoin a b) h i e v u p q =
      typed_then m (HasType c) (HasType c) (typing b i e) (meaning b v u) (join_type c (typing a) e)
      (join_of (meaning a) u) (h.1 i e v u p q)
      (λ t x k. join_typed c good m (typing a) (meaning a) h.0 e u q t x k)
  layer (Nra-F.Default a b) h i e v u p q =
      typed_then m (HasType c) (HasType c) (typing a i e) (meaning a v u) _ _ (h.0 i e v u p q)
      (λ t x k. default_typed c good m t (typing b i e) x (meaning b v u) k (h.1 i e v u p q))
  layer (Nra-F.EnvComp a b) h i e v u p q =
      typed_then m (HasType c) (HasType c) (typing b i e) (meaning b v u) _ _ (h.1 i e v u p q)
      (λ t x k. h.0 i t v x p k)
  layer (Nra-F.MapEnv a) h i e v u p q = env_map_typed c good m (typing a) (meaning a) h i e v u p q
  layer (Nra-F.Either a b) h i e v u p q =
      sides_typed c good m (λ t. typing a t e) (λ t. typing b t e) (λ d. meaning a d u) (λ d. meaning b d u)
      (λ t d k. h.0 t e d u k q) (λ t d k. h.1 t e d u k q) i v p
  layer (Nra-F.If a b c') h i e v u p q =
      chosen_typed c good m (typing a i e) (typing b i e) (typing c' i e) (meaning a v u) (meaning b v u)
      (meaning c' v u) (h.0 i e v u p q) (h.1 i e v u p q) (h.2 i e v u p q)

  of_layer : (x : Nra-F Nra) → Held Of x → Of (roll-Nra x)
  of_layer x h =
      let types : typing (roll-Nra x) ≡ form_type schema (map-Nra Nra Typing typing x) =
      fold-roll-Nra Typing (form_type schema) x in
      let means : meaning (roll-Nra x) ≡ form m w (map-Nra Nra Meaning meaning x) =
      fold-roll-Nra Meaning (form m w) x in
      rw (types, means) (layer x h)

  pub sound_nra : (q : Nra) → Of q
  sound_nra = nra_ind Of of_layer

-- in the world of a datum
sound_there : (schema : SchemaOf) → IsTrue (good_classes schema.classes) → (q : Nra) (input env : Ty) (d i e : Datum)
    → IsTrue (is_world schema.classes schema.globals d) → HasType schema.classes i input → HasType schema.classes e env
    → IsTyped schema.classes (nra_type schema q input env) (λ m. nra m (world_of schema d) q i e)
sound_there schema good q input env d i e is p r =
    typed_all schema.classes (nra_type schema q input env) (λ m. nra m (world_of schema d) q i e)
    (sound_nra schema good d is any_size q input env i e p r)
    (λ low high. agrees_nra low high (world_of schema d) q i e)

-- in each world of the schema
pub nra_sound : (schema : SchemaOf) → IsTrue (good_classes schema.classes) → (q : Nra) (input env : Ty)
    → IsSound schema q input env (nra_type schema q input env)
nra_sound schema good q input env w i e of p r =
    let same : world_of schema w.datum ≡ w =
    λ k. record { classes = sym of.classes k; globals = sym of.globals k; datum = w.datum } in
    subst (λ (v : WorldOf). IsTyped schema.classes (nra_type schema q input env) (λ m. nra m v q i e)) same
    (sound_there schema good q input env w.datum i e of.datum p r)

-- the same of a type that a call answers
pub answered : {E : Type 0} (schema : SchemaOf) → IsTrue (good_classes schema.classes) → (q : Nra) (input env : Ty)
    (r : Result (Option Ty) E) → IfOk r (λ t. t ≡ nra_type schema q input env)
    → IfOk r (IsSound schema q input env)
answered schema good q input env (Ok t) e =
    subst (IsSound schema q input env) (sym e) (nra_sound schema good q input env)
answered schema good q input env (Err x) e = tt
