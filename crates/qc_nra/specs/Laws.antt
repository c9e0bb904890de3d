-- The laws of trees. Each has a node. A value within bounds is the value at any size, and a value at any size is
-- within bounds the same or Range.
use Rattle.std.proofs.Common.{◌≤◌, ℕ, ℤ, arith, List, [], ◌∷◌, refl, ◌≡◌}
use Rattle.qc_data.specs.Kinds.{as_coll}
use Rattle.qc_data.specs.Outcome.{any_size, within, Outcome, and_then, gather, Agrees}
use Rattle.qc_data.specs.declared.data.Datum.{Datum}
use Rattle.qc_data.proofs.Outcomes.{agrees_same, agrees_then, agrees_gather, agrees_after}
use Rattle.qc_ops.specs.Operands.{as_rec, bag, found}
use Rattle.qc_ops.proofs.OperatorLaws.{agrees_unary, agrees_binary}
use Rattle.qc_types.specs.Schemas.{WorldOf, global}
use Rattle.qc_trees.specs.Branches.{truth}
use Rattle.qc_trees.proofs.FormLaws.{agrees_bag, agrees_each, agrees_truth, agrees_choice}
use Rattle.qc_ops.proofs.OperatorLaws.{agrees_side}
use Rattle.qc_nra.specs.declared.tree.Nra.{Nra}
use Rattle.qc_nra.specs.declared.tree.Nra.TheOpen.{Nra-F}
use Rattle.qc_nra.specs.declared.tree.Nra.TheViews.{roll-Nra}
use Rattle.qc_nra.specs.declared.tree.Nra.TheFolds.{fold-roll-Nra, fold_out-Nra, map-Nra}
use Rattle.qc_nra.specs.Forms.{Meaning, map_of, kept, select_of, beside, product_of, joined, join_of, members_or}
use Rattle.qc_nra.specs.Forms.{default_of, env_map_of}
use Rattle.qc_nra.specs.Meaning.{form, nra}
use Rattle.qc_nra.specs.Sizes.{node, size}
use Rattle.qc_nra.specs.inner.Induction.{Held, nra_ind}

-- ---- sizes

node_sized : (x : Nra-F ℕ) → 1 ≤ node x
node_sized (Nra-F.Const d) = omega arith
node_sized Nra-F.Input = omega arith
node_sized Nra-F.Env = omega arith
node_sized (Nra-F.Global name) = omega arith
node_sized (Nra-F.Unary op a) = omega arith
node_sized (Nra-F.Binary op a b) = omega arith
node_sized (Nra-F.Comp a b) = omega arith
node_sized (Nra-F.Map a b) = omega arith
node_sized (Nra-F.Select a b) = omega arith
node_sized (Nra-F.Product a b) = omega arith
node_sized (Nra-F.DepJoin a b) = omega arith
node_sized (Nra-F.Default a b) = omega arith
node_sized (Nra-F.EnvComp a b) = omega arith
node_sized (Nra-F.MapEnv a) = omega arith
node_sized (Nra-F.Either a b) = omega arith
node_sized (Nra-F.If a b c) = omega arith

pub sized : (q : Nra) → 1 ≤ size q
sized q = rw (fold_out-Nra ℕ node q) (node_sized _)

-- ---- modes

-- the outcomes at any input and environment
abbrev AgreesM : Meaning → Meaning → Type 0
AgreesM f g = (i e : Datum) → Agrees (f i e) (g i e)

-- ---- forms on values

agrees_members : (o p : Outcome Datum) (xs : List Datum) → Agrees o p → Agrees (members_or o xs) (members_or p xs)
unfolding members_or
agrees_members o p [] h = agrees_then o p _ _ h (λ w. agrees_same (bag (as_coll w)))
agrees_members o p (x ∷ xs) h = refl

agrees_default : (o p : Outcome Datum) (v : Datum) → Agrees o p → Agrees (default_of o v) (default_of p v)
unfolding default_of
agrees_default o p v h = agrees_after (as_coll v) (members_or o) (members_or p) (λ xs. agrees_members o p xs h)

-- ---- forms with a body

module _ (f g : Meaning) (h : AgreesM f g) where
  agrees_map : (e v : Datum) → Agrees (map_of f e v) (map_of g e v)
  unfolding map_of
  agrees_map e v = agrees_after (as_coll v) _ _ (λ xs. agrees_each (λ x. f x e) (λ x. g x e) xs (λ x. h x e))

  agrees_kept : (e x : Datum) → Agrees (kept f e x) (kept g e x)
  unfolding kept
  agrees_kept e x =
      agrees_then (truth (f x e)) (truth (g x e)) _ _ (agrees_truth (f x e) (g x e) (h x e)) (λ holds. refl)

  agrees_select : (e v : Datum) → Agrees (select_of f e v) (select_of g e v)
  unfolding select_of
  agrees_select e v =
      agrees_after (as_coll v) _ _ (λ xs. agrees_bag (gather (kept f e) xs) (gather (kept g e) xs)
      (agrees_gather (kept f e) (kept g e) xs (λ x. agrees_kept e x)))

  agrees_joined : (e x : Datum) → Agrees (joined f e x) (joined g e x)
  unfolding joined
  agrees_joined e x =
      agrees_after (as_rec x) _ _ (λ fields. agrees_then (f x e) (g x e) _ _ (h x e)
      (λ w. agrees_same (and_then (as_coll w) (λ ys. beside ys x))))

  agrees_join : (e v : Datum) → Agrees (join_of f e v) (join_of g e v)
  unfolding join_of
  agrees_join e v =
      agrees_after (as_coll v) _ _ (λ xs. agrees_bag (gather (joined f e) xs) (gather (joined g e) xs)
      (agrees_gather (joined f e) (joined g e) xs (λ x. agrees_joined e x)))

  agrees_env_map : (i e : Datum) → Agrees (env_map_of f i e) (env_map_of g i e)
  unfolding env_map_of
  agrees_env_map i e = agrees_after (as_coll e) _ _ (λ xs. agrees_each (λ x. f i x) (λ x. g i x) xs (λ x. h i x))

-- ---- trees

module _ (low high : ℤ) (w : WorldOf) where
  abbrev any : Nra → Meaning
  any q = nra any_size w q

  abbrev some : Nra → Meaning
  some q = nra (within low high) w q

  abbrev Of : Nra → Type 0
  Of q = AgreesM (any q) (some q)

  layer : (x : Nra-F Nra) → Held Of x
      → AgreesM (form any_size w (map-Nra Nra Meaning any x)) (form (within low high) w (map-Nra Nra Meaning some x))
  layer (Nra-F.Const d) h i e = refl
  layer Nra-F.Input h i e = refl
  layer Nra-F.Env h i e = refl
  layer (Nra-F.Global name) h i e = agrees_same (found (global name w.datum))
  layer (Nra-F.Unary op a) h i e =
      agrees_then (any a i e) (some a i e) _ _ (h i e) (λ v. agrees_unary low high w.classes op v)
  layer (Nra-F.Binary op a b) h i e =
      agrees_then (any a i e) (some a i e) _ _ (h.0 i e)
      (λ v. agrees_then (any b i e) (some b i e) _ _ (h.1 i e) (λ u. agrees_binary low high op v u))
  layer (Nra-F.Comp a b) h i e = agrees_then (any b i e) (some b i e) _ _ (h.1 i e) (λ v. h.0 v e)
  layer (Nra-F.Map a b) h i e =
      agrees_then (any b i e) (some b i e) _ _ (h.1 i e) (λ v. agrees_map (any a) (some a) h.0 e v)
  layer (Nra-F.Select a b) h i e =
      agrees_then (any b i e) (some b i e) _ _ (h.1 i e) (λ v. agrees_select (any a) (some a) h.0 e v)
  layer (Nra-F.Product a b) h i e =
      agrees_then (any a i e) (some a i e) _ _ (h.0 i e)
      (λ v. agrees_then (any b i e) (some b i e) _ _ (h.1 i e) (λ u. agrees_same (product_of v u)))
  layer (Nra-F.DepJoin a b) h i e =
      agrees_then (any b i e) (some b i e) _ _ (h.1 i e) (λ v. agrees_join (any a) (some a) h.0 e v)
  layer (Nra-F.Default a b) h i e =
      agrees_then (any a i e) (some a i e) _ _ (h.0 i e) (λ v. agrees_default (any b i e) (some b i e) v (h.1 i e))
  layer (Nra-F.EnvComp a b) h i e = agrees_then (any b i e) (some b i e) _ _ (h.1 i e) (λ v. h.0 i v)
  layer (Nra-F.MapEnv a) h i e = agrees_env_map (any a) (some a) h i e
  layer (Nra-F.Either a b) h i e = agrees_side _ _ _ _ (λ v. h.0 v e) (λ v. h.1 v e) i
  layer (Nra-F.If a b c) h i e =
      agrees_then (truth (any a i e)) (truth (some a i e)) _ _ (agrees_truth (any a i e) (some a i e) (h.0 i e))
      (λ holds. agrees_choice holds (any b i e) (any c i e) (some b i e) (some c i e) (h.1 i e) (h.2 i e))

  of_layer : (x : Nra-F Nra) → Held Of x → Of (roll-Nra x)
  of_layer x h i e =
      let at_any : any (roll-Nra x) ≡ form any_size w (map-Nra Nra Meaning any x) =
      fold-roll-Nra Meaning (form any_size w) x in
      let at_some : some (roll-Nra x) ≡ form (within low high) w (map-Nra Nra Meaning some x) =
      fold-roll-Nra Meaning (form (within low high) w) x in
      rw (at_any, at_some) (layer x h i e)

  pub agrees_nra : (q : Nra) → Of q
  agrees_nra = nra_ind Of of_layer
