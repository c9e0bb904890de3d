-- The trees for `select` and for definitions keep their values.
use Rattle.std.proofs.Common.{◌≡◌, Bool, true, false, List, [], ◌∷◌, ◌++◌, map, Option, refl, sym, ap, ◌∙◌, subst}
use Rattle.qc_data.proofs.Outcomes.{bind_assoc}
use Rattle.qc_data.specs.Kinds.{as_coll}
use Rattle.qc_data.specs.Outcome.{Mode, Outcome, Value, Halts, and_then, each, IsKept}
use Rattle.qc_data.specs.declared.data.Datum.{Datum}
use Rattle.qc_data.specs.declared.data.Datum.TheVariants as datum
use Rattle.qc_nra.specs.declared.tree.Nra.{Nra}
use Rattle.qc_nra.specs.declared.tree.Nra.TheVariants as tree
use Rattle.qc_nra.specs.Forms.{map_of}
use Rattle.qc_nra.specs.Meaning.{nra}
use Rattle.qc_ops.specs.Bags.{distinct, firsts}
use Rattle.qc_ops.specs.declared.op.Unary.TheVariants as one
use Rattle.qc_ops.specs.Operands.{bag}
use Rattle.qc_ops.specs.Operators.{unary}
use Rattle.qc_types.specs.Schemas.{WorldOf}
use Rattle.qc_oql_tree.specs.Bindings.{Bindings, Meaning}
use Rattle.qc_oql_tree.specs.FormMeanings.{NamedMeaning}
use Rattle.qc_oql_tree.specs.Meaning.{defined}
use Rattle.qc_oql_tree.specs.SelectMeaning.{KeyMeaning, distinct_if, filtered, ordered, rows_of, selected}
use Rattle.qc_oql_nra.specs.OqlForms.{Translation, NamedTranslation, KeyTranslation, Scope, at_row, binding}
use Rattle.qc_oql_nra.specs.OqlForms.{distinct_tree, filtered_tree, ordered_tree, rows_tree, select_tree}
use Rattle.qc_oql_nra.specs.OqlForms.{with_sources}
use Rattle.qc_oql_nra.specs.OqlTrees.{defined_tree}
use Rattle.qc_oql_nra.proofs.Environments.{Holds, Same, SameNamed, binding_is, go_on, holds_more, with_field}
use Rattle.qc_oql_nra.proofs.KeptLaws.{Kept, Zip, kept_at, kept_by, kept_each}
use Rattle.qc_oql_nra.proofs.NraForms.{nra-Env, nra-EnvComp, nra-Map, nra-Unary}
use Rattle.qc_oql_nra.proofs.OqlFormsKept.{kept_bag}
use Rattle.qc_oql_nra.proofs.OqlOperators.{kept_from as same_from, kept_to}
use Rattle.qc_oql_nra.proofs.OqlOrder.{SameKey, ordered_kept}
use Rattle.qc_oql_nra.proofs.OqlSelect.{Beside, Row, Rows, at_row_is, filtered_kept, on_members, rows_kept}

-- four steps, one after another
in_steps : {A B C D E : Type 0} (o : Outcome A) (f : A → Outcome B) (g : B → Outcome C) (h : C → Outcome D)
    (k : D → Outcome E) → and_then o (λ a. and_then (f a) (λ b. and_then (g b) (λ c. and_then (h c) k)))
    ≡ and_then (and_then (and_then (and_then o f) g) h) k
in_steps o f g h k =
    sym (bind_assoc (and_then (and_then o f) g) h k
    ∙ bind_assoc (and_then o f) g (λ c. and_then (h c) k)
    ∙ bind_assoc o f (λ b. and_then (g b) (λ c. and_then (h c) k)))

same_list : (xs : List Datum) → map (λ x. x) xs ≡ xs
same_list [] = refl
same_list (x ∷ xs) = ap (λ l. x ∷ l) (same_list xs)

module _ (m : Mode) (w : WorldOf) where
  -- the value on each row
  values_kept : (a : Meaning) (t : Translation) → Same m w a t → (ns : Scope) (s : Bindings)
      (o : Outcome (List Bindings)) (r : Nra) (i d : Datum) → Kept (Rows ns s) o (nra m w r i d)
      → Kept (λ xs e. e ≡ datum.Coll xs) (and_then o (each (λ row. a (row ++ s))))
      (nra m w (tree.Map (at_row (t ns)) r) i d)
  unfolding map_of
  values_kept a t k ns s o r i d h =
      let body = nra m w (at_row (t ns)) in
      kept_at (λ xs e. e ≡ datum.Coll xs) (and_then o (each (λ row. a (row ++ s)))) _ _
      (nra-Map m w (at_row (t ns)) r i d)
      (kept_by (Rows ns s) (λ xs e. e ≡ datum.Coll xs) o (nra m w r i d) (each (λ row. a (row ++ s)))
      (λ v. and_then (as_coll v) (λ xs. bag (each (λ x. body x d) xs))) h (λ rows v q.
      kept_at (λ xs e. e ≡ datum.Coll xs) (each (λ row. a (row ++ s)) rows) _ _
      (on_members (λ xs. bag (each (λ x. body x d) xs)) v q.0 q.1)
      (bagged (each (λ row. a (row ++ s)) rows) (each (λ x. body x d) q.0)
      (kept_each (Row ns s) (λ x y. y ≡ x) (λ row. a (row ++ s)) (λ x. body x d) rows q.0
      (λ row x p. one_value (a (row ++ s)) (body x d)
      (kept_to _ _ _ (at_row_is m w (t ns) x d) (k ns (row ++ s) x p x))) q.2))))
    where
      one_value : (o p : Outcome Datum) → IsKept o p → Kept (λ x y. y ≡ x) o p
      one_value (Value v) p h = (v, h, refl)
      one_value (Halts why) p h = tt

      bagged : (o : Outcome (List Datum)) (p : Outcome (List Datum)) → Kept (Zip (λ x y. y ≡ x)) o p
          → Kept (λ xs e. e ≡ datum.Coll xs) o (bag p)
      bagged o p h =
          subst (λ (f : List Datum → List Datum). Kept (λ xs e. e ≡ datum.Coll (f xs)) o (bag p))
          (λ i xs. same_list xs i) (kept_bag (λ x. x) o p h)

  distinct_at : (b : Bool) (o : Outcome (List Datum)) (r : Nra) (i d : Datum)
      → Kept (λ xs e. e ≡ datum.Coll xs) o (nra m w r i d)
      → IsKept (and_then o (λ values. Value (datum.Coll (distinct_if b values)))) (nra m w (distinct_tree b r) i d)
  distinct_at b (Halts why) r i d h = tt
  distinct_at false (Value xs) r i d h = h.1 ∙ ap Value h.2
  distinct_at true (Value xs) r i d h =
      nra-Unary m w one.Distinct r i d
      ∙ go_on (nra m w r i d) (unary m w.classes one.Distinct) (datum.Coll xs) (h.1 ∙ ap Value h.2)
      ∙ on_members (λ xs. Value (datum.Coll (firsts xs))) (datum.Coll xs) xs refl

  -- the one row before all sources
  first_row : (ns : Scope) (s : Bindings) (d : Datum) → Holds ns s d → (i : Datum)
      → Kept (Rows ns s) (Value ([] ∷ [])) (nra m w (tree.Unary one.Single tree.Env) i d)
  first_row ns s d h i = (
    datum.Coll (d ∷ []),
    nra-Unary m w one.Single tree.Env i d
        ∙ go_on (nra m w tree.Env i d) (unary m w.classes one.Single) d (nra-Env m w i d),
    (d ∷ [], refl, (h, tt)),
  )

  pub same_selected : (distinct : Bool) (v : Meaning) (xs : List NamedMeaning) (f : Option Meaning)
      (o : Option (List KeyMeaning)) (t : Translation) (ts : List NamedTranslation) (g : Option Translation)
      (p : Option (List KeyTranslation)) → Same m w v t → Zip (SameNamed m w) xs ts → Beside (Same m w) f g
      → Beside (Zip (SameKey m w)) o p → Same m w (selected distinct v xs f o) (select_tree distinct t ts g p)
  same_selected distinct v xs f o t ts g p h z j k ns s d e i =
      let inner = with_sources ts ns in
      let start = tree.Unary one.Single tree.Env in
      let rows = rows_kept m w xs ts z ns s (Value ([] ∷ [])) start i d (first_row ns s d e i) in
      let kept =
      filtered_kept m w f g j inner s (rows_of xs s) (rows_tree ts ns start) i d rows in
      let inorder =
      ordered_kept m w o p k inner s (and_then (rows_of xs s) (filtered f s))
      (filtered_tree g inner (rows_tree ts ns start)) i d kept in
      let values =
      values_kept v t h inner s (and_then (and_then (rows_of xs s) (filtered f s)) (ordered o s))
      (ordered_tree p inner (filtered_tree g inner (rows_tree ts ns start))) i d inorder in
      same_from _ _ _
      (in_steps (rows_of xs s) (filtered f s) (ordered o s) (each (λ row. v (row ++ s)))
      (λ values. Value (datum.Coll (distinct_if distinct values))))
      (distinct_at distinct
      (and_then (and_then (and_then (rows_of xs s) (filtered f s)) (ordered o s)) (each (λ row. v (row ++ s))))
      (tree.Map (at_row (t inner)) (ordered_tree p inner (filtered_tree g inner (rows_tree ts ns start)))) i d values)

  -- ---- definitions

  defined_at : (o : Outcome Datum) (k : Datum → Outcome Datum) (a : Nra) (i d : Datum) (q : Outcome Datum)
      → IsKept o (nra m w a i d) → ((v : Datum) → nra m w a i d ≡ Value v → IsKept (k v) q) → IsKept (and_then o k) q
  defined_at (Value v) k a i d q h f = f v h
  defined_at (Halts why) k a i d q h f = tt

  pub same_defined : (xs : List NamedMeaning) (ts : List NamedTranslation) (a : Meaning) (t : Translation)
      → Zip (SameNamed m w) xs ts → Same m w a t → Same m w (defined xs a) (defined_tree ts t)
  same_defined [] [] a t z h ns s d e i = h ns s d e i
  same_defined [] (y ∷ ts) a t z h ns s d e i = absurd z
  same_defined (x ∷ xs) [] a t z h ns s d e i = absurd z
  same_defined (x ∷ xs) (y ∷ ts) a t z h ns s d e i =
      defined_at (x.1 s) (λ v. defined xs a ((x.0, v) ∷ s)) (y.1 ns) i d _ (z.0.1 ns s d e i) (λ v is.
      let next = datum.Rec (with_field e.fields y.0 v) in
      let body : IsKept (defined xs a ((y.0, v) ∷ s)) (nra m w (defined_tree ts t (y.0 ∷ ns)) i next) =
      same_defined xs ts a t z.1 h (y.0 ∷ ns) ((y.0, v) ∷ s) next (holds_more ns s d e y.0 v) i in
      kept_to _ _ _ (nra-EnvComp m w (defined_tree ts t (y.0 ∷ ns)) (binding y.0 (y.1 ns)) i d
      ∙ go_on (nra m w (binding y.0 (y.1 ns)) i d) (λ u. nra m w (defined_tree ts t (y.0 ∷ ns)) i u) next
      (binding_is m w ns s d e y.0 (y.1 ns) i v is))
      (subst (λ n. IsKept (defined xs a ((n, v) ∷ s)) (nra m w (defined_tree ts t (y.0 ∷ ns)) i next)) z.0.0 body))
