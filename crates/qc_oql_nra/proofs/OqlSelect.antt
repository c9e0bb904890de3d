-- The trees for the parts of `select` keep its rows.
use Rattle.std.proofs.Common.{◌≡◌, ℕ, true, false, cond, List, [], ◌∷◌, ◌++◌, map, Option, Some, None, refl, sym, ap}
use Rattle.std.proofs.Common.{◌∙◌, subst}
use Rattle.qc_data.proofs.KindLaws.{out-Rec, as_coll-Coll}
use Rattle.qc_data.proofs.Outcomes.{bind_assoc, each-map, kept_same}
use Rattle.qc_data.specs.Kinds.{as_coll}
use Rattle.qc_data.specs.Outcome.{Mode, Outcome, Value, Halts, and_then, gather, each}
use Rattle.qc_data.specs.declared.data.Datum.{Datum}
use Rattle.qc_data.specs.declared.data.Datum.TheVariants as datum
use Rattle.qc_nra.specs.declared.tree.Nra.{Nra}
use Rattle.qc_nra.specs.declared.tree.Nra.TheVariants as tree
use Rattle.qc_nra.specs.Forms.{beside, joined, join_of, kept, map_of, select_of}
use Rattle.qc_trees.specs.Branches.{truth as truth_of}
use Rattle.qc_nra.specs.Meaning.{nra}
use Rattle.qc_ops.specs.declared.op.Unary.TheVariants as one
use Rattle.qc_ops.specs.Operands.{as_bool, as_rec, bag}
use Rattle.qc_ops.specs.Operators.{unary}
use Rattle.qc_ops.specs.Records.{concatenation}
use Rattle.qc_types.specs.Schemas.{WorldOf}
use Rattle.qc_oql_tree.specs.Bindings.{Bindings, Meaning}
use Rattle.qc_oql_tree.specs.FormMeanings.{NamedMeaning, truth}
use Rattle.qc_oql_tree.specs.SelectMeaning.{source_items, rows_with, extended, rows_from, kept_row, filtered}
use Rattle.qc_oql_nra.specs.OqlForms.{Translation, NamedTranslation, Scope, at_row, joined_tree, rows_tree}
use Rattle.qc_oql_nra.specs.OqlForms.{with_sources, filtered_tree}
use Rattle.qc_oql_nra.proofs.Environments.{Holds, Same, SameNamed, holds_more, with_field, concatenated, go_on}
use Rattle.qc_oql_nra.proofs.KeptLaws.{Kept, Zip, kept_same as same_then, kept_at, kept_by, kept_from, kept_still}
use Rattle.qc_oql_nra.proofs.KeptLaws.{kept_gather, then_same, each_values}
use Rattle.qc_oql_nra.proofs.NraForms.{nra-Input, nra-Unary, nra-Map, nra-Select, nra-DepJoin, nra-EnvComp}

-- both are there or neither, and R holds
abbrev pub Beside : {A B : Type 0} → (A → B → Type 0) → Option A → Option B → Type 0
Beside R None None = Unit {0}
Beside R None (Some y) = ⊥
Beside R (Some x) None = ⊥
Beside R (Some x) (Some y) = R x y

-- ---- rows and their records

-- a record with what is bound and the row
abbrev pub Row : Scope → Bindings → Bindings → Datum → Type 0
Row ns s row e = Holds ns (row ++ s) e

-- a collection of the records of rows
abbrev pub Rows : Scope → Bindings → List Bindings → Datum → Type 0
Rows ns s rows v = (es : List Datum) × (v ≡ datum.Coll es) × Zip (Row ns s) rows es

rows_bag : (ns : Scope) (s : Bindings) (o : Outcome (List Bindings)) (p : Outcome (List Datum))
    → Kept (Zip (Row ns s)) o p → Kept (Rows ns s) o (bag p)
rows_bag ns s (Value rows) p h = (datum.Coll h.0, rw h.1 refl, (h.0, refl, h.2))
rows_bag ns s (Halts why) p h = tt

-- a step on the members of a collection
pub on_members : {A : Type 0} (f : List Datum → Outcome A) (v : Datum) (es : List Datum) → v ≡ datum.Coll es
    → and_then (as_coll v) f ≡ f es
on_members f v es e = ap (λ v. and_then (as_coll v) f) e ∙ go_on (as_coll (datum.Coll es)) f es (as_coll-Coll es)

module _ (m : Mode) (w : WorldOf) where
  pub at_row_is : (a : Nra) (x d : Datum) → nra m w (at_row a) x d ≡ nra m w a x x
  at_row_is a x d =
      nra-EnvComp m w a tree.Input x d
      ∙ go_on (nra m w tree.Input x d) (λ v. nra m w a x v) x (nra-Input m w x d)

  pub one_field_is : (name : List ℕ) (a : Nra) (i d v : Datum) → nra m w a i d ≡ Value v
      → nra m w (tree.Unary (one.Rec name) a) i d ≡ Value (datum.Rec ((name, v) ∷ []))
  one_field_is name a i d v e =
      nra-Unary m w (one.Rec name) a i d ∙ go_on (nra m w a i d) (unary m w.classes (one.Rec name)) v e

  -- map: the members of a collection, each by a tree
  pub map_is : (a b : Nra) (i d : Datum) (es : List Datum) → nra m w b i d ≡ Value (datum.Coll es)
      → nra m w (tree.Map a b) i d ≡ bag (each (λ x. nra m w a x d) es)
  unfolding map_of
  map_is a b i d es e =
      nra-Map m w a b i d ∙ go_on (nra m w b i d) _ (datum.Coll es) e
      ∙ on_members (λ xs. bag (each (λ x. nra m w a x d) xs)) (datum.Coll es) es refl

  -- ---- sources

  -- a record with each member of a source
  abbrev with_members : List (List ℕ × Datum) → List ℕ → Datum → Outcome (List Datum)
  with_members fields name v =
      and_then (as_coll v) (λ xs. Value (map (λ u. datum.Rec (with_field fields name u)) xs))

  member_is : (name : List ℕ) (fields : List (List ℕ × Datum)) (xs : List Datum) (d : Datum)
      → and_then (bag (each (λ u. nra m w (tree.Unary (one.Rec name) tree.Input) u d) xs))
      (λ v. and_then (as_coll v) (λ ys. beside ys (datum.Rec fields)))
      ≡ Value (map (λ u. datum.Rec (with_field fields name u)) xs)
  unfolding beside
  member_is name fields xs d =
      let ones : each (λ u. nra m w (tree.Unary (one.Rec name) tree.Input) u d) xs
      ≡ Value (map (λ u. datum.Rec ((name, u) ∷ [])) xs) =
      each_values (λ u. nra m w (tree.Unary (one.Rec name) tree.Input) u d) (λ u. datum.Rec ((name, u) ∷ [])) xs
      (λ u. one_field_is name tree.Input u d u (nra-Input m w u d)) in
      ap (λ o. and_then (bag o) (λ v. and_then (as_coll v) (λ ys. each (concatenation (datum.Rec fields)) ys))) ones
      ∙ on_members (λ ys. each (concatenation (datum.Rec fields)) ys) _ (map (λ u. datum.Rec ((name, u) ∷ [])) xs) refl
      ∙ each-map (concatenation (datum.Rec fields)) (λ u. datum.Rec ((name, u) ∷ [])) xs
      ∙ each_values (λ u. concatenation (datum.Rec fields) (datum.Rec ((name, u) ∷ [])))
      (λ u. datum.Rec (with_field fields name u)) xs (λ u. concatenated fields ((name, u) ∷ []))

  joined_is : (name : List ℕ) (a : Nra) (x d : Datum) (fields : List (List ℕ × Datum)) → x ≡ datum.Rec fields
      → joined (nra m w (tree.Map (tree.Unary (one.Rec name) tree.Input) (at_row a))) d x
      ≡ and_then (nra m w a x x) (with_members fields name)
  unfolding joined map_of
  joined_is name a x d fields is =
      let wrap = tree.Unary (one.Rec name) tree.Input in
      let next : Datum → Outcome (List Datum) = λ v. and_then (as_coll v) (λ ys. beside ys x) in
      go_on (as_rec x) (λ fs. and_then (nra m w (tree.Map wrap (at_row a)) x d) next) fields
      (ap as_rec is ∙ rw (out-Rec fields) refl)
      ∙ ap (λ o. and_then o next) (nra-Map m w wrap (at_row a) x d
      ∙ ap (λ o. and_then o (map_of (nra m w wrap) d)) (at_row_is a x d))
      ∙ bind_assoc (nra m w a x x) (map_of (nra m w wrap) d) next
      ∙ then_same (nra m w a x x) (λ v. and_then (map_of (nra m w wrap) d v) next) (with_members fields name) (λ v.
      bind_assoc (as_coll v) (λ xs. bag (each (λ u. nra m w wrap u d) xs)) next
      ∙ then_same (as_coll v) (λ xs. and_then (bag (each (λ u. nra m w wrap u d) xs)) next)
      (λ xs. Value (map (λ u. datum.Rec (with_field fields name u)) xs)) (λ xs.
      ap (λ y. and_then (bag (each (λ u. nra m w wrap u d) xs))
      (λ v. and_then (as_coll v) (λ ys. beside ys y))) is ∙ member_is name fields xs d))

  rows_zip : (label name : List ℕ) → label ≡ name → (ns : Scope) (s row : Bindings) (x : Datum) (h : Row ns s row x)
      (xs : List Datum)
      → Zip (Row (label ∷ ns) s) (map (λ u. (name, u) ∷ row) xs)
      (map (λ u. datum.Rec (with_field h.fields label u)) xs)
  rows_zip label name e ns s row x h [] = tt
  rows_zip label name e ns s row x h (u ∷ xs) =
      let first : Row (label ∷ ns) s ((name, u) ∷ row) (datum.Rec (with_field h.fields label u)) =
      subst (λ n. Row (label ∷ ns) s ((n, u) ∷ row) (datum.Rec (with_field h.fields label u))) e
      (holds_more ns (row ++ s) x h label u) in
      (first, rows_zip label name e ns s row x h xs)

  extended_kept : (a : NamedMeaning) (t : NamedTranslation) → SameNamed m w a t → (ns : Scope) (s row : Bindings)
      (x d : Datum) → Row ns s row x
      → Kept (Zip (Row (t.0 ∷ ns) s)) (extended a s row)
      (joined (nra m w (tree.Map (tree.Unary (one.Rec t.0) tree.Input) (at_row (t.1 ns)))) d x)
  unfolding source_items rows_with
  extended_kept a t k ns s row x d h =
      kept_at (Zip (Row (t.0 ∷ ns) s)) (extended a s row) _ _ (joined_is t.0 (t.1 ns) x d h.fields h.is)
      (kept_from (Zip (Row (t.0 ∷ ns) s)) _ _ _
      (bind_assoc (a.1 (row ++ s)) as_coll (λ xs. Value (map (λ u. (a.0, u) ∷ row) xs)))
      (same_then (Zip (Row (t.0 ∷ ns) s)) (a.1 (row ++ s)) (nra m w (t.1 ns) x x)
      (λ v. and_then (as_coll v) (λ xs. Value (map (λ u. (a.0, u) ∷ row) xs))) (with_members h.fields t.0)
      (k.1 ns (row ++ s) x h x) (λ v.
      same_then (Zip (Row (t.0 ∷ ns) s)) (as_coll v) (as_coll v) (λ xs. Value (map (λ u. (a.0, u) ∷ row) xs))
      (λ xs. Value (map (λ u. datum.Rec (with_field h.fields t.0 u)) xs)) (kept_same (as_coll v)) (λ xs.
      (map (λ u. datum.Rec (with_field h.fields t.0 u)) xs, refl, rows_zip t.0 a.0 k.0 ns s row x h xs)))))

  source_kept : (a : NamedMeaning) (t : NamedTranslation) → SameNamed m w a t → (ns : Scope) (s : Bindings)
      (o : Outcome (List Bindings)) (r : Nra) (i d : Datum) → Kept (Rows ns s) o (nra m w r i d)
      → Kept (Rows (t.0 ∷ ns) s) (and_then o (gather (extended a s))) (nra m w (joined_tree t ns r) i d)
  unfolding join_of
  source_kept a t k ns s o r i d h =
      let inner = nra m w (tree.Map (tree.Unary (one.Rec t.0) tree.Input) (at_row (t.1 ns))) in
      kept_at (Rows (t.0 ∷ ns) s) (and_then o (gather (extended a s))) _ _
      (nra-DepJoin m w (tree.Map (tree.Unary (one.Rec t.0) tree.Input) (at_row (t.1 ns))) r i d)
      (kept_by (Rows ns s) (Rows (t.0 ∷ ns) s) o (nra m w r i d) (gather (extended a s))
      (λ v. and_then (as_coll v) (λ xs. bag (gather (joined inner d) xs))) h (λ rows v q.
      kept_at (Rows (t.0 ∷ ns) s) (gather (extended a s) rows) _ _
      (on_members (λ xs. bag (gather (joined inner d) xs)) v q.0 q.1)
      (rows_bag (t.0 ∷ ns) s (gather (extended a s) rows) (gather (joined inner d) q.0)
      (kept_gather (Row ns s) (Row (t.0 ∷ ns) s) (extended a s) (joined inner d) rows q.0
      (λ row x p. extended_kept a t k ns s row x d p) q.2))))

  pub rows_kept : (xs : List NamedMeaning) (ts : List NamedTranslation) → Zip (SameNamed m w) xs ts → (ns : Scope)
      (s : Bindings) (o : Outcome (List Bindings)) (r : Nra) (i d : Datum) → Kept (Rows ns s) o (nra m w r i d)
      → Kept (Rows (with_sources ts ns) s) (and_then o (rows_from xs s)) (nra m w (rows_tree ts ns r) i d)
  rows_kept [] [] z ns s o r i d h = kept_still (Rows ns s) o (nra m w r i d) (rows_from [] s) (λ rows. refl) h
  rows_kept [] (t ∷ ts) z ns s o r i d h = absurd z
  rows_kept (x ∷ xs) [] z ns s o r i d h = absurd z
  rows_kept (x ∷ xs) (t ∷ ts) z ns s o r i d h =
      kept_from (Rows (with_sources ts (t.0 ∷ ns)) s) (and_then o (rows_from (x ∷ xs) s))
      (and_then (and_then o (gather (extended x s))) (rows_from xs s)) _
      (sym (bind_assoc o (gather (extended x s)) (rows_from xs s)))
      (rows_kept xs ts z.1 (t.0 ∷ ns) s (and_then o (gather (extended x s))) (joined_tree t ns r) i d
      (source_kept x t z.0 ns s o r i d h))

  -- ---- where

  test_kept : (a : Meaning) (t : Translation) → Same m w a t → (ns : Scope) (s row : Bindings) (x d : Datum)
      → Row ns s row x → Kept (Zip (Row ns s)) (kept_row a s row) (kept (nra m w (at_row (t ns))) d x)
  unfolding kept_row kept truth truth_of
  test_kept a t k ns s row x d h =
      kept_at (Zip (Row ns s)) (kept_row a s row) _ _
      (ap (λ o. and_then (and_then o as_bool) (λ holds. Value (cond holds (x ∷ []) []))) (at_row_is (t ns) x d))
      (kept_from (Zip (Row ns s)) _ _ _
      (bind_assoc (a (row ++ s)) as_bool (λ holds. Value (cond holds (row ∷ []) [])))
      (kept_at (Zip (Row ns s)) _ _ _
      (bind_assoc (nra m w (t ns) x x) as_bool (λ holds. Value (cond holds (x ∷ []) [])))
      (same_then (Zip (Row ns s)) (a (row ++ s)) (nra m w (t ns) x x)
      (λ v. and_then (as_bool v) (λ holds. Value (cond holds (row ∷ []) [])))
      (λ v. and_then (as_bool v) (λ holds. Value (cond holds (x ∷ []) []))) (k ns (row ++ s) x h x) (λ v.
      same_then (Zip (Row ns s)) (as_bool v) (as_bool v) (λ holds. Value (cond holds (row ∷ []) []))
      (λ holds. Value (cond holds (x ∷ []) [])) (kept_same (as_bool v)) (λ holds. (
        cond holds (x ∷ []) [],
        refl,
        elim holds as (λ b. Zip (Row ns s) (cond b (row ∷ []) []) (cond b (x ∷ []) []))
            [ true ↦ (h, tt) | false ↦ tt ],
      ))))))

  pub filtered_kept : (a : Option Meaning) (t : Option Translation) → Beside (Same m w) a t → (ns : Scope)
      (s : Bindings) (o : Outcome (List Bindings)) (r : Nra) (i d : Datum) → Kept (Rows ns s) o (nra m w r i d)
      → Kept (Rows ns s) (and_then o (filtered a s)) (nra m w (filtered_tree t ns r) i d)
  unfolding select_of
  filtered_kept None None b ns s o r i d h =
      kept_still (Rows ns s) o (nra m w r i d) (filtered None s) (λ rows. refl) h
  filtered_kept None (Some t) b ns s o r i d h = absurd b
  filtered_kept (Some a) None b ns s o r i d h = absurd b
  filtered_kept (Some a) (Some t) b ns s o r i d h =
      let test = nra m w (at_row (t ns)) in
      kept_at (Rows ns s) (and_then o (filtered (Some a) s)) _ _ (nra-Select m w (at_row (t ns)) r i d)
      (kept_by (Rows ns s) (Rows ns s) o (nra m w r i d) (gather (kept_row a s))
      (λ v. and_then (as_coll v) (λ xs. bag (gather (kept test d) xs))) h (λ rows v q.
      kept_at (Rows ns s) (gather (kept_row a s) rows) _ _
      (on_members (λ xs. bag (gather (kept test d) xs)) v q.0 q.1)
      (rows_bag ns s (gather (kept_row a s) rows) (gather (kept test d) q.0)
      (kept_gather (Row ns s) (Row ns s) (kept_row a s) (kept test d) rows q.0
      (λ row x p. test_kept a t b ns s row x d p) q.2))))
