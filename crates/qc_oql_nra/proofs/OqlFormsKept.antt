-- The trees for forms other than operators and `select` keep their values.
use Rattle.std.proofs.Common.{◌≡◌, ℕ, Bool, true, false, cond, List, [], ◌∷◌, ◌++◌, map, refl, sym, ap, ◌∙◌, subst}
use Rattle.std.specs.Prelude.{not}
use Rattle.std.specs.List.{list_any, list_all}
use Rattle.qc_containers.specs.Name.{is_name}
use Rattle.qc_data.proofs.CanonLaws.{canon-Bool}
use Rattle.qc_data.proofs.KindLaws.{out-Coll}
use Rattle.qc_data.proofs.OrderLaws.{cmp-Bool}
use Rattle.qc_data.proofs.Outcomes.{bind_assoc, kept_same, kept_then}
use Rattle.qc_data.specs.Kinds.{as_coll}
use Rattle.qc_data.specs.Outcome.{Mode, Outcome, Value, Halts, and_then, each, alone, IsKept}
use Rattle.qc_data.specs.declared.data.Datum.{Datum}
use Rattle.qc_data.specs.declared.data.Datum.TheOpen.{Datum-F}
use Rattle.qc_data.specs.declared.data.Datum.TheViews.{out-Datum, roll-Datum}
use Rattle.qc_data.specs.declared.data.Datum.TheVariants as datum
use Rattle.qc_nra.specs.declared.tree.Nra.{Nra}
use Rattle.qc_nra.specs.declared.tree.Nra.TheVariants as tree
use Rattle.qc_nra.specs.Forms.{map_of}
use Rattle.qc_trees.specs.Branches.{truth as truth_of}
use Rattle.qc_nra.specs.Meaning.{nra}
use Rattle.qc_ops.specs.Bags.{bag_of, membership, union}
use Rattle.qc_ops.specs.declared.op.Unary.TheVariants as one
use Rattle.qc_ops.specs.declared.op.Binary.TheVariants as two
use Rattle.qc_ops.specs.Operands.{as_bool, bool_at, bag, only_if}
use Rattle.qc_ops.specs.Records.{concatenation, record_of as one_field}
use Rattle.qc_ops.specs.Sameness.{same}
use Rattle.qc_ops.specs.Truths.{negation}
use Rattle.qc_types.proofs.Inductions.{roll-out}
use Rattle.qc_types.specs.Schemas.{WorldOf}
use Rattle.qc_oql_tree.specs.declared.tree.Quantifier.{Quantifier}
use Rattle.qc_oql_tree.specs.declared.tree.Quantifier.TheVariants.{Exists, ForAll}
use Rattle.qc_oql_tree.specs.Bindings.{Bindings, Meaning}
use Rattle.qc_oql_tree.specs.FormMeanings.{NamedMeaning, bound, truth, matched, chosen, decides, quantified, collected}
use Rattle.qc_oql_tree.specs.FormMeanings.{field_of, record_of, structured}
use Rattle.qc_oql_nra.specs.OqlForms.{Translation, NamedTranslation, Scope, struct_tree, bag_tree, match_tree}
use Rattle.qc_oql_nra.specs.OqlForms.{if_tree, decided_tree, quantified_tree, bound_tree}
use Rattle.qc_oql_nra.proofs.Environments.{Holds, Same, SameNamed, go_on, same_bound, concatenated}
use Rattle.qc_oql_nra.proofs.KeptLaws.{Kept, Zip, kept_same as same_then, kept_at, kept_by, same_by, kept_each}
use Rattle.qc_oql_nra.proofs.KeptLaws.{zip_itself, zip_made}
use Rattle.qc_oql_nra.proofs.NraForms.{nra-Const, nra-Unary, nra-Binary, nra-Map, nra-If}
use Rattle.qc_oql_nra.proofs.OqlOperators.{kept_to, kept_from, negated, same_sides}

-- ---- truth values

bool_back : (v : Datum) (x : Datum-F Datum) → out-Datum v ≡ x
    → Kept (λ t e. e ≡ datum.Bool t) (bool_at x) (Value v)
bool_back v (Datum-F.Bool b) e =
    let out : out-Datum (datum.Bool b) ≡ Datum-F.Bool b = datum.outs-Bool b in
    let is : v ≡ datum.Bool b = sym (roll-out v) ∙ ap roll-Datum (e ∙ sym out) ∙ roll-out (datum.Bool b) in
    (v, refl, is)
bool_back v Datum-F.Unit e = tt
bool_back v (Datum-F.Int n) e = tt
bool_back v (Datum-F.Text s) e = tt
bool_back v (Datum-F.Coll xs) e = tt
bool_back v (Datum-F.Rec fs) e = tt
bool_back v (Datum-F.Left d) e = tt
bool_back v (Datum-F.Right d) e = tt
bool_back v (Datum-F.Brand n d) e = tt

-- a value that is a truth value
pub truth_kept : (o p : Outcome Datum) → IsKept o p → Kept (λ t e. e ≡ datum.Bool t) (and_then o as_bool) p
truth_kept (Value v) p h =
    subst (λ q. Kept (λ t e. e ≡ datum.Bool t) (as_bool v) q) (sym h) (bool_back v (out-Datum v) refl)
truth_kept (Halts why) p h = tt

same_truths : (a b : Bool) → same (datum.Bool a) (datum.Bool b) ≡ cond a b (not b)
same_truths true true = rw (canon-Bool true, cmp-Bool true true) refl
same_truths true false = rw (canon-Bool true, canon-Bool false, cmp-Bool true false) refl
same_truths false true = rw (canon-Bool true, canon-Bool false, cmp-Bool false true) refl
same_truths false false = rw (canon-Bool false, cmp-Bool false false) refl

any_true : (ts : List Bool)
    → list_any (same (datum.Bool true)) (map (λ t. datum.Bool t) ts) ≡ list_any (λ t. t) ts
any_true [] = refl
any_true (t ∷ ts) = rw (same_truths true t, any_true ts) refl

none_false : (ts : List Bool)
    → not (list_any (same (datum.Bool false)) (map (λ t. datum.Bool t) ts)) ≡ list_all (λ t. t) ts
none_false [] = refl
none_false (true ∷ ts) = rw (same_truths false true) (none_false ts)
none_false (false ∷ ts) = rw (same_truths false false) refl

-- ---- lists of data

-- a datum that is made of a value
pub same_made : {A : Type 0} (g : A → Datum) (o : Outcome A) (p : Outcome Datum) → Kept (λ a e. e ≡ g a) o p
    → IsKept (and_then o (λ a. Value (g a))) p
same_made g (Value a) p h = h.1 ∙ ap Value h.2
same_made g (Halts why) p h = tt

-- data that are made of values one by one
pub kept_bag : {A : Type 0} (f : A → Datum) (o : Outcome (List A)) (p : Outcome (List Datum))
    → Kept (Zip (λ a d. d ≡ f a)) o p → Kept (λ xs e. e ≡ datum.Coll (map f xs)) o (bag p)
kept_bag f (Value xs) p h =
    (datum.Coll h.0, rw h.1 refl, ap (λ l. datum.Coll l) (zip_made f xs h.0 h.2))
kept_bag f (Halts why) p h = tt

-- ---- fields one by one

-- the record of one field
abbrev OneField : List (List ℕ × Datum) → Datum → Type 0
OneField fs e = (p : List ℕ × Datum) × (fs ≡ p ∷ []) × (e ≡ datum.Rec (p ∷ []))

field_step : (b : Bool) (o q : Outcome Datum) (label : List ℕ) → IsKept o q
    → Kept OneField (alone (and_then (only_if b (Value label)) (λ l. and_then o (λ x. Value (l, x)))))
    (and_then q (one_field label))
field_step true (Value v) q label h = (datum.Rec ((label, v) ∷ []), rw h refl, ((label, v), refl, refl))
field_step true (Halts why) q label h = tt
field_step false o q label h = tt

one_over : (ys zs : List (List ℕ × Datum)) (a b : Datum) → OneField ys a → b ≡ datum.Rec (record_of zs)
    → Kept (λ fs e. e ≡ datum.Rec (record_of fs)) (Value (ys ++ zs)) (concatenation a b)
one_over ys zs a b h k =
    let is : concatenation a b ≡ Value (datum.Rec (record_of (ys ++ zs))) =
    ap (λ e. concatenation e b) h.2 ∙ ap (concatenation (datum.Rec (h.0 ∷ []))) k
    ∙ concatenated (h.0 ∷ []) (record_of zs) ∙ ap (λ l. Value (datum.Rec (record_of (l ++ zs)))) (sym h.1) in
    (datum.Rec (record_of (ys ++ zs)), is, refl)

-- ---- members one by one

-- the collection of one member
abbrev OneMember : List Datum → Datum → Type 0
OneMember xs e = (v : Datum) × (xs ≡ v ∷ []) × (e ≡ datum.Coll (v ∷ []))

member_step : (o q : Outcome Datum) → IsKept o q → Kept OneMember (alone o) (and_then q bag_of)
member_step (Value v) q h = (datum.Coll (v ∷ []), rw h refl, (v, refl, refl))
member_step (Halts why) q h = tt

united : (xs ys : List Datum) → union (datum.Coll xs) (datum.Coll ys) ≡ Value (datum.Coll (xs ++ ys))
united xs ys = rw (out-Coll xs, out-Coll ys) refl

one_before : (ys zs : List Datum) (a b : Datum) → OneMember ys a → b ≡ datum.Coll zs
    → Kept (λ xs e. e ≡ datum.Coll xs) (Value (ys ++ zs)) (union a b)
one_before ys zs a b h k =
    let is : union a b ≡ Value (datum.Coll (ys ++ zs)) =
    ap (λ e. union e b) h.2 ∙ ap (union (datum.Coll (h.0 ∷ []))) k ∙ united (h.0 ∷ []) zs
    ∙ ap (λ l. Value (datum.Coll (l ++ zs))) (sym h.1) in
    (datum.Coll (ys ++ zs), is, refl)

-- ---- what a quantifier does, step by step

last_step : {C D E : Type 0} (r : Outcome C) (h : C → D) (k : D → Outcome E)
    → and_then (and_then r (λ ts. Value (h ts))) k ≡ and_then r (λ ts. k (h ts))
last_step (Value ts) h k = refl
last_step (Halts why) h k = refl

later_steps : {B C D E : Type 0} (q : Outcome B) (g : B → Outcome C) (h : C → D) (k : D → Outcome E)
    → and_then q (λ xs. and_then (and_then (g xs) (λ ts. Value (h ts))) k) ≡ and_then (and_then q g) (λ ts. k (h ts))
later_steps (Value xs) g h k = last_step (g xs) h k
later_steps (Halts why) g h k = refl

all_steps : {A B C D E : Type 0} (o : Outcome A) (f : A → Outcome B) (g : B → Outcome C) (h : C → D)
    (k : D → Outcome E) → and_then o (λ v. and_then (f v) (λ xs. and_then (and_then (g xs) (λ ts. Value (h ts))) k))
    ≡ and_then (and_then o (λ v. and_then (f v) g)) (λ ts. k (h ts))
all_steps (Value v) f g h k = later_steps (f v) g h k
all_steps (Halts why) f g h k = refl

among : (d : Datum) (xs : List Datum) → membership d (datum.Coll xs) ≡ Value (datum.Bool (list_any (same d) xs))
among d xs = rw (out-Coll xs) refl

module _ (m : Mode) (w : WorldOf) where
  -- ---- struct

  field_kept : (a : NamedMeaning) (t : NamedTranslation) → SameNamed m w a t → (ns : Scope) (s : Bindings) (d : Datum)
      → Holds ns s d → (i : Datum)
      → Kept OneField (alone (field_of s a)) (nra m w (tree.Unary (one.Rec t.0) (t.1 ns)) i d)
  field_kept a t k ns s d h i =
      kept_at OneField (alone (field_of s a)) (and_then (nra m w (t.1 ns) i d) (one_field a.0)) _
      (nra-Unary m w (one.Rec t.0) (t.1 ns) i d ∙ ap (λ n. and_then (nra m w (t.1 ns) i d) (one_field n)) k.0)
      (field_step (is_name a.0) (a.1 s) (nra m w (t.1 ns) i d) a.0 (k.1 ns s d h i))

  fields_kept : (xs : List NamedMeaning) (ts : List NamedTranslation) → Zip (SameNamed m w) xs ts → (ns : Scope)
      (s : Bindings) (d : Datum) → Holds ns s d → (i : Datum)
      → Kept (λ fs e. e ≡ datum.Rec (record_of fs)) (each (field_of s) xs) (nra m w (struct_tree ts ns) i d)
  fields_kept [] [] z ns s d h i = (datum.Rec [], nra-Const m w (datum.Rec []) i d, refl)
  fields_kept [] (t ∷ ts) z ns s d h i = absurd z
  fields_kept (x ∷ xs) [] z ns s d h i = absurd z
  fields_kept (x ∷ xs) (t ∷ ts) z ns s d h i =
      kept_at (λ fs e. e ≡ datum.Rec (record_of fs)) (each (field_of s) (x ∷ xs)) _ _
      (nra-Binary m w two.Cat (tree.Unary (one.Rec t.0) (t.1 ns)) (struct_tree ts ns) i d)
      (kept_by OneField (λ fs e. e ≡ datum.Rec (record_of fs)) (alone (field_of s x))
      (nra m w (tree.Unary (one.Rec t.0) (t.1 ns)) i d)
      (λ ys. and_then (each (field_of s) xs) (λ zs. Value (ys ++ zs)))
      (λ a. and_then (nra m w (struct_tree ts ns) i d) (λ b. concatenation a b)) (field_kept x t z.0 ns s d h i)
      (λ ys a r.
      kept_by (λ fs e. e ≡ datum.Rec (record_of fs)) (λ fs e. e ≡ datum.Rec (record_of fs)) (each (field_of s) xs)
      (nra m w (struct_tree ts ns) i d) (λ zs. Value (ys ++ zs)) (λ b. concatenation a b)
      (fields_kept xs ts z.1 ns s d h i) (λ zs b q. one_over ys zs a b r q)))

  pub same_struct : (xs : List NamedMeaning) (ts : List NamedTranslation) → Zip (SameNamed m w) xs ts
      → Same m w (structured xs) (struct_tree ts)
  same_struct xs ts z ns s d h i =
      same_made (λ fs. datum.Rec (record_of fs)) (each (field_of s) xs) (nra m w (struct_tree ts ns) i d)
      (fields_kept xs ts z ns s d h i)

  -- ---- bag

  members_kept : (xs : List Meaning) (ts : List Translation) → Zip (Same m w) xs ts → (ns : Scope) (s : Bindings)
      (d : Datum) → Holds ns s d → (i : Datum)
      → Kept (λ vs e. e ≡ datum.Coll vs) (each (λ x. x s) xs) (nra m w (bag_tree ts ns) i d)
  members_kept [] [] z ns s d h i = (datum.Coll [], nra-Const m w (datum.Coll []) i d, refl)
  members_kept [] (t ∷ ts) z ns s d h i = absurd z
  members_kept (x ∷ xs) [] z ns s d h i = absurd z
  members_kept (x ∷ xs) (t ∷ ts) z ns s d h i =
      kept_at (λ vs e. e ≡ datum.Coll vs) (each (λ x. x s) (x ∷ xs)) _ _
      (nra-Binary m w two.Union (tree.Unary one.Single (t ns)) (bag_tree ts ns) i d)
      (kept_by OneMember (λ vs e. e ≡ datum.Coll vs) (alone (x s)) (nra m w (tree.Unary one.Single (t ns)) i d)
      (λ ys. and_then (each (λ x. x s) xs) (λ zs. Value (ys ++ zs)))
      (λ a. and_then (nra m w (bag_tree ts ns) i d) (λ b. union a b))
      (kept_at OneMember (alone (x s)) _ _ (nra-Unary m w one.Single (t ns) i d)
      (member_step (x s) (nra m w (t ns) i d) (z.0 ns s d h i)))
      (λ ys a r.
      kept_by (λ vs e. e ≡ datum.Coll vs) (λ vs e. e ≡ datum.Coll vs) (each (λ x. x s) xs)
      (nra m w (bag_tree ts ns) i d) (λ zs. Value (ys ++ zs)) (λ b. union a b)
      (members_kept xs ts z.1 ns s d h i) (λ zs b q. one_before ys zs a b r q)))

  pub same_bag : (xs : List Meaning) (ts : List Translation) → Zip (Same m w) xs ts
      → Same m w (collected xs) (bag_tree ts)
  same_bag xs ts z ns s d h i =
      same_made (λ vs. datum.Coll vs) (each (λ x. x s) xs) (nra m w (bag_tree ts ns) i d)
      (members_kept xs ts z ns s d h i)

  -- ---- one of two branches

  branch : (b : Bool) (o p q r : Outcome Datum) → IsKept o q → IsKept p r → IsKept (cond b o p) (cond b q r)
  branch true o p q r h k = h
  branch false o p q r h k = k

  pub same_if : (test a b : Meaning) (t u v : Translation) → Same m w test t → Same m w a u → Same m w b v
      → Same m w (chosen test a b) (if_tree t u v)
  unfolding truth truth_of
  same_if test a b t u v h k l ns s d e i =
      kept_to _ _ _ (nra-If m w (t ns) (u ns) (v ns) i d)
      (kept_then (and_then (test s) as_bool) (and_then (nra m w (t ns) i d) as_bool) (λ holds. cond holds (a s) (b s))
      (λ holds. cond holds (nra m w (u ns) i d) (nra m w (v ns) i d))
      (kept_then (test s) (nra m w (t ns) i d) as_bool as_bool (h ns s d e i) (λ x. kept_same (as_bool x)))
      (λ holds. branch holds (a s) (b s) (nra m w (u ns) i d) (nra m w (v ns) i d) (k ns s d e i) (l ns s d e i)))

  pub same_match : (a : Meaning) (l r : NamedMeaning) (t : Translation) (u v : NamedTranslation) → Same m w a t
      → SameNamed m w l u → SameNamed m w r v → Same m w (matched a l r) (match_tree t u v)
  same_match a l r t u v h j k ns s d e i =
      same_sides m w (bound l s) (bound r s) (bound_tree u ns) (bound_tree v ns) d
      (λ x. same_bound m w l u j ns s d e x) (λ x. same_bound m w r v k ns s d e x) (a s) (t ns) i (h ns s d e i)

  -- ---- exists, for all

  -- a collection of truth values
  abbrev Truths : List Bool → Datum → Type 0
  Truths ts e = e ≡ datum.Coll (map (λ t. datum.Bool t) ts)

  truths_kept : (a : NamedMeaning) (t : NamedTranslation) (test : Meaning) (u : Translation) → SameNamed m w a t
      → Same m w test u → (ns : Scope) (s : Bindings) (d : Datum) → Holds ns s d → (i : Datum)
      → Kept Truths (and_then (a.1 s) (λ v. and_then (as_coll v) (λ xs. each (λ x. truth test ((a.0, x) ∷ s)) xs)))
      (nra m w (tree.Map (bound_tree (t.0, u) ns) (t.1 ns)) i d)
  unfolding truth map_of
  truths_kept a t test u h k ns s d e i =
      kept_at Truths _ _ _ (nra-Map m w (bound_tree (t.0, u) ns) (t.1 ns) i d)
      (same_then Truths (a.1 s) (nra m w (t.1 ns) i d) _ _ (h.1 ns s d e i) (λ v.
      same_then Truths (as_coll v) (as_coll v) _ _ (kept_same (as_coll v)) (λ xs.
      kept_bag (λ t. datum.Bool t) (each (λ x. and_then (test ((a.0, x) ∷ s)) as_bool) xs)
      (each (λ x. nra m w (bound_tree (t.0, u) ns) x d) xs)
      (kept_each (λ x y. x ≡ y) (λ t e. e ≡ datum.Bool t) (λ x. and_then (test ((a.0, x) ∷ s)) as_bool)
      (λ x. nra m w (bound_tree (t.0, u) ns) x d) xs xs
      (λ x y same.
      truth_kept (test ((a.0, x) ∷ s)) (nra m w (bound_tree (t.0, u) ns) y d)
      (subst (λ z. IsKept (test ((a.0, z) ∷ s)) (nra m w (bound_tree (t.0, u) ns) y d)) (sym same)
      (same_bound m w (a.0, test) (t.0, u) (h.0, k) ns s d e y))) (zip_itself xs)))))

  quantified_at : (q : Quantifier) (o : Outcome (List Bool)) (b : Nra) (i d : Datum) → Kept Truths o (nra m w b i d)
      → IsKept (and_then o (λ ts. Value (datum.Bool (decides q ts)))) (nra m w (decided_tree q b) i d)
  unfolding decides
  quantified_at Exists o b i d h =
      kept_to _ _ _ (nra-Binary m w two.Member (tree.Const (datum.Bool true)) b i d
      ∙ go_on (nra m w (tree.Const (datum.Bool true)) i d)
      (λ x. and_then (nra m w b i d) (λ y. membership x y)) (datum.Bool true) (nra-Const m w (datum.Bool true) i d))
      (same_by Truths o (nra m w b i d) _ _ h (λ ts e r.
      ap (membership (datum.Bool true)) r ∙ among (datum.Bool true) (map (λ t. datum.Bool t) ts)
      ∙ ap (λ b. Value (datum.Bool b)) (any_true ts)))
  quantified_at ForAll o b i d h =
      let member = tree.Binary two.Member (tree.Const (datum.Bool false)) b in
      kept_to _ _ _ (nra-Unary m w one.Not member i d ∙ ap (λ o. and_then o negation)
      (nra-Binary m w two.Member (tree.Const (datum.Bool false)) b i d
      ∙ go_on (nra m w (tree.Const (datum.Bool false)) i d)
      (λ x. and_then (nra m w b i d) (λ y. membership x y)) (datum.Bool false) (nra-Const m w (datum.Bool false) i d))
      ∙ bind_assoc (nra m w b i d) (λ y. membership (datum.Bool false) y) negation)
      (same_by Truths o (nra m w b i d) _ _ h (λ ts e r.
      ap (λ e. and_then (membership (datum.Bool false) e) negation) r
      ∙ ap (λ o. and_then o negation) (among (datum.Bool false) (map (λ t. datum.Bool t) ts))
      ∙ negated (list_any (same (datum.Bool false)) (map (λ t. datum.Bool t) ts))
      ∙ ap (λ b. Value (datum.Bool b)) (none_false ts)))

  pub same_quantified : (q : Quantifier) (a : NamedMeaning) (t : NamedTranslation) (test : Meaning) (u : Translation)
      → SameNamed m w a t → Same m w test u → Same m w (quantified q a test) (quantified_tree q t u)
  same_quantified q a t test u h k ns s d e i =
      kept_from _ _ _ (all_steps (a.1 s) as_coll (λ xs. each (λ x. truth test ((a.0, x) ∷ s)) xs) (decides q)
      (λ answer. Value (datum.Bool answer)))
      (quantified_at q _ (tree.Map (bound_tree (t.0, u) ns) (t.1 ns)) i d (truths_kept a t test u h k ns s d e i))
