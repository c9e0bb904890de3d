-- The tree for one of the algebra keeps its value.
use Rattle.std.proofs.Common.{◌≡◌, ◌==◌, ◌<◌, ℕ, ◌+◌, Bool, true, false, cond, List, [], ◌∷◌, Some, refl, sym, ap, ◌∙◌}
use Rattle.std.proofs.Common.{map, subst, arith, lit<}
use Rattle.std.proofs.lemmas.Bool.Decides.{nat_tests}
use Rattle.std.specs.Ordering.{is_gt}
use Rattle.qc_data.specs.Kinds.{as_coll, coll_at}
use Rattle.qc_data.specs.Order.{canon, cmp, insert_by, sort_by, Same as Alike}
use Rattle.qc_data.specs.Outcome.{Mode, Outcome, Value, Halts, and_then, gather, each, alone, IsKept}
use Rattle.qc_data.specs.declared.data.Datum.{Datum}
use Rattle.qc_data.specs.declared.data.Datum.TheOpen.{Datum-F}
use Rattle.qc_data.specs.declared.data.Datum.TheViews.{out-Datum, roll-Datum}
use Rattle.qc_data.specs.declared.data.Datum.TheVariants as datum
use Rattle.qc_data.proofs.CanonLaws.{canon-Coll}
use Rattle.qc_data.proofs.KindLaws.{out-Coll}
use Rattle.qc_data.proofs.Outcomes.{bind_assoc, kept_same, kept_then, kept_gather}
use Rattle.qc_data.proofs.SameLaws.{Same-refl}
use Rattle.qc_ops.specs.declared.op.Unary.{Unary}
use Rattle.qc_ops.specs.declared.op.Unary.TheVariants as one
use Rattle.qc_ops.specs.declared.op.Binary.{Binary}
use Rattle.qc_ops.specs.declared.op.Binary.TheVariants as two
use Rattle.qc_ops.specs.Bags.{flattened}
use Rattle.qc_ops.specs.Operands.{as_bool, as_rec, bag, found}
use Rattle.qc_ops.specs.Operators.{unary, binary}
use Rattle.qc_ops.specs.Records.{concatenation}
use Rattle.qc_ops.specs.Sameness.{same, equality}
use Rattle.qc_ops.proofs.SameTests.{same_is}
use Rattle.qc_types.specs.Schemas.{WorldOf, global}
use Rattle.qc_types.proofs.Inductions.{roll-out}
use Rattle.qc_trees.specs.Branches.{truth}
use Rattle.qc_ops.specs.Sides.{side_at, by_side}
use Rattle.qc_nra.specs.declared.tree.Nra.{Nra}
use Rattle.qc_nra.specs.declared.tree.Nra.TheOpen.{Nra-F}
use Rattle.qc_nra.specs.declared.tree.Nra.TheViews.{roll-Nra}
use Rattle.qc_nra.specs.declared.tree.Nra.TheFolds.{fold-roll-Nra, map-Nra}
use Rattle.qc_nra.specs.Forms as algebra
use Rattle.qc_nra.specs.Forms.{map_of, kept, select_of, product_of, joined, join_of, members_or, default_of, env_map_of}
use Rattle.qc_nra.specs.Meaning.{nra, form}
use Rattle.qc_nra.specs.inner.Induction.{Held, nra_ind}
use Rattle.qc_nnrc.specs.declared.tree.Nnrc.{Nnrc}
use Rattle.qc_nnrc.specs.declared.tree.Nnrc.TheVariants as to
use Rattle.qc_nnrc.specs.Meaning as calculus
use Rattle.qc_nnrc.specs.Meaning.{Values, Meaning, bound_to, for_of, nnrc}
use Rattle.qc_nnrc.specs.Variables.{look}
use Rattle.qc_nnrc.proofs.TreeForms.{of-Var, of-Const, of-Global, of-Unary, of-Binary, of-Let, of-For, of-If, of-Either}
use Rattle.qc_lower.specs.inner.AlgebraTrees.{Lowering, none, tested, beside, paired, or_else, lower_form, lower}
use Rattle.qc_lower.specs.inner.AlgebraTrees.{lowered}
use Rattle.qc_lower.proofs.FlatLoops.{flat_each}

-- ---- variables

same_number : (n : ℕ) → (n == n) ≡ true
same_number n = grind (arith, nat_tests)

other_number : (x n : ℕ) → x < n → (n == x) ≡ false
other_number x n lt = grind (arith, nat_tests)

here : (n : ℕ) (d : Datum) (f : Values) → look n ((n, d) ∷ f) ≡ Some d
here n d f = ap (λ (t : Bool). cond t (Some d) (look n f)) (same_number n)

there : (x n : ℕ) (d : Datum) (f : Values) → x < n → look x ((n, d) ∷ f) ≡ look x f
there x n d f lt = ap (λ (t : Bool). cond t (Some d) (look x f)) (other_number x n lt)

-- i and e hold the input and the environment, and are below n
pub record Holds (f : Values) (i e n : ℕ) (v u : Datum) : Type 0 where
  pub input : look i f ≡ Some v
  pub env : look e f ≡ Some u
  pub input_below : i < n
  pub env_below : e < n

under : (f : Values) (i e n : ℕ) (v u d : Datum) → Holds f i e n v u → Holds ((n, d) ∷ f) i e (n + 1) v u
under f i e n v u d h = record {
  input = there i n d f h.input_below ∙ h.input;
  env = there e n d f h.env_below ∙ h.env;
  input_below = omega (arith, h.input_below);
  env_below = omega (arith, h.env_below);
}

under_input : (f : Values) (i e n : ℕ) (v u d : Datum) → Holds f i e n v u → Holds ((n, d) ∷ f) n e (n + 1) d u
under_input f i e n v u d h = record {
  input = here n d f;
  env = there e n d f h.env_below ∙ h.env;
  input_below = omega arith;
  env_below = omega (arith, h.env_below);
}

under_env : (f : Values) (i e n : ℕ) (v u d : Datum) → Holds f i e n v u → Holds ((n, d) ∷ f) i n (n + 1) v d
under_env f i e n v u d h = record {
  input = there i n d f h.input_below ∙ h.input;
  env = here n d f;
  input_below = omega (arith, h.input_below);
  env_below = omega arith;
}

-- ---- outcomes

-- the same second outcome in another form
to_kept : {A : Type 0} (o p q : Outcome A) → q ≡ p → IsKept o p → IsKept o q
to_kept o p q e h = subst (IsKept o) (sym e) h

-- the same first outcome in another form
from_kept : {A : Type 0} (o p q : Outcome A) → o ≡ p → IsKept p q → IsKept o q
from_kept o p q e h = subst (λ (r : Outcome _). IsKept r q) (sym e) h

kept_bag : (a b : Outcome (List Datum)) → IsKept a b → IsKept (bag a) (bag b)
kept_bag a b h = kept_then a b _ _ h (λ xs. refl)

kept_each : (f g : Datum → Outcome Datum) (xs : List Datum) → ((x : Datum) → IsKept (f x) (g x))
    → IsKept (each f xs) (each g xs)
kept_each f g xs h =
    kept_gather (λ x. alone (f x)) (λ x. alone (g x)) xs (λ x. kept_then (f x) (g x) _ _ (h x) (λ y. refl))

kept_choice : (t : Bool) (a b c d : Outcome Datum) → IsKept a c → IsKept b d → IsKept (cond t a b) (cond t c d)
kept_choice true a b c d h k = h
kept_choice false a b c d h k = k

kept_at : (f g h k : Datum → Outcome Datum) → ((x : Datum) → IsKept (f x) (h x)) → ((x : Datum) → IsKept (g x) (k x))
    → (d : Datum-F Datum) → IsKept (side_at f g d) (side_at h k d)
kept_at f g h k p q (Datum-F.Left d) = p d
kept_at f g h k p q (Datum-F.Right d) = q d
kept_at f g h k p q _ = tt

kept_truth : (o p : Outcome Datum) → IsKept o p → IsKept (truth o) (truth p)
unfolding truth
kept_truth o p h = kept_then o p as_bool as_bool h (λ v. kept_same (as_bool v))

-- ---- collections

-- a datum whose outermost layer is known
coll_of : (v : Datum) (xs : List Datum) → out-Datum v ≡ Datum-F.Coll xs → v ≡ datum.Coll xs
coll_of v xs e = sym (roll-out v) ∙ ap roll-Datum (e ∙ sym (out-Coll xs)) ∙ roll-out (datum.Coll xs)

some_more : (x : Datum) (ys : List Datum) → insert_by cmp x ys ≡ [] → ⊥
some_more x [] e = cc
some_more x (y ∷ ys) e = some_of (is_gt (cmp x y)) e
  where
    some_of : (b : Bool) → cond b (y ∷ insert_by cmp x ys) (x ∷ y ∷ ys) ≡ [] → ⊥
    some_of true e = cc
    some_of false e = cc

coll_is : (xs ys : List Datum) → datum.Coll xs ≡ datum.Coll ys → xs ≡ ys
coll_is xs ys e =
    let layers : Datum-F.Coll xs ≡ Datum-F.Coll ys = sym (out-Coll xs) ∙ ap out-Datum e ∙ out-Coll ys in cc

not_empty : (x : Datum) (xs : List Datum) → Alike (datum.Coll (x ∷ xs)) (datum.Coll []) → ⊥
not_empty x xs e =
    some_more (canon x) (sort_by cmp (map canon xs))
    (coll_is (sort_by cmp (map canon (x ∷ xs))) [] (sym (canon-Coll (x ∷ xs)) ∙ e ∙ canon-Coll []))

test_false : (b : Bool) → (b ≡ true → ⊥) → b ≡ false
test_false true h = absurd (h refl)
test_false false h = refl

same_empty : same (datum.Coll []) (datum.Coll []) ≡ true
same_empty = (same_is (datum.Coll []) (datum.Coll [])).1 (Same-refl (datum.Coll []))

same_some : (x : Datum) (xs : List Datum) → same (datum.Coll (x ∷ xs)) (datum.Coll []) ≡ false
same_some x xs = test_false (same (datum.Coll (x ∷ xs)) (datum.Coll []))
    (λ t. not_empty x xs ((same_is (datum.Coll (x ∷ xs)) (datum.Coll [])).0 t))

as_bool-Bool : (b : Bool) → as_bool (datum.Bool b) ≡ Value b
as_bool-Bool b = rw (datum.outs-Bool b) refl

-- ---- default

own_at : (w : Datum) (q : Outcome Datum) (x : Datum-F Datum) → out-Datum w ≡ x → q ≡ Value w
    → IsKept (bag (coll_at x)) q
own_at w q (Datum-F.Coll ys) e h = h ∙ ap Value (coll_of w ys e)
own_at w q Datum-F.Unit e h = tt
own_at w q (Datum-F.Bool b) e h = tt
own_at w q (Datum-F.Int n) e h = tt
own_at w q (Datum-F.Text s) e h = tt
own_at w q (Datum-F.Rec fs) e h = tt
own_at w q (Datum-F.Left d) e h = tt
own_at w q (Datum-F.Right d) e h = tt
own_at w q (Datum-F.Brand n d) e h = tt

-- a collection is what it is
own_kept : (o q : Outcome Datum) → IsKept o q → IsKept (and_then o (λ w. bag (as_coll w))) q
own_kept (Value w) q h = own_at w q (out-Datum w) refl h
own_kept (Halts why) q h = tt

chosen_at : (o q s : Outcome Datum) (t : Bool) (r : Outcome Bool) → r ≡ Value t → IsKept o (cond t q s)
    → IsKept o (and_then r (λ holds. cond holds q s))
chosen_at o q s t r e h = to_kept o (cond t q s) (and_then r (λ holds. cond holds q s)) (rw e refl) h

-- whether the collection is empty
test_is : (v : Datum) (xs : List Datum) (b : Bool) → v ≡ datum.Coll xs → same (datum.Coll xs) (datum.Coll []) ≡ b
    → truth (equality v (datum.Coll [])) ≡ Value b
unfolding truth
test_is v xs b e k =
    ap (λ (d : Datum). as_bool (datum.Bool (same d (datum.Coll [])))) e
    ∙ ap (λ (t : Bool). as_bool (datum.Bool t)) k ∙ as_bool-Bool b

default_layer : (o q : Outcome Datum) → IsKept o q → (v : Datum) (x : Datum-F Datum) → out-Datum v ≡ x
    → IsKept (and_then (coll_at x) (members_or o))
    (and_then (truth (equality v (datum.Coll []))) (λ holds. cond holds q (Value v)))
unfolding members_or
default_layer o q h v (Datum-F.Coll []) e =
    chosen_at (and_then o (λ w. bag (as_coll w))) q (Value v) true (truth (equality v (datum.Coll [])))
    (test_is v [] true (coll_of v [] e) same_empty) (own_kept o q h)
default_layer o q h v (Datum-F.Coll (x ∷ xs)) e =
    chosen_at (Value (datum.Coll (x ∷ xs))) q (Value v) false (truth (equality v (datum.Coll [])))
    (test_is v (x ∷ xs) false (coll_of v (x ∷ xs) e) (same_some x xs)) (ap Value (coll_of v (x ∷ xs) e))
default_layer o q h v Datum-F.Unit e = tt
default_layer o q h v (Datum-F.Bool b) e = tt
default_layer o q h v (Datum-F.Int n) e = tt
default_layer o q h v (Datum-F.Text s) e = tt
default_layer o q h v (Datum-F.Rec fs) e = tt
default_layer o q h v (Datum-F.Left d) e = tt
default_layer o q h v (Datum-F.Right d) e = tt
default_layer o q h v (Datum-F.Brand n d) e = tt

default_kept : (o q : Outcome Datum) → IsKept o q → (v : Datum)
    → IsKept (default_of o v) (and_then (truth (equality v (datum.Coll []))) (λ holds. cond holds q (Value v)))
unfolding default_of
default_kept o q h v = default_layer o q h v (out-Datum v) refl

-- ---- select

one_test : (x : Datum) (r : Outcome Bool) (s t : Outcome Datum) → s ≡ Value (datum.Coll (x ∷ []))
    → t ≡ Value (datum.Coll [])
    → IsKept (bag (and_then r (λ holds. Value (cond holds (x ∷ []) [])))) (and_then r (λ holds. cond holds s t))
one_test x (Value true) s t e k = e
one_test x (Value false) s t e k = k
one_test x (Halts why) s t e k = tt

one_kept : (x : Datum) (o p s t : Outcome Datum) → IsKept o p → s ≡ Value (datum.Coll (x ∷ []))
    → t ≡ Value (datum.Coll [])
    → IsKept (bag (and_then (truth o) (λ holds. Value (cond holds (x ∷ []) []))))
    (and_then (truth p) (λ holds. cond holds s t))
unfolding truth
one_kept x (Value d) p s t h e k = rw h (one_test x (as_bool d) s t e k)
one_kept x (Halts why) p s t h e k = tt

-- ---- trees

module _ (m : Mode) (w : WorldOf) where
  abbrev run : Nnrc → Values → Outcome Datum
  run t f = nnrc m w t f

  at_values : (p q : Meaning) (f : Values) → p ≡ q → p f ≡ q f
  at_values p q f e = ap (λ (r : Meaning). r f) e

  run-Var : (x : ℕ) (f : Values) → run (to.Var x) f ≡ found (look x f)
  run-Var x f = at_values _ _ f (of-Var Meaning (calculus.form m w) x)

  run-Const : (d : Datum) (f : Values) → run (to.Const d) f ≡ Value d
  run-Const d f = at_values _ _ f (of-Const Meaning (calculus.form m w) d)

  run-Unary : (op : Unary) (a : Nnrc) (f : Values) → run (to.Unary op a) f ≡ and_then (run a f) (unary m w.classes op)
  run-Unary op a f = at_values _ _ f (of-Unary Meaning (calculus.form m w) op a)

  run-Binary : (op : Binary) (a b : Nnrc) (f : Values)
      → run (to.Binary op a b) f ≡ and_then (run a f) (λ x. and_then (run b f) (λ y. binary m op x y))
  run-Binary op a b f = at_values _ _ f (of-Binary Meaning (calculus.form m w) op a b)

  run-Let : (x : ℕ) (a b : Nnrc) (f : Values)
      → run (to.Let x a b) f ≡ and_then (run a f) (bound_to x (nnrc m w b) f)
  run-Let x a b f = at_values _ _ f (of-Let Meaning (calculus.form m w) x a b)

  run-For : (x : ℕ) (a b : Nnrc) (f : Values) → run (to.For x a b) f ≡ and_then (run a f) (for_of x (nnrc m w b) f)
  run-For x a b f = at_values _ _ f (of-For Meaning (calculus.form m w) x a b)

  run-If : (a b c : Nnrc) (f : Values)
      → run (to.If a b c) f ≡ and_then (truth (run a f)) (λ holds. cond holds (run b f) (run c f))
  run-If a b c f = at_values _ _ f (of-If Meaning (calculus.form m w) a b c)

  run-Either : (a : Nnrc) (x : ℕ) (b : Nnrc) (y : ℕ) (c : Nnrc) (f : Values) → run (to.Either a x b y c) f
      ≡ and_then (run a f) (by_side (bound_to x (nnrc m w b) f) (bound_to y (nnrc m w c) f))
  run-Either a x b y c f = at_values _ _ f (of-Either Meaning (calculus.form m w) a x b y c)

  -- the value that a variable has
  run_here : (x : ℕ) (d : Datum) (f : Values) → look x f ≡ Some d → run (to.Var x) f ≡ Value d
  run_here x d f e = run-Var x f ∙ ap found e

  -- ---- binders

  -- a body at each value of its variable
  abbrev At : ℕ → Nnrc → Values → (Datum → Outcome Datum) → Type 0
  At x b f g = (d : Datum) → IsKept (g d) (run b ((x, d) ∷ f))

  let_kept : (x : ℕ) (a b : Nnrc) (f : Values) (o : Outcome Datum) (g : Datum → Outcome Datum) → IsKept o (run a f)
      → At x b f g → IsKept (and_then o g) (run (to.Let x a b) f)
  unfolding bound_to
  let_kept x a b f o g h k =
      to_kept (and_then o g) _ (run (to.Let x a b) f) (run-Let x a b f)
      (kept_then o (run a f) g (bound_to x (nnrc m w b) f) h k)

  over_kept : (x : ℕ) (b : Nnrc) (f : Values) (g : Datum → Outcome Datum) (v : Datum) → At x b f g
      → IsKept (and_then (as_coll v) (λ xs. bag (each g xs))) (for_of x (nnrc m w b) f v)
  unfolding for_of bound_to
  over_kept x b f g v k =
      kept_then (as_coll v) (as_coll v) _ _ (kept_same (as_coll v))
      (λ xs. kept_bag _ _ (kept_each g (bound_to x (nnrc m w b) f) xs k))

  for_kept : (x : ℕ) (a b : Nnrc) (f : Values) (o : Outcome Datum) (g : Datum → Outcome Datum) → IsKept o (run a f)
      → At x b f g → IsKept (and_then o (λ v. and_then (as_coll v) (λ xs. bag (each g xs)))) (run (to.For x a b) f)
  for_kept x a b f o g h k =
      to_kept _ _ (run (to.For x a b) f) (run-For x a b f)
      (kept_then o (run a f) _ (for_of x (nnrc m w b) f) h (λ v. over_kept x b f g v k))

  -- a loop of collections, flattened
  each_flat : (g : Datum → Outcome (List Datum)) (v : Datum)
      → and_then (as_coll v) (λ xs. bag (gather g xs))
      ≡ and_then (and_then (as_coll v) (λ xs. bag (each (λ x. bag (g x)) xs))) flattened
  each_flat g v =
      ap (λ (k : List Datum → Outcome Datum). and_then (as_coll v) k) (λ i xs. sym (flat_each g xs) i)
      ∙ sym (bind_assoc (as_coll v) (λ xs. bag (each (λ x. bag (g x)) xs)) flattened)

  flat_kept : (x : ℕ) (a b : Nnrc) (f : Values) (o : Outcome Datum) (g : Datum → Outcome (List Datum))
      → IsKept o (run a f) → At x b f (λ d. bag (g d))
      → IsKept (and_then o (λ v. and_then (as_coll v) (λ xs. bag (gather g xs))))
      (run (to.Unary one.Flatten (to.For x a b)) f)
  flat_kept x a b f o g h k =
      let loop : Datum → Outcome Datum = λ v. and_then (as_coll v) (λ xs. bag (each (λ d. bag (g d)) xs)) in
      let same : and_then o (λ v. and_then (as_coll v) (λ xs. bag (gather g xs)))
      ≡ and_then (and_then o loop) flattened =
      ap (λ (k : Datum → Outcome Datum). and_then o k) (λ i v. each_flat g v i) ∙ sym (bind_assoc o loop flattened) in
      from_kept _ _ _ same
      (to_kept _ _ (run (to.Unary one.Flatten (to.For x a b)) f) (run-Unary one.Flatten (to.For x a b) f)
      (kept_then (and_then o loop) (run (to.For x a b) f) flattened (unary m w.classes one.Flatten)
      (for_kept x a b f o (λ d. bag (g d)) h k) (λ v. kept_same (flattened v))))

  -- ---- pairs

  cat_kept : (n : ℕ) (d y : Datum) (f : Values) → look n f ≡ Some d
      → IsKept (concatenation d y) (run (to.Binary two.Cat (to.Var n) (to.Var (n + 1))) ((n + 1, y) ∷ f))
  cat_kept n d y f e =
      let g : Values = (n + 1, y) ∷ f in
      let first : run (to.Var n) g ≡ Value d = run_here n d g (there n (n + 1) y f (omega arith) ∙ e) in
      let second : run (to.Var (n + 1)) g ≡ Value y = run_here (n + 1) y g (here (n + 1) y f) in
      to_kept (concatenation d y) (concatenation d y) (run (to.Binary two.Cat (to.Var n) (to.Var (n + 1))) g)
      (run-Binary two.Cat (to.Var n) (to.Var (n + 1)) g
      ∙ ap (λ (o : Outcome Datum). and_then o (λ x. and_then (run (to.Var (n + 1)) g) (λ y. binary m two.Cat x y)))
      first
      ∙ ap (λ (o : Outcome Datum). and_then o (λ y. binary m two.Cat d y)) second)
      (kept_same (concatenation d y))

  -- the record at n with each member of what the algebra gives
  beside_kept : (n : ℕ) (members : Nnrc) (d : Datum) (f : Values) (o : Outcome Datum) → look n f ≡ Some d
      → IsKept o (run members f)
      → IsKept (and_then o (λ y. bag (and_then (as_coll y) (λ ys. algebra.beside ys d)))) (run (beside n members) f)
  unfolding algebra.beside
  beside_kept n members d f o e h =
      let same : and_then o (λ y. bag (and_then (as_coll y) (λ ys. each (concatenation d) ys)))
      ≡ and_then o (λ y. and_then (as_coll y) (λ ys. bag (each (concatenation d) ys))) =
      ap (λ (k : Datum → Outcome Datum). and_then o k)
      (λ i y. bind_assoc (as_coll y) (λ ys. each (concatenation d) ys) (λ xs. Value (datum.Coll xs)) i) in
      from_kept _ _ _ same
      (for_kept (n + 1) members (to.Binary two.Cat (to.Var n) (to.Var (n + 1))) f o (concatenation d) h
      (λ y. cat_kept n d y f e))

  rows_kept : (r : Outcome (List (List ℕ × Datum))) (o q : Outcome Datum) (h : Datum → Outcome (List Datum))
      → IsKept (and_then o (λ y. bag (h y))) q → IsKept (bag (and_then r (λ fields. and_then o h))) q
  rows_kept (Value fields) (Value y) q h k = k
  rows_kept (Value fields) (Halts why) q h k = tt
  rows_kept (Halts why) o q h k = tt

  joined_kept : (n : ℕ) (a : algebra.Meaning) (members : Nnrc) (d u : Datum) (f : Values) → look n f ≡ Some d
      → IsKept (a d u) (run members f) → IsKept (bag (joined a u d)) (run (beside n members) f)
  unfolding joined
  joined_kept n a members d u f e h =
      rows_kept (as_rec d) (a d u) (run (beside n members) f)
      (λ y. and_then (as_coll y) (λ ys. algebra.beside ys d)) (beside_kept n members d f (a d u) e h)

  pairs_at : (v : Datum) (r : Outcome (List Datum)) (q : Outcome Datum)
      → ((ys : List Datum) → r ≡ Value ys → IsKept (and_then (as_coll v) (λ xs. bag (gather (algebra.beside ys) xs))) q)
      → IsKept (and_then (as_coll v) (λ xs. and_then r (λ ys. bag (gather (algebra.beside ys) xs)))) q
  pairs_at v (Value ys) q h = h ys refl
  pairs_at v (Halts why) q h = halted (as_coll v)
    where
      halted : {A : Type 0} (o : Outcome A) → IsKept {A = Datum} (and_then o (λ x. Halts why)) q
      halted (Value x) = tt
      halted (Halts other) = tt

  paired_kept : (n : ℕ) (f : Values) (x y : Datum) → look n f ≡ Some x → look (n + 1) f ≡ Some y
      → IsKept (product_of x y) (run (paired n) f)
  unfolding product_of
  paired_kept n f x y e k =
      pairs_at x (as_coll y) (run (paired n) f) (λ ys is.
      flat_kept (n + 2) (to.Var n) (beside (n + 2) (to.Var (n + 1))) f (Value x) (algebra.beside ys)
      (run_here n x f e) (λ d.
      let g : Values = (n + 2, d) ∷ f in
      let second : run (to.Var (n + 1)) g ≡ Value y =
      run_here (n + 1) y g (there (n + 1) (n + 2) d f (omega arith) ∙ k) in
      from_kept _ _ _ (ap (λ (r : Outcome (List Datum)). bag (and_then r (λ ys. algebra.beside ys d))) (sym is))
      (beside_kept (n + 2) (to.Var (n + 1)) d g (Value y) (here (n + 2) d f) second)))

  -- ---- forms of the algebra

  map_kept : (x : ℕ) (a b : Nnrc) (f : Values) (o : Outcome Datum) (p : algebra.Meaning) (u : Datum)
      → IsKept o (run a f) → At x b f (λ d. p d u) → IsKept (and_then o (map_of p u)) (run (to.For x a b) f)
  unfolding map_of
  map_kept x a b f o p u h k = for_kept x a b f o (λ d. p d u) h k

  env_map_kept : (x : ℕ) (a b : Nnrc) (f : Values) (p : algebra.Meaning) (v u : Datum) → run a f ≡ Value u
      → At x b f (λ d. p v d) → IsKept (env_map_of p v u) (run (to.For x a b) f)
  unfolding env_map_of
  env_map_kept x a b f p v u h k = for_kept x a b f (Value u) (λ d. p v d) h k

  tested_kept : (n : ℕ) (a : Nnrc) (f : Values) (p : algebra.Meaning) (u d : Datum) → look n f ≡ Some d
      → IsKept (p d u) (run a f) → IsKept (bag (kept p u d)) (run (tested n a) f)
  unfolding kept
  tested_kept n a f p u d e h =
      let single : run (to.Unary one.Single (to.Var n)) f ≡ Value (datum.Coll (d ∷ [])) =
      run-Unary one.Single (to.Var n) f
      ∙ ap (λ (o : Outcome Datum). and_then o (unary m w.classes one.Single)) (run_here n d f e) in
      to_kept _ _ (run (tested n a) f) (run-If a (to.Unary one.Single (to.Var n)) none f)
      (one_kept d (p d u) (run a f) _ _ h single (run-Const (datum.Coll []) f))

  select_kept : (n : ℕ) (a b : Nnrc) (f : Values) (o : Outcome Datum) (p : algebra.Meaning) (u : Datum)
      → IsKept o (run a f) → At n b f (λ d. p d u)
      → IsKept (and_then o (select_of p u)) (run (to.Unary one.Flatten (to.For n a (tested n b))) f)
  unfolding select_of
  select_kept n a b f o p u h k =
      flat_kept n a (tested n b) f o (kept p u) h
      (λ d. tested_kept n b ((n, d) ∷ f) p u d (here n d f) (k d))

  join_kept : (n : ℕ) (a b : Nnrc) (f : Values) (o : Outcome Datum) (p : algebra.Meaning) (u : Datum)
      → IsKept o (run a f) → At n b f (λ d. p d u)
      → IsKept (and_then o (join_of p u)) (run (to.Unary one.Flatten (to.For n a (beside n b))) f)
  unfolding join_of
  join_kept n a b f o p u h k =
      flat_kept n a (beside n b) f o (joined p u) h
      (λ d. joined_kept n p b d u ((n, d) ∷ f) (here n d f) (k d))

  or_else_kept : (n : ℕ) (b : Nnrc) (f : Values) (o : Outcome Datum) (v : Datum) → look n f ≡ Some v
      → IsKept o (run b f) → IsKept (default_of o v) (run (or_else n b) f)
  or_else_kept n b f o v e h =
      let is : run (to.Var n) f ≡ Value v = run_here n v f e in
      let test : run (to.Binary two.Eq (to.Var n) none) f ≡ equality v (datum.Coll []) =
      run-Binary two.Eq (to.Var n) none f
      ∙ ap (λ (o : Outcome Datum). and_then o (λ x. and_then (run none f) (λ y. binary m two.Eq x y))) is
      ∙ ap (λ (o : Outcome Datum). and_then o (λ y. binary m two.Eq v y)) (run-Const (datum.Coll []) f) in
      to_kept _ _ (run (or_else n b) f)
      (run-If (to.Binary two.Eq (to.Var n) none) b (to.Var n) f
      ∙ ap (λ (o : Outcome Datum). and_then (truth o) (λ holds. cond holds (run b f) (run (to.Var n) f))) test
      ∙ ap (λ (o : Outcome Datum). and_then (truth (equality v (datum.Coll []))) (λ holds. cond holds (run b f) o)) is)
      (default_kept o (run b f) h v)

  either_kept : (i n : ℕ) (a b : Nnrc) (f : Values) (p q : Datum → Outcome Datum) (v : Datum) → look i f ≡ Some v
      → At n a f p → At n b f q → IsKept (by_side p q v) (run (to.Either (to.Var i) n a n b) f)
  unfolding bound_to
  either_kept i n a b f p q v e h k =
      to_kept _ _ (run (to.Either (to.Var i) n a n b) f)
      (run-Either (to.Var i) n a n b f
      ∙ ap (λ (o : Outcome Datum). and_then o (by_side (bound_to n (nnrc m w a) f) (bound_to n (nnrc m w b) f)))
      (run_here i v f e))
      (kept_at p q (bound_to n (nnrc m w a) f) (bound_to n (nnrc m w b) f) h k (out-Datum v))

  -- ---- all trees

  abbrev means : Nra → algebra.Meaning
  means q = nra m w q

  abbrev Of : Nra → Type 0
  Of q = (f : Values) (i e n : ℕ) (v u : Datum) → Holds f i e n v u → IsKept (means q v u) (run (lower q i e n) f)

  layer : (x : Nra-F Nra) → Held Of x → (f : Values) (i e n : ℕ) (v u : Datum) → Holds f i e n v u
      → IsKept (form m w (map-Nra Nra algebra.Meaning means x) v u)
      (run (lower_form (map-Nra Nra Lowering lower x) i e n) f)
  layer (Nra-F.Const d) g f i e n v u h = run-Const d f
  layer Nra-F.Input g f i e n v u h = run_here i v f h.input
  layer Nra-F.Env g f i e n v u h = run_here e u f h.env
  layer (Nra-F.Global name) g f i e n v u h =
      to_kept _ _ (run (to.Global name) f) (at_values _ _ f (of-Global Meaning (calculus.form m w) name))
      (kept_same (found (global name w.datum)))
  layer (Nra-F.Unary op a) g f i e n v u h =
      to_kept _ _ (run (to.Unary op (lower a i e n)) f) (run-Unary op (lower a i e n) f)
      (kept_then (means a v u) (run (lower a i e n) f) _ _ (g f i e n v u h) (λ x. kept_same (unary m w.classes op x)))
  layer (Nra-F.Binary op a b) g f i e n v u h =
      to_kept _ _ (run (to.Binary op (lower a i e n) (lower b i e n)) f)
      (run-Binary op (lower a i e n) (lower b i e n) f)
      (kept_then (means a v u) (run (lower a i e n) f) _ _ (g.0 f i e n v u h) (λ x.
      kept_then (means b v u) (run (lower b i e n) f) _ _ (g.1 f i e n v u h) (λ y. kept_same (binary m op x y))))
  layer (Nra-F.Comp a b) g f i e n v u h =
      let_kept n (lower b i e n) (lower a n e (n + 1)) f (means b v u) (λ d. means a d u) (g.1 f i e n v u h)
      (λ d. g.0 ((n, d) ∷ f) n e (n + 1) d u (under_input f i e n v u d h))
  layer (Nra-F.Map a b) g f i e n v u h =
      map_kept n (lower b i e n) (lower a n e (n + 1)) f (means b v u) (means a) u (g.1 f i e n v u h)
      (λ d. g.0 ((n, d) ∷ f) n e (n + 1) d u (under_input f i e n v u d h))
  layer (Nra-F.Select a b) g f i e n v u h =
      select_kept n (lower b i e n) (lower a n e (n + 1)) f (means b v u) (means a) u (g.1 f i e n v u h)
      (λ d. g.0 ((n, d) ∷ f) n e (n + 1) d u (under_input f i e n v u d h))
  layer (Nra-F.Product a b) g f i e n v u h =
      let_kept n (lower a i e n) (to.Let (n + 1) (lower b i e (n + 1)) (paired n)) f (means a v u)
      (λ x. and_then (means b v u) (product_of x)) (g.0 f i e n v u h) (λ x.
      let_kept (n + 1) (lower b i e (n + 1)) (paired n) ((n, x) ∷ f) (means b v u) (product_of x)
      (g.1 ((n, x) ∷ f) i e (n + 1) v u (under f i e n v u x h)) (λ y.
      paired_kept n ((n + 1, y) ∷ (n, x) ∷ f) x y
      (there n (n + 1) y ((n, x) ∷ f) (omega arith) ∙ here n x f) (here (n + 1) y ((n, x) ∷ f))))
  layer (Nra-F.DepJoin a b) g f i e n v u h =
      join_kept n (lower b i e n) (lower a n e (n + 1)) f (means b v u) (means a) u (g.1 f i e n v u h)
      (λ d. g.0 ((n, d) ∷ f) n e (n + 1) d u (under_input f i e n v u d h))
  layer (Nra-F.Default a b) g f i e n v u h =
      let_kept n (lower a i e n) (or_else n (lower b i e (n + 1))) f (means a v u) (default_of (means b v u))
      (g.0 f i e n v u h) (λ x.
      or_else_kept n (lower b i e (n + 1)) ((n, x) ∷ f) (means b v u) x (here n x f)
      (g.1 ((n, x) ∷ f) i e (n + 1) v u (under f i e n v u x h)))
  layer (Nra-F.EnvComp a b) g f i e n v u h =
      let_kept n (lower b i e n) (lower a i n (n + 1)) f (means b v u) (λ d. means a v d) (g.1 f i e n v u h)
      (λ d. g.0 ((n, d) ∷ f) i n (n + 1) v d (under_env f i e n v u d h))
  layer (Nra-F.MapEnv a) g f i e n v u h =
      env_map_kept n (to.Var e) (lower a i n (n + 1)) f (means a) v u (run_here e u f h.env)
      (λ d. g ((n, d) ∷ f) i n (n + 1) v d (under_env f i e n v u d h))
  layer (Nra-F.Either a b) g f i e n v u h =
      either_kept i n (lower a n e (n + 1)) (lower b n e (n + 1)) f (λ d. means a d u) (λ d. means b d u) v h.input
      (λ d. g.0 ((n, d) ∷ f) n e (n + 1) d u (under_input f i e n v u d h))
      (λ d. g.1 ((n, d) ∷ f) n e (n + 1) d u (under_input f i e n v u d h))
  layer (Nra-F.If a b c) g f i e n v u h =
      to_kept _ _ (run (to.If (lower a i e n) (lower b i e n) (lower c i e n)) f)
      (run-If (lower a i e n) (lower b i e n) (lower c i e n) f)
      (kept_then (truth (means a v u)) (truth (run (lower a i e n) f)) _ _
      (kept_truth (means a v u) (run (lower a i e n) f) (g.0 f i e n v u h))
      (λ holds. kept_choice holds (means b v u) (means c v u) (run (lower b i e n) f) (run (lower c i e n) f)
      (g.1 f i e n v u h) (g.2 f i e n v u h)))

  of_layer : (x : Nra-F Nra) → Held Of x → Of (roll-Nra x)
  of_layer x g f i e n v u h =
      let outcomes : means (roll-Nra x) ≡ form m w (map-Nra Nra algebra.Meaning means x) =
      fold-roll-Nra algebra.Meaning (form m w) x in
      let trees : lower (roll-Nra x) ≡ lower_form (map-Nra Nra Lowering lower x) =
      fold-roll-Nra Lowering lower_form x in
      rw (outcomes, trees) (layer x g f i e n v u h)

  pub kept_tree : (q : Nra) → Of q
  kept_tree = nra_ind Of of_layer

  -- a whole tree
  pub kept_whole : (q : Nra) → IsKept (nra m w q datum.Unit (datum.Rec [])) (nnrc m w (lowered q) [])
  kept_whole q =
      let_kept 0 (to.Const datum.Unit) (to.Let 1 (to.Const (datum.Rec [])) (lower q 0 1 2)) [] (Value datum.Unit)
      (λ v. means q v (datum.Rec [])) (run-Const datum.Unit []) (λ v.
      let_kept 1 (to.Const (datum.Rec [])) (lower q 0 1 2) ((0, v) ∷ []) (Value (datum.Rec [])) (λ u. means q v u)
      (run-Const (datum.Rec []) ((0, v) ∷ [])) (λ u.
      kept_tree q ((1, u) ∷ (0, v) ∷ []) 0 1 2 v u
      (record { input = refl; env = refl; input_below = lit< tt; env_below = lit< tt })))
