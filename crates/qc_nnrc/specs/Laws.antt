-- The laws of trees. Each has a node. A value within bounds is the value at any size, and a value at any size is
-- within bounds the same or Range. A variable that is not free changes no outcome.
use Rattle.std.proofs.Common.{◌≡◌, ◌≤◌, ◌==◌, ℕ, ℤ, arith, Bool, true, false, not, ◌&&◌, ◌||◌, cond, List, [], ◌∷◌}
use Rattle.std.proofs.Common.{Option, Some, IsTrue, refl, ap, ◌∙◌, subst}
use Rattle.std.proofs.lemmas.Bool.Decides.{nat_tests}
use Rattle.qc_data.specs.Kinds.{as_coll}
use Rattle.qc_data.specs.Outcome.{Mode, any_size, within, Outcome, Value, Halts, Stuck, and_then, each, Agrees}
use Rattle.qc_data.specs.declared.data.Datum.{Datum}
use Rattle.qc_data.specs.declared.data.Datum.TheOpen.{Datum-F}
use Rattle.qc_data.specs.declared.data.Datum.TheViews.{out-Datum}
use Rattle.qc_data.proofs.Outcomes.{agrees_same, agrees_then, agrees_after}
use Rattle.qc_ops.specs.Operands.{bag, found}
use Rattle.qc_ops.specs.Operators.{unary, binary}
use Rattle.qc_ops.proofs.OperatorLaws.{agrees_unary, agrees_binary}
use Rattle.qc_types.specs.Schemas.{WorldOf, global}
use Rattle.qc_trees.specs.Branches.{truth}
use Rattle.qc_ops.specs.Sides.{side_at, by_side}
use Rattle.qc_trees.proofs.FormLaws.{agrees_each, agrees_truth, agrees_choice}
use Rattle.qc_ops.proofs.OperatorLaws.{agrees_side}
use Rattle.qc_nnrc.specs.declared.tree.Nnrc.{Nnrc}
use Rattle.qc_nnrc.specs.declared.tree.Nnrc.TheOpen.{Nnrc-F}
use Rattle.qc_nnrc.specs.declared.tree.Nnrc.TheViews.{roll-Nnrc}
use Rattle.qc_nnrc.specs.declared.tree.Nnrc.TheFolds.{fold-roll-Nnrc, fold_out-Nnrc, map-Nnrc}
use Rattle.qc_nnrc.specs.Free.{free, free_in, free_under}
use Rattle.qc_nnrc.specs.Meaning.{Values, Meaning, bound_to, for_of, form, nnrc}
use Rattle.qc_nnrc.specs.Sizes.{node, size}
use Rattle.qc_nnrc.specs.Variables.{look, put}
use Rattle.qc_nnrc.specs.inner.Induction.{Held, nnrc_ind}

-- ---- sizes

node_sized : (x : Nnrc-F ℕ) → 1 ≤ node x
node_sized (Nnrc-F.Var x) = omega arith
node_sized (Nnrc-F.Const d) = omega arith
node_sized (Nnrc-F.Global name) = omega arith
node_sized (Nnrc-F.Unary op a) = omega arith
node_sized (Nnrc-F.Binary op a b) = omega arith
node_sized (Nnrc-F.Let x a b) = omega arith
node_sized (Nnrc-F.For x a b) = omega arith
node_sized (Nnrc-F.If a b c) = omega arith
node_sized (Nnrc-F.Either a x b y c) = omega arith

pub sized : (e : Nnrc) → 1 ≤ size e
sized e = rw (fold_out-Nnrc ℕ node e) (node_sized _)

-- ---- modes

-- the outcomes for any values of variables
abbrev AgreesM : Meaning → Meaning → Type 0
AgreesM p q = (f : Values) → Agrees (p f) (q f)

module _ (x : ℕ) (p q : Meaning) (h : AgreesM p q) (f : Values) where
  agrees_bound : (v : Datum) → Agrees (bound_to x p f v) (bound_to x q f v)
  unfolding bound_to
  agrees_bound v = h ((x, v) ∷ f)

  agrees_for : (v : Datum) → Agrees (for_of x p f v) (for_of x q f v)
  unfolding for_of
  agrees_for v = agrees_after (as_coll v) _ _ (λ ds. agrees_each (bound_to x p f) (bound_to x q f) ds agrees_bound)

module _ (low high : ℤ) (w : WorldOf) where
  abbrev any : Nnrc → Meaning
  any e = nnrc any_size w e

  abbrev some : Nnrc → Meaning
  some e = nnrc (within low high) w e

  abbrev Of : Nnrc → Type 0
  Of e = AgreesM (any e) (some e)

  layer : (x : Nnrc-F Nnrc) → Held Of x
      → AgreesM (form any_size w (map-Nnrc Nnrc Meaning any x))
      (form (within low high) w (map-Nnrc Nnrc Meaning some x))
  layer (Nnrc-F.Var x) h f = agrees_same (found (look x f))
  layer (Nnrc-F.Const d) h f = refl
  layer (Nnrc-F.Global name) h f = agrees_same (found (global name w.datum))
  layer (Nnrc-F.Unary op a) h f =
      agrees_then (any a f) (some a f) _ _ (h f) (λ v. agrees_unary low high w.classes op v)
  layer (Nnrc-F.Binary op a b) h f =
      agrees_then (any a f) (some a f) _ _ (h.0 f)
      (λ u. agrees_then (any b f) (some b f) _ _ (h.1 f) (λ v. agrees_binary low high op u v))
  layer (Nnrc-F.Let x a b) h f =
      agrees_then (any a f) (some a f) _ _ (h.0 f) (λ v. agrees_bound x (any b) (some b) h.1 f v)
  layer (Nnrc-F.For x a b) h f =
      agrees_then (any a f) (some a f) _ _ (h.0 f) (λ v. agrees_for x (any b) (some b) h.1 f v)
  layer (Nnrc-F.If a b c) h f =
      agrees_then (truth (any a f)) (truth (some a f)) _ _ (agrees_truth (any a f) (some a f) (h.0 f))
      (λ holds. agrees_choice holds (any b f) (any c f) (some b f) (some c f) (h.1 f) (h.2 f))
  layer (Nnrc-F.Either a x b y c) h f =
      agrees_then (any a f) (some a f) _ _ (h.0 f)
      (λ v. agrees_side _ _ _ _ (agrees_bound x (any b) (some b) h.1 f) (agrees_bound y (any c) (some c) h.2 f) v)

  of_layer : (x : Nnrc-F Nnrc) → Held Of x → Of (roll-Nnrc x)
  of_layer x h f =
      let at_any : any (roll-Nnrc x) ≡ form any_size w (map-Nnrc Nnrc Meaning any x) =
      fold-roll-Nnrc Meaning (form any_size w) x in
      let at_some : some (roll-Nnrc x) ≡ form (within low high) w (map-Nnrc Nnrc Meaning some x) =
      fold-roll-Nnrc Meaning (form (within low high) w) x in
      rw (at_any, at_some) (layer x h f)

  pub agrees_nnrc : (e : Nnrc) → Of e
  agrees_nnrc = nnrc_ind Of of_layer

-- ---- variables

same_number : (x : ℕ) → IsTrue (x == x)
same_number x = grind (arith, nat_tests)

equal_number : (x y : ℕ) → (x == y) ≡ true → x ≡ y
equal_number x y h = grind (arith, nat_tests)

same_tests : (z x y : ℕ) → (z == x) ≡ true → (z == y) ≡ (x == y)
same_tests z x y h = ap (λ (n : ℕ). n == y) (equal_number z x h)

other_test : (z x y : ℕ) → (z == x) ≡ false → (z == y) ≡ true → (x == y) ≡ false
other_test z x y h k = grind (arith, nat_tests)

look_cond : {T : Type 0} (t : Bool) (y : ℕ) (f g : List (ℕ × T)) → look y (cond t f g) ≡ cond t (look y f) (look y g)
look_cond true y f g = refl
look_cond false y f g = refl

-- one pair more: t, whether it is replaced; u and r, whether the new and the old one are looked for
look_more : {T : Type 0} (t u r : Bool) (d e : T) (o n : Option T) → (t ≡ true → r ≡ u)
    → (t ≡ false → r ≡ true → u ≡ false) → n ≡ cond u (Some d) o
    → cond t (cond u (Some d) o) (cond r (Some e) n) ≡ cond u (Some d) (cond r (Some e) o)
look_more true true r d e o n h k l = refl
look_more true false true d e o n h k l = let no : true ≡ false = h refl in absurd (cc)
look_more true false false d e o n h k l = refl
look_more false true true d e o n h k l = let no : true ≡ false = k refl refl in absurd (cc)
look_more false true false d e o n h k l = l
look_more false false true d e o n h k l = refl
look_more false false false d e o n h k l = l

-- a value that is put is found at its variable, and the others stay
pub look_put : {T : Type 0} (y x : ℕ) (d : T) (f : List (ℕ × T))
    → look y (put x d f) ≡ cond (x == y) (Some d) (look y f)
look_put y x d [] = refl
look_put y x d (p ∷ ps) =
    look_cond (p.0 == x) y ((x, d) ∷ ps) (p ∷ put x d ps)
    ∙ look_more (p.0 == x) (x == y) (p.0 == y) d p.1 (look y ps) (look y (put x d ps)) (same_tests p.0 x y)
    (other_test p.0 x y) (look_put y x d ps)

not_put : (t : Bool) (d : Datum) (o : Option Datum) → t ≡ false → cond t (Some d) o ≡ o
not_put true d o h = absurd (cc)
not_put false d o h = refl

-- ---- free variables

-- the values of the variables that are free are the same
abbrev pub SameWhere : (ℕ → Bool) → Values → Values → Type 0
SameWhere free f g = (x : ℕ) → IsTrue (free x) → look x f ≡ look x g

same_test : (t : Bool) (d : Datum) (o p : Option Datum) → (t ≡ false → o ≡ p) → cond t (Some d) o ≡ cond t (Some d) p
same_test true d o p h = refl
same_test false d o p h = h refl

left_true : (a b : Bool) → IsTrue a → IsTrue (a || b)
left_true true b h = refl
left_true false b h = absurd (cc)

right_true : (a b : Bool) → IsTrue b → IsTrue (a || b)
right_true true b h = refl
right_true false b h = h

under_true : (t b : Bool) → t ≡ false → IsTrue b → IsTrue (not t && b)
under_true false b e h = h
under_true true b e h = absurd (cc)

module _ (a b : ℕ → Bool) (f g : Values) (s : SameWhere (λ v. a v || b v) f g) where
  left_same : SameWhere a f g
  left_same v k = s v (left_true (a v) (b v) k)

  right_same : SameWhere b f g
  right_same v k = s v (right_true (a v) (b v) k)

-- what is the same outside of a binder is the same under it
under : (x : ℕ) (b : ℕ → Bool) (f g : Values) (d : Datum) → SameWhere (free_under x b) f g
    → SameWhere b ((x, d) ∷ f) ((x, d) ∷ g)
under x b f g d h y k = same_test (x == y) d (look y f) (look y g) (λ e. h y (under_true (x == y) (b y) e k))

-- the outcome is the same where the values of free variables are
abbrev pub Reads : (ℕ → Bool) → Meaning → Type 0
Reads free p = (f g : Values) → SameWhere free f g → p f ≡ p g

same_then : {A B : Type 0} (o p : Outcome A) (r s : A → Outcome B) → o ≡ p → ((v : A) → r v ≡ s v)
    → and_then o r ≡ and_then p s
same_then o p r s e h = ap (λ (q : Outcome _). and_then q r) e ∙ ap (and_then p) (λ i v. h v i)

same_choice : (t : Bool) (a b c d : Outcome Datum) → a ≡ c → b ≡ d → cond t a b ≡ cond t c d
same_choice true a b c d h k = h
same_choice false a b c d h k = k

same_at : (f g h k : Datum → Outcome Datum) → ((x : Datum) → f x ≡ h x) → ((x : Datum) → g x ≡ k x)
    → (d : Datum-F Datum) → side_at f g d ≡ side_at h k d
same_at f g h k p q (Datum-F.Left d) = p d
same_at f g h k p q (Datum-F.Right d) = q d
same_at f g h k p q _ = refl

module _ (x : ℕ) (b : ℕ → Bool) (p : Meaning) (r : Reads b p) (f g : Values) (h : SameWhere (free_under x b) f g) where
  reads_bound : (v : Datum) → bound_to x p f v ≡ bound_to x p g v
  unfolding bound_to
  reads_bound v = r ((x, v) ∷ f) ((x, v) ∷ g) (under x b f g v h)

  reads_for : (v : Datum) → for_of x p f v ≡ for_of x p g v
  unfolding for_of
  reads_for v =
      ap (λ (k : Datum → Outcome Datum). and_then (as_coll v) (λ ds. bag (each k ds))) (λ i u. reads_bound u i)

module _ (m : Mode) (w : WorldOf) where
  abbrev means : Nnrc → Meaning
  means e = nnrc m w e

  abbrev frees : Nnrc → ℕ → Bool
  frees e v = free_in v e

  abbrev OfReads : Nnrc → Type 0
  OfReads e = Reads (frees e) (means e)

  reads_layer : (x : Nnrc-F Nnrc) → Held OfReads x
      → Reads (free (map-Nnrc Nnrc (ℕ → Bool) frees x)) (form m w (map-Nnrc Nnrc Meaning means x))
  reads_layer (Nnrc-F.Var x) h f g s = ap found (s x (same_number x))
  reads_layer (Nnrc-F.Const d) h f g s = refl
  reads_layer (Nnrc-F.Global name) h f g s = refl
  reads_layer (Nnrc-F.Unary op a) h f g s = ap (λ o. and_then o (unary m w.classes op)) (h f g s)
  reads_layer (Nnrc-F.Binary op a b) h f g s =
      same_then (means a f) (means a g) _ _ (h.0 f g (left_same (frees a) (frees b) f g s))
      (λ u. ap (λ o. and_then o (λ v. binary m op u v)) (h.1 f g (right_same (frees a) (frees b) f g s)))
  reads_layer (Nnrc-F.Let x a b) h f g s =
      let outer = free_under x (frees b) in
      same_then (means a f) (means a g) _ _ (h.0 f g (left_same (frees a) outer f g s))
      (reads_bound x (frees b) (means b) h.1 f g (right_same (frees a) outer f g s))
  reads_layer (Nnrc-F.For x a b) h f g s =
      let outer = free_under x (frees b) in
      same_then (means a f) (means a g) _ _ (h.0 f g (left_same (frees a) outer f g s))
      (reads_for x (frees b) (means b) h.1 f g (right_same (frees a) outer f g s))
  reads_layer (Nnrc-F.If a b c) h f g s =
      let branches : ℕ → Bool = λ v. frees b v || frees c v in
      let in_branches = right_same (frees a) branches f g s in
      same_then (truth (means a f)) (truth (means a g)) _ _ (ap truth (h.0 f g (left_same (frees a) branches f g s)))
      (λ holds. same_choice holds (means b f) (means c f) (means b g) (means c g)
      (h.1 f g (left_same (frees b) (frees c) f g in_branches))
      (h.2 f g (right_same (frees b) (frees c) f g in_branches)))
  reads_layer (Nnrc-F.Either a x b y c) h f g s =
      let left = free_under x (frees b) in
      let right = free_under y (frees c) in
      let sides : ℕ → Bool = λ v. left v || right v in
      let in_sides = right_same (frees a) sides f g s in
      same_then (means a f) (means a g) _ _ (h.0 f g (left_same (frees a) sides f g s))
      (λ v. same_at _ _ _ _ (reads_bound x (frees b) (means b) h.1 f g (left_same left right f g in_sides))
      (reads_bound y (frees c) (means c) h.2 f g (right_same left right f g in_sides)) (out-Datum v))

  of_reads : (x : Nnrc-F Nnrc) → Held OfReads x → OfReads (roll-Nnrc x)
  of_reads x h f g s =
      let outcomes : means (roll-Nnrc x) ≡ form m w (map-Nnrc Nnrc Meaning means x) =
      fold-roll-Nnrc Meaning (form m w) x in
      let variables : frees (roll-Nnrc x) ≡ free (map-Nnrc Nnrc (ℕ → Bool) frees x) =
      fold-roll-Nnrc (ℕ → Bool) free x in
      rw outcomes (reads_layer x h f g (subst (λ (b : ℕ → Bool). SameWhere b f g) variables s))

  apart : (t p q : Bool) → (t ≡ true → p ≡ q) → p ≡ false → IsTrue q → t ≡ false
  apart true p q h e k = let same : p ≡ q = h refl in absurd (cc)
  apart false p q h e k = refl

  -- a variable that is free is another than one that is not
  test_apart : (e : Nnrc) (x y : ℕ) → free_in x e ≡ false → IsTrue (free_in y e) → (x == y) ≡ false
  test_apart e x y = apart (x == y) (free_in x e) (free_in y e) (λ h. ap (frees e) (equal_number x y h))

  -- a tree reads its free variables alone
  pub reads_nnrc : (e : Nnrc) → OfReads e
  reads_nnrc = nnrc_ind OfReads of_reads

  -- the value of a variable that is not free in a tree changes no outcome of it
  pub unread : (e : Nnrc) (x : ℕ) (d : Datum) (f : Values) → free_in x e ≡ false
      → nnrc m w e (put x d f) ≡ nnrc m w e f
  unread e x d f none =
      reads_nnrc e (put x d f) f (λ y k. look_put y x d f ∙ not_put (x == y) d (look y f) (test_apart e x y none k))
