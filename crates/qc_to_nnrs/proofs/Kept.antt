-- The program for a tree of the calculus keeps its value.
use Rattle.std.proofs.Common.{◌≡◌, ◌==◌, ◌<◌, ◌≤◌, ℕ, ◌+◌, Bool, true, false, cond, List, [], ◌∷◌, ◌++◌, Option, Some}
use Rattle.std.proofs.Common.{refl, sym, ap, ◌∙◌, arith, subst}
use Rattle.qc_data.specs.Kinds.{as_coll}
use Rattle.qc_data.specs.Outcome.{Mode, Outcome, Value, Halts, and_then, gather, each, alone, IsKept}
use Rattle.qc_data.specs.declared.data.Datum.{Datum}
use Rattle.qc_data.specs.declared.data.Datum.TheViews.{out-Datum}
use Rattle.qc_data.specs.declared.data.Datum.TheVariants.{Coll}
use Rattle.qc_ops.specs.declared.op.Unary.{Unary}
use Rattle.qc_ops.specs.declared.op.Binary.{Binary}
use Rattle.qc_ops.specs.Operands.{as_bool, bag, found}
use Rattle.qc_ops.specs.Operators.{unary, binary}
use Rattle.qc_ops.specs.Sides.{by_side}
use Rattle.qc_types.specs.Schemas.{WorldOf, global}
use Rattle.qc_trees.specs.Branches.{truth}
use Rattle.qc_nnrc.specs.declared.tree.Nnrc.{Nnrc}
use Rattle.qc_nnrc.specs.declared.tree.Nnrc.TheOpen.{Nnrc-F}
use Rattle.qc_nnrc.specs.declared.tree.Nnrc.TheViews.{roll-Nnrc}
use Rattle.qc_nnrc.specs.declared.tree.Nnrc.TheFolds.{fold-roll-Nnrc, map-Nnrc}
use Rattle.qc_nnrc.specs.Meaning as calculus
use Rattle.qc_nnrc.specs.Meaning.{Values, bound_to, form, nnrc}
use Rattle.qc_nnrc.specs.Variables.{look}
use Rattle.qc_nnrc.specs.inner.Induction.{Held, nnrc_ind}
use Rattle.qc_nnrs.specs.declared.tree.NnrsExpr.{NnrsExpr}
use Rattle.qc_nnrs.specs.declared.tree.NnrsExpr.TheVariants as expr
use Rattle.qc_nnrs.specs.declared.tree.NnrsStmt.{NnrsStmt}
use Rattle.qc_nnrs.specs.declared.tree.NnrsStmt.TheVariants as stmt
use Rattle.qc_nnrs.specs.Meaning as statements
use Rattle.qc_nnrs.specs.Meaning.{Class, Reads, Sets, Pushes, Frame, Writes, Reading, Meaning, class_of, value_in}
use Rattle.qc_nnrs.specs.Meaning.{set_at, push_at, written, without, last_of, reads_as, handed_on, expr_form, nnrs}
use Rattle.qc_to_nnrs.specs.declared.steps.Step.{Step}
use Rattle.qc_to_nnrs.specs.declared.steps.Step.TheVariants as step
use Rattle.qc_to_nnrs.specs.inner.Statements.{Renaming, renamed, Made, Lowering, after, with_step, setting}
use Rattle.qc_to_nnrs.specs.inner.Statements.{pushing, loop, choice, sides, let_with, for_with, if_with, either_with}
use Rattle.qc_to_nnrs.specs.inner.Statements.{lower_form, lower, lowered}
use Rattle.qc_to_nnrs.proofs.Outcomes.{goes_on, same_outcome, value_is, value_chosen, value_at}
use Rattle.qc_to_nnrs.proofs.Outcomes.{found_is, truth_of, kept_where}
use Rattle.qc_to_nnrs.proofs.StatementForms.{of-Var, of-Const, of-Global, of-Unary, of-Binary, of-Let, of-LetMut}
use Rattle.qc_to_nnrs.proofs.StatementForms.{of-LetColl, of-Set, of-Push, of-For, of-If, of-Either}
use Rattle.qc_to_nnrs.proofs.StepLaws.{same_number, here, there, Same, same_itself, same_under, Ends, Binds, ends_leaf}
use Rattle.qc_to_nnrs.proofs.StepLaws.{ends_as, ends_step, ends_behind, ends_bound}

-- ---- variables

-- a variable that is read has the value
abbrev read : Datum → Class
read d = Reads (Some d)

-- each variable of the tree that has a value is in the program one below n that is read as this value
pub record Holds (f : Values) (g : Frame) (r : Renaming) (n : ℕ) : Type 0 where
  pub reads : (y : ℕ) (d : Datum) → look y f ≡ Some d → class_of (renamed y r) g ≡ Some (read d)
  pub below : (y : ℕ) (d : Datum) → look y f ≡ Some d → renamed y r < n

holds_later : (f : Values) (g h : Frame) (r : Renaming) (n k : ℕ) → n ≤ k → Same n g h → Holds f g r n → Holds f h r k
holds_later f g h r n k le same holds = record {
  reads = λ y d e. same (renamed y r) (holds.below y d e) ∙ holds.reads y d e;
  below = λ y d e. omega (arith, le, holds.below y d e);
}

read_under : (t : Bool) (v d : Datum) (o : Option Datum) (k j : ℕ) (g : Frame) → cond t (Some v) o ≡ Some d
    → (o ≡ Some d → j < k) → (o ≡ Some d → class_of j g ≡ Some (read d))
    → class_of (cond t k j) ((k, read v) ∷ g) ≡ Some (read d)
read_under true v d o k j g e lt is = here k (read v) g ∙ ap (λ (p : Option Datum). Some (Reads p)) e
read_under false v d o k j g e lt is = there j k (read v) g (lt e) ∙ is e

below_under : (t : Bool) (v d : Datum) (o : Option Datum) (k j n : ℕ) → cond t (Some v) o ≡ Some d → k < n
    → (o ≡ Some d → j < k) → cond t k j < n
below_under true v d o k j n e le lt = le
below_under false v d o k j n e le lt = omega (arith, le, lt e)

-- a new variable at k
holds_under : (f : Values) (g : Frame) (r : Renaming) (y k n : ℕ) (v : Datum) → k < n → Holds f g r k
    → Holds ((y, v) ∷ f) ((k, read v) ∷ g) ((y, k) ∷ r) n
holds_under f g r y k n v lt h = record {
  reads = λ z d e. read_under (y == z) v d (look z f) k (renamed z r) g e (h.below z d) (h.reads z d);
  below = λ z d e. below_under (y == z) v d (look z f) k (renamed z r) n e lt (h.below z d);
}

-- ---- writes

-- the values written to k
abbrev writes : ℕ → List Datum → Writes
writes k [] = []
writes k (d ∷ ds) = (k, d) ∷ writes k ds

written_all : (k : ℕ) (ds : List Datum) → written k (writes k ds) ≡ ds
written_all k [] = refl
written_all k (d ∷ ds) =
    let rest : List Datum = written k (writes k ds) in
    ap (λ (t : Bool). cond t (d ∷ rest) rest) (same_number k) ∙ ap (λ (l : List Datum). d ∷ l) (written_all k ds)

without_all : (k : ℕ) (ds : List Datum) → without k (writes k ds) ≡ []
without_all k [] = refl
without_all k (d ∷ ds) =
    let rest : Writes = without k (writes k ds) in
    ap (λ (t : Bool). cond t rest ((k, d) ∷ rest)) (same_number k) ∙ without_all k ds

-- a member more: what it writes is what its value is
write_more : (k : ℕ) (o : Outcome Datum) (all : Outcome (List Datum)) (r rest : Outcome Writes) (ds : List Datum)
    → ((d : Datum) → o ≡ Value d → r ≡ Value ((k, d) ∷ []))
    → ((es : List Datum) → all ≡ Value es → rest ≡ Value (writes k es))
    → and_then (alone o) (λ ys. and_then all (λ zs. Value (ys ++ zs))) ≡ Value ds
    → and_then r (λ us. and_then rest (λ vs. Value (us ++ vs))) ≡ Value (writes k ds)
write_more k (Value d) (Value es) r rest ds h g e =
    let is : d ∷ es ≡ ds = cc in rw (h d refl, g es refl) (ap (λ (l : List Datum). Value (writes k l)) is)
write_more k (Value d) (Halts why) r rest ds h g e = absurd (cc)
write_more k (Halts why) all r rest ds h g e = absurd (cc)

-- what the members write, in order
write_all : (k : ℕ) (p : Datum → Outcome Datum) (q : Datum → Outcome Writes)
    → ((u d : Datum) → p u ≡ Value d → q u ≡ Value ((k, d) ∷ [])) → (us ds : List Datum) → each p us ≡ Value ds
    → gather q us ≡ Value (writes k ds)
write_all k p q h [] ds e = let none : [] ≡ ds = cc in ap (λ (l : List Datum). Value (writes k l)) none
write_all k p q h (u ∷ us) ds e =
    write_more k (p u) (each p us) (q u) (gather q us) ds (h u) (λ es. write_all k p q h us es) e

module _ (m : Mode) (w : WorldOf) where
  -- ---- expressions

  abbrev value : NnrsExpr → Frame → Outcome Datum
  value x g = statements.expr m w x g

  value_as : (p q : Reading) (g : Frame) → p ≡ q → p g ≡ q g
  value_as p q g e = ap (λ (r : Reading). r g) e

  value-Var : (x : ℕ) (g : Frame) → value (expr.Var x) g ≡ found (value_in (class_of x g))
  value-Var x g = value_as _ _ g (of-Var Reading (expr_form m w) x)

  value-Const : (d : Datum) (g : Frame) → value (expr.Const d) g ≡ Value d
  value-Const d g = value_as _ _ g (of-Const Reading (expr_form m w) d)

  value-Global : (name : List ℕ) (g : Frame) → value (expr.Global name) g ≡ found (global name w.datum)
  value-Global name g = value_as _ _ g (of-Global Reading (expr_form m w) name)

  value-Unary : (op : Unary) (a : NnrsExpr) (g : Frame)
      → value (expr.Unary op a) g ≡ and_then (value a g) (unary m w.classes op)
  value-Unary op a g = value_as _ _ g (of-Unary Reading (expr_form m w) op a)

  value-Binary : (op : Binary) (a b : NnrsExpr) (g : Frame)
      → value (expr.Binary op a b) g ≡ and_then (value a g) (λ u. and_then (value b g) (λ v. binary m op u v))
  value-Binary op a b g = value_as _ _ g (of-Binary Reading (expr_form m w) op a b)

  -- the expression has the value
  abbrev Has : Datum → NnrsExpr → Frame → Type 0
  Has d x g = value x g ≡ Value d

  has_read : (k : ℕ) (d : Datum) (g : Frame) → class_of k g ≡ Some (read d) → Has d (expr.Var k) g
  has_read k d g e = value-Var k g ∙ ap (λ (c : Option Class). found (value_in c)) e

  -- ---- statements

  abbrev run : NnrsStmt → Frame → Outcome Writes
  run s g = statements.stmt m w s g

  run_as : (p q : Meaning) (g : Frame) → p ≡ q → p g ≡ q g
  run_as p q g e = ap (λ (r : Meaning). r g) e

  abbrev runs : NnrsStmt → Meaning
  runs s = statements.stmt m w s

  run-Let : (n : ℕ) (x : NnrsExpr) (s : NnrsStmt) (g : Frame)
      → run (stmt.Let n x s) g ≡ and_then (value x g) (reads_as n (runs s) g)
  run-Let n x s g = run_as _ _ g (of-Let Meaning (statements.form m w) n x s)

  run-LetMut : (n : ℕ) (a s : NnrsStmt) (g : Frame)
      → run (stmt.LetMut n a s) g ≡ handed_on n Sets last_of (runs a) (runs s) g
  run-LetMut n a s g = run_as _ _ g (of-LetMut Meaning (statements.form m w) n a s)

  run-LetColl : (n : ℕ) (a s : NnrsStmt) (g : Frame)
      → run (stmt.LetColl n a s) g ≡ handed_on n Pushes (λ ds. Some (Coll ds)) (runs a) (runs s) g
  run-LetColl n a s g = run_as _ _ g (of-LetColl Meaning (statements.form m w) n a s)

  run-Set : (n : ℕ) (x : NnrsExpr) (g : Frame)
      → run (stmt.Set n x) g ≡ and_then (value x g) (λ d. set_at n d (class_of n g))
  run-Set n x g = run_as _ _ g (of-Set Meaning (statements.form m w) n x)

  run-Push : (n : ℕ) (x : NnrsExpr) (g : Frame)
      → run (stmt.Push n x) g ≡ and_then (value x g) (λ d. push_at n d (class_of n g))
  run-Push n x g = run_as _ _ g (of-Push Meaning (statements.form m w) n x)

  run-For : (n : ℕ) (x : NnrsExpr) (s : NnrsStmt) (g : Frame)
      → run (stmt.For n x s) g ≡ and_then (value x g) (statements.for_of n (runs s) g)
  run-For n x s g = run_as _ _ g (of-For Meaning (statements.form m w) n x s)

  run-If : (x : NnrsExpr) (a b : NnrsStmt) (g : Frame)
      → run (stmt.If x a b) g ≡ and_then (truth (value x g)) (λ holds. cond holds (run a g) (run b g))
  run-If x a b g = run_as _ _ g (of-If Meaning (statements.form m w) x a b)

  run-Either : (x : NnrsExpr) (n : ℕ) (a : NnrsStmt) (k : ℕ) (b : NnrsStmt) (g : Frame) → run (stmt.Either x n a k b) g
      ≡ and_then (value x g) (by_side (reads_as n (runs a) g) (reads_as k (runs b) g))
  run-Either x n a k b g = run_as _ _ g (of-Either Meaning (statements.form m w) x n a k b)

  -- ---- steps

  abbrev Kept : ℕ → Frame → Made → Datum → Type 0
  Kept n g t d = Ends (Outcome Writes) run (Has d) n g t

  -- the step binds k to the value
  abbrev Stands : ℕ → Datum → Frame → Step → Type 0
  Stands k d g b = Binds (Outcome Writes) run k (read d) g b

  value_stands : (k : ℕ) (x : NnrsExpr) (d : Datum) (g : Frame) → Has d x g → Stands k d g (step.Value k x)
  unfolding reads_as
  value_stands k x d g e s = run-Let k x s g ∙ ap (λ (o : Outcome Datum). and_then o (reads_as k (runs s) g)) e

  -- what the first part writes is what the variable is read as in the second
  handed : (k : ℕ) (c : Class) (h : List Datum → Option Datum) (a b : Meaning) (g : Frame) (ds : List Datum) (d : Datum)
      → a ((k, c) ∷ g) ≡ Value (writes k ds) → h ds ≡ Some d → handed_on k c h a b g ≡ b ((k, read d) ∷ g)
  unfolding handed_on
  handed k c h a b g ds d e is =
      let us : Writes = writes k ds in
      ap (λ (o : Outcome Writes). and_then o (λ vs.
      and_then (b ((k, Reads (h (written k vs))) ∷ g)) (λ ws. Value (without k vs ++ ws)))) e
      ∙ ap (λ (l : Writes). and_then (b ((k, Reads (h (written k us))) ∷ g)) (λ ws. Value (l ++ ws))) (without_all k ds)
      ∙ same_outcome (b ((k, Reads (h (written k us))) ∷ g))
      ∙ ap (λ (l : List Datum). b ((k, Reads (h l)) ∷ g)) (written_all k ds)
      ∙ ap (λ (o : Option Datum). b ((k, Reads o) ∷ g)) is

  assigned_stands : (k : ℕ) (a : NnrsStmt) (d : Datum) (g : Frame) → run a ((k, Sets) ∷ g) ≡ Value ((k, d) ∷ [])
      → Stands k d g (step.Assigned k a)
  assigned_stands k a d g e s =
      run-LetMut k a s g ∙ handed k Sets last_of (runs a) (runs s) g (d ∷ []) d e refl

  collected_stands : (k : ℕ) (a : NnrsStmt) (ds : List Datum) (g : Frame)
      → run a ((k, Pushes) ∷ g) ≡ Value (writes k ds) → Stands k (Coll ds) g (step.Collected k a)
  collected_stands k a ds g e s =
      run-LetColl k a s g ∙ handed k Pushes (λ ds. Some (Coll ds)) (runs a) (runs s) g ds (Coll ds) e refl

  -- the variable that a step binds
  kept_step : (n k : ℕ) (g : Frame) (t : Made) (u d : Datum) (b : Step) (e : Kept n g t u) → k ≡ after n t.0
      → Stands k d e.frame b → Kept n g (with_step t.0 b, expr.Var k) d
  kept_step n k g t u d b e at stands =
      ends_step (Outcome Writes) run (Has d) n k (read d) g e.frame t.0 b (expr.Var k) at e.leads stands
      (λ i is. has_read k d i is)

  -- ---- what writes the value of a tree

  -- k is set to it, or it is pushed to k
  set_value : (k n : ℕ) (g : Frame) (t : Made) (d : Datum) → k < n → class_of k g ≡ Some Sets → Kept n g t d
      → run (setting k t) g ≡ Value ((k, d) ∷ [])
  set_value k n g t d lt is e =
      let h = e.frame in
      e.leads.runs (stmt.Set k t.1) ∙ run-Set k t.1 h
      ∙ ap (λ (o : Outcome Datum). and_then o (λ v. set_at k v (class_of k h))) (e.is h (same_itself (after n t.0) h))
      ∙ ap (set_at k d) (e.leads.same k lt ∙ is)

  push_value : (k n : ℕ) (g : Frame) (t : Made) (d : Datum) → k < n → class_of k g ≡ Some Pushes → Kept n g t d
      → run (pushing k t) g ≡ Value ((k, d) ∷ [])
  push_value k n g t d lt is e =
      let h = e.frame in
      e.leads.runs (stmt.Push k t.1) ∙ run-Push k t.1 h
      ∙ ap (λ (o : Outcome Datum). and_then o (λ v. push_at k v (class_of k h))) (e.is h (same_itself (after n t.0) h))
      ∙ ap (push_at k d) (e.leads.same k lt ∙ is)

  -- ---- all trees

  abbrev means : Nnrc → calculus.Meaning
  means e = nnrc m w e

  abbrev Of : Nnrc → Type 0
  Of e = (f : Values) (g : Frame) (r : Renaming) (n : ℕ) (d : Datum) → Holds f g r n → means e f ≡ Value d
      → Kept n g (lower e r n) d

  -- a part behind the number k of a variable that is set or pushed to, and behind that of a variable of its own
  module _ (f : Values) (g : Frame) (r : Renaming) (k : ℕ) (c : Class) (holds : Holds f g r k) where
    beside_holds : Holds f ((k, c) ∷ g) r (k + 1)
    beside_holds =
        holds_later f g ((k, c) ∷ g) r k (k + 1) (omega arith)
        (same_under k k c g g (omega arith) (same_itself k g)) holds

    inside_holds : (y : ℕ) (v : Datum) → Holds ((y, v) ∷ f) ((k + 1, read v) ∷ (k, c) ∷ g) ((y, k + 1) ∷ r) (k + 2)
    inside_holds y v = holds_under f ((k, c) ∷ g) r y (k + 1) (k + 2) v (omega arith) beside_holds

    inside_class : (v : Datum) → class_of k ((k + 1, read v) ∷ (k, c) ∷ g) ≡ Some c
    inside_class v = there k (k + 1) (read v) ((k, c) ∷ g) (omega arith) ∙ here k c g

  -- what a body sets k to, with the value as its variable
  side_value : (y : ℕ) (b : Nnrc) (f : Values) (g : Frame) (r : Renaming) (k : ℕ) (v d : Datum) → Of b → Holds f g r k
      → bound_to y (means b) f v ≡ Value d
      → reads_as (k + 1) (runs (setting k (lower b ((y, k + 1) ∷ r) (k + 2)))) ((k, Sets) ∷ g) v ≡ Value ((k, d) ∷ [])
  unfolding bound_to reads_as
  side_value y b f g r k v d of holds e =
      let h : Frame = (k + 1, read v) ∷ (k, Sets) ∷ g in
      set_value k (k + 2) h (lower b ((y, k + 1) ∷ r) (k + 2)) d (omega arith) (inside_class f g r k Sets holds v)
      (of ((y, v) ∷ f) h ((y, k + 1) ∷ r) (k + 2) d (inside_holds f g r k Sets holds y v) e)

  -- and what it pushes to k
  member_value : (y : ℕ) (b : Nnrc) (f : Values) (g : Frame) (r : Renaming) (k : ℕ) → Of b → Holds f g r k
      → (v d : Datum) → bound_to y (means b) f v ≡ Value d
      → reads_as (k + 1) (runs (pushing k (lower b ((y, k + 1) ∷ r) (k + 2)))) ((k, Pushes) ∷ g) v
      ≡ Value ((k, d) ∷ [])
  unfolding bound_to reads_as
  member_value y b f g r k of holds v d e =
      let h : Frame = (k + 1, read v) ∷ (k, Pushes) ∷ g in
      push_value k (k + 2) h (lower b ((y, k + 1) ∷ r) (k + 2)) d (omega arith) (inside_class f g r k Pushes holds v)
      (of ((y, v) ∷ f) h ((y, k + 1) ∷ r) (k + 2) d (inside_holds f g r k Pushes holds y v) e)

  -- the value of a branch
  branch_value : (b : Nnrc) (f : Values) (g : Frame) (r : Renaming) (k : ℕ) (d : Datum) → Of b → Holds f g r k
      → means b f ≡ Value d → run (setting k (lower b r (k + 1))) ((k, Sets) ∷ g) ≡ Value ((k, d) ∷ [])
  branch_value b f g r k d of holds e =
      set_value k (k + 1) ((k, Sets) ∷ g) (lower b r (k + 1)) d (omega arith) (here k Sets g)
      (of f ((k, Sets) ∷ g) r (k + 1) d (beside_holds f g r k Sets holds) e)

  -- what is read of a tree beside the number that is set or pushed to
  abbrev Beside : ℕ → Class → Frame → NnrsExpr → Datum → Type 0
  Beside k c g x v = Has v x ((k, c) ∷ g)

  loop_value : (y : ℕ) (b : Nnrc) (f : Values) (g : Frame) (r : Renaming) (k : ℕ) (x : NnrsExpr) (v : Datum)
      (us ds : List Datum) → Of b → Holds f g r k → Beside k Pushes g x v → as_coll v ≡ Value us
      → each (bound_to y (means b) f) us ≡ Value ds
      → run (loop k x (lower b ((y, k + 1) ∷ r) (k + 2))) ((k, Pushes) ∷ g) ≡ Value (writes k ds)
  unfolding statements.for_of
  loop_value y b f g r k x v us ds of holds is members e =
      let s : NnrsStmt = pushing k (lower b ((y, k + 1) ∷ r) (k + 2)) in
      let h : Frame = (k, Pushes) ∷ g in
      run-For (k + 1) x s h
      ∙ ap (λ (o : Outcome Datum). and_then o (statements.for_of (k + 1) (runs s) h)) is
      ∙ ap (λ (o : Outcome (List Datum)). and_then o (gather (reads_as (k + 1) (runs s) h))) members
      ∙ write_all k (bound_to y (means b) f) (reads_as (k + 1) (runs s) h) (member_value y b f g r k of holds) us ds e

  choice_value : (b c : Nnrc) (f : Values) (g : Frame) (r : Renaming) (k : ℕ) (x : NnrsExpr) (v d : Datum) (t : Bool)
      → Of b → Of c → Holds f g r k → Beside k Sets g x v → as_bool v ≡ Value t
      → cond t (means b f) (means c f) ≡ Value d
      → run (choice k x (lower b r (k + 1)) (lower c r (k + 1))) ((k, Sets) ∷ g) ≡ Value ((k, d) ∷ [])
  unfolding truth
  choice_value b c f g r k x v d t p q holds is test e =
      let h : Frame = (k, Sets) ∷ g in
      let yes : Outcome Writes = run (setting k (lower b r (k + 1))) h in
      let no : Outcome Writes = run (setting k (lower c r (k + 1))) h in
      run-If x (setting k (lower b r (k + 1))) (setting k (lower c r (k + 1))) h
      ∙ ap (λ (o : Outcome Datum). and_then (and_then o as_bool) (λ holds. cond holds yes no)) is
      ∙ ap (λ (o : Outcome Bool). and_then o (λ holds. cond holds yes no)) test
      ∙ value_chosen t (means b f) (means c f) yes no d ((k, d) ∷ []) (branch_value b f g r k d p holds)
      (branch_value c f g r k d q holds) e

  sides_value : (y : ℕ) (b : Nnrc) (z : ℕ) (c : Nnrc) (f : Values) (g : Frame) (r : Renaming) (k : ℕ) (x : NnrsExpr)
      (v d : Datum) → Of b → Of c → Holds f g r k → Beside k Sets g x v
      → by_side (bound_to y (means b) f) (bound_to z (means c) f) v ≡ Value d
      → run (sides k x (lower b ((y, k + 1) ∷ r) (k + 2)) (lower c ((z, k + 1) ∷ r) (k + 2))) ((k, Sets) ∷ g)
      ≡ Value ((k, d) ∷ [])
  sides_value y b z c f g r k x v d p q holds is e =
      let h : Frame = (k, Sets) ∷ g in
      let left : NnrsStmt = setting k (lower b ((y, k + 1) ∷ r) (k + 2)) in
      let right : NnrsStmt = setting k (lower c ((z, k + 1) ∷ r) (k + 2)) in
      run-Either x (k + 1) left (k + 1) right h
      ∙ ap (λ (o : Outcome Datum). and_then o
      (by_side (reads_as (k + 1) (runs left) h) (reads_as (k + 1) (runs right) h))) is
      ∙ value_at (bound_to y (means b) f) (bound_to z (means c) f) (reads_as (k + 1) (runs left) h)
      (reads_as (k + 1) (runs right) h) d ((k, d) ∷ []) (λ u. side_value y b f g r k u d p holds)
      (λ u. side_value z c f g r k u d q holds) (out-Datum v) e

  -- ---- forms with a first part

  module _ (f : Values) (g : Frame) (r : Renaming) (n : ℕ) (a : Made) (v : Datum) (holds : Holds f g r n)
      (e : Kept n g a v) where
    -- behind the steps of the first part
    later : Holds f e.frame r (after n a.0)
    later = holds_later f g e.frame r n (after n a.0) (omega arith) e.leads.same holds

    -- its value beside the number that is set or pushed to
    beside : (c : Class) → Beside (after n a.0) c e.frame a.1 v
    beside c =
        let k : ℕ = after n a.0 in
        e.is ((k, c) ∷ e.frame) (same_under k k c e.frame e.frame (omega arith) (same_itself k e.frame))

    kept_let : (y : ℕ) (b : Nnrc) (d : Datum) → Of b → bound_to y (means b) f v ≡ Value d
        → Kept n g (let_with y (lower b) r (after n a.0) a) d
    unfolding bound_to
    kept_let y b d of is =
        let k : ℕ = after n a.0 in
        ends_bound (Outcome Writes) run (Has d) n k (read v) g e.frame a.0 (step.Value k a.1)
        (lower b ((y, k) ∷ r) (k + 1)) refl e.leads
        (value_stands k a.1 v e.frame (e.is e.frame (same_itself k e.frame)))
        (of ((y, v) ∷ f) ((k, read v) ∷ e.frame) ((y, k) ∷ r) (k + 1) d
        (holds_under f e.frame r y k (k + 1) v (omega arith) later) is)

    kept_loop : (y : ℕ) (b : Nnrc) (us ds : List Datum) → Of b → as_coll v ≡ Value us
        → each (bound_to y (means b) f) us ≡ Value ds
        → Kept n g (for_with y (lower b) r (after n a.0) a) (Coll ds)
    kept_loop y b us ds of members is =
        let k : ℕ = after n a.0 in
        let s : NnrsStmt = loop k a.1 (lower b ((y, k + 1) ∷ r) (k + 2)) in
        kept_step n k g a v (Coll ds) (step.Collected k s) e refl
        (collected_stands k s ds e.frame
        (loop_value y b f e.frame r k a.1 v us ds of later (beside Pushes) members is))

    kept_for : (y : ℕ) (b : Nnrc) (d : Datum) → Of b → calculus.for_of y (means b) f v ≡ Value d
        → Kept n g (for_with y (lower b) r (after n a.0) a) d
    unfolding calculus.for_of
    kept_for y b d of is =
        let members = goes_on (as_coll v) (λ us. bag (each (bound_to y (means b) f) us)) d is in
        let values =
        goes_on (each (bound_to y (means b) f) members.value) (λ ds. Value (Coll ds)) d members.goes in
        subst (λ (u : Datum). Kept n g (for_with y (lower b) r (after n a.0) a) u)
        (value_is (Coll values.value) d values.goes)
        (kept_loop y b members.value values.value of members.first values.first)

    kept_if : (b c : Nnrc) (d : Datum) (t : Bool) → Of b → Of c → as_bool v ≡ Value t
        → cond t (means b f) (means c f) ≡ Value d → Kept n g (if_with (lower b) (lower c) r (after n a.0) a) d
    kept_if b c d t p q test is =
        let k : ℕ = after n a.0 in
        let s : NnrsStmt = choice k a.1 (lower b r (k + 1)) (lower c r (k + 1)) in
        kept_step n k g a v d (step.Assigned k s) e refl
        (assigned_stands k s d e.frame
        (choice_value b c f e.frame r k a.1 v d t p q later (beside Sets) test is))

    kept_either : (y : ℕ) (b : Nnrc) (z : ℕ) (c : Nnrc) (d : Datum) → Of b → Of c
        → by_side (bound_to y (means b) f) (bound_to z (means c) f) v ≡ Value d
        → Kept n g (either_with y (lower b) z (lower c) r (after n a.0) a) d
    kept_either y b z c d p q is =
        let k : ℕ = after n a.0 in
        let s : NnrsStmt = sides k a.1 (lower b ((y, k + 1) ∷ r) (k + 2)) (lower c ((z, k + 1) ∷ r) (k + 2)) in
        kept_step n k g a v d (step.Assigned k s) e refl
        (assigned_stands k s d e.frame
        (sides_value y b z c f e.frame r k a.1 v d p q later (beside Sets) is))

  -- ---- all forms

  layer : (x : Nnrc-F Nnrc) → Held Of x → (f : Values) (g : Frame) (r : Renaming) (n : ℕ) (d : Datum) → Holds f g r n
      → form m w (map-Nnrc Nnrc calculus.Meaning means x) f ≡ Value d
      → Kept n g (lower_form (map-Nnrc Nnrc Lowering lower x) r n) d
  layer (Nnrc-F.Var y) h f g r n d holds e =
      let is : look y f ≡ Some d = found_is (look y f) d e in
      ends_leaf (Outcome Writes) run (Has d) n g (expr.Var (renamed y r))
      (λ i same. has_read (renamed y r) d i (same (renamed y r) (holds.below y d is) ∙ holds.reads y d is))
  layer (Nnrc-F.Const c) h f g r n d holds e =
      ends_leaf (Outcome Writes) run (Has d) n g (expr.Const c) (λ i same. value-Const c i ∙ e)
  layer (Nnrc-F.Global name) h f g r n d holds e =
      ends_leaf (Outcome Writes) run (Has d) n g (expr.Global name) (λ i same. value-Global name i ∙ e)
  layer (Nnrc-F.Unary op a) h f g r n d holds e =
      let t : Made = lower a r n in
      let first = goes_on (means a f) (unary m w.classes op) d e in
      ends_as (Outcome Writes) run (Has first.value) (Has d) n g t (expr.Unary op t.1)
      (h f g r n first.value holds first.first) (λ i is.
      value-Unary op t.1 i ∙ ap (λ (o : Outcome Datum). and_then o (unary m w.classes op)) is ∙ first.goes)
  layer (Nnrc-F.Binary op a b) h f g r n d holds e =
      let t : Made = lower a r n in
      let k : ℕ = after n t.0 in
      let s : Made = lower b r k in
      let first = goes_on (means a f) (λ u. and_then (means b f) (λ v. binary m op u v)) d e in
      let second = goes_on (means b f) (λ v. binary m op first.value v) d first.goes in
      let left : Kept n g t first.value = h.0 f g r n first.value holds first.first in
      let right : Kept k left.frame s second.value =
      h.1 f left.frame r k second.value (later f g r n t first.value holds left) second.first in
      ends_behind (Outcome Writes) run (Has second.value) (Has d) n k g left.frame t.0 s (expr.Binary op t.1 s.1) refl
      left.leads right (λ i same is.
      value-Binary op t.1 s.1 i
      ∙ ap (λ (o : Outcome Datum). and_then o (λ u. and_then (value s.1 i) (λ v. binary m op u v))) (left.is i same)
      ∙ ap (λ (o : Outcome Datum). and_then o (λ v. binary m op first.value v)) is ∙ second.goes)
  layer (Nnrc-F.Let y a b) h f g r n d holds e =
      let first = goes_on (means a f) (bound_to y (means b) f) d e in
      kept_let f g r n (lower a r n) first.value holds (h.0 f g r n first.value holds first.first) y b d h.1 first.goes
  layer (Nnrc-F.For y a b) h f g r n d holds e =
      let first = goes_on (means a f) (calculus.for_of y (means b) f) d e in
      kept_for f g r n (lower a r n) first.value holds (h.0 f g r n first.value holds first.first) y b d h.1 first.goes
  layer (Nnrc-F.If a b c) h f g r n d holds e =
      let test = goes_on (truth (means a f)) (λ holds. cond holds (means b f) (means c f)) d e in
      let first = truth_of (means a f) test.value test.first in
      kept_if f g r n (lower a r n) first.value holds (h.0 f g r n first.value holds first.first) b c d test.value h.1
      h.2 first.goes test.goes
  layer (Nnrc-F.Either a y b z c) h f g r n d holds e =
      let first = goes_on (means a f) (by_side (bound_to y (means b) f) (bound_to z (means c) f)) d e in
      kept_either f g r n (lower a r n) first.value holds (h.0 f g r n first.value holds first.first) y b z c d h.1 h.2
      first.goes

  of_layer : (x : Nnrc-F Nnrc) → Held Of x → Of (roll-Nnrc x)
  of_layer x h f g r n d holds e =
      let outcomes : means (roll-Nnrc x) ≡ form m w (map-Nnrc Nnrc calculus.Meaning means x) =
      fold-roll-Nnrc calculus.Meaning (form m w) x in
      let trees : lower (roll-Nnrc x) ≡ lower_form (map-Nnrc Nnrc Lowering lower x) =
      fold-roll-Nnrc Lowering lower_form x in
      subst (λ (l : Lowering). Kept n g (l r n) d) (sym trees)
      (layer x h f g r n d holds (sym (ap (λ (p : calculus.Meaning). p f) outcomes) ∙ e))

  pub kept_tree : (e : Nnrc) → Of e
  kept_tree = nnrc_ind Of of_layer

  -- ---- a whole tree

  nothing_holds : (g : Frame) (n : ℕ) → Holds [] g [] n
  nothing_holds g n = record { reads = λ y d e. absurd (cc); below = λ y d e. absurd (cc) }

  whole_value : (e : Nnrc) (d : Datum) → means e [] ≡ Value d → nnrs m w (lowered e) ≡ Value d
  whole_value e d is =
      let g : Frame = (0, Sets) ∷ [] in
      ap (λ (o : Outcome Writes). and_then o (λ ws. found (last_of (written 0 ws))))
      (set_value 0 1 g (lower e [] 1) d (omega arith) (here 0 Sets [])
      (kept_tree e [] g [] 1 d (nothing_holds g 1) is))

  pub kept_whole : (e : Nnrc) → IsKept (nnrc m w e []) (nnrs m w (lowered e))
  kept_whole e = kept_where (means e []) (nnrs m w (lowered e)) (whole_value e)
