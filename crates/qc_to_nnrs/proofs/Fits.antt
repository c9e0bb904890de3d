-- The program for a tree of the calculus without free variables is well formed.
use Rattle.std.proofs.Common.{◌≡◌, ◌==◌, ◌<◌, ◌≤◌, ℕ, ◌+◌, Bool, true, false, not, ◌&&◌, ◌||◌, cond, List, [], ◌∷◌}
use Rattle.std.proofs.Common.{Some, IsTrue, refl, sym, ap, ◌∙◌, arith, subst}
use Rattle.qc_data.specs.declared.data.Datum.{Datum}
use Rattle.qc_ops.specs.declared.op.Unary.{Unary}
use Rattle.qc_ops.specs.declared.op.Binary.{Binary}
use Rattle.qc_nnrc.specs.declared.tree.Nnrc.{Nnrc}
use Rattle.qc_nnrc.specs.declared.tree.Nnrc.TheOpen.{Nnrc-F}
use Rattle.qc_nnrc.specs.declared.tree.Nnrc.TheViews.{roll-Nnrc}
use Rattle.qc_nnrc.specs.declared.tree.Nnrc.TheFolds.{fold-roll-Nnrc, map-Nnrc}
use Rattle.qc_nnrc.specs.Free.{free, free_in, free_under, IsClosed}
use Rattle.qc_nnrc.specs.inner.Induction.{Held, nnrc_ind}
use Rattle.qc_nnrs.specs.declared.tree.NnrsExpr.{NnrsExpr}
use Rattle.qc_nnrs.specs.declared.tree.NnrsExpr.TheVariants as expr
use Rattle.qc_nnrs.specs.declared.tree.NnrsStmt.{NnrsStmt}
use Rattle.qc_nnrs.specs.declared.tree.NnrsStmt.TheVariants as stmt
use Rattle.qc_nnrs.specs.Meaning.{Class, Sets, Pushes, class_of}
use Rattle.qc_nnrs.specs.WellFormed.{Scope, read_only, is_read, is_set, is_pushed, expr_fits, fits_expr, stmt_fits}
use Rattle.qc_nnrs.specs.WellFormed.{fits_stmt, well_formed}
use Rattle.qc_to_nnrs.specs.declared.steps.Step.{Step}
use Rattle.qc_to_nnrs.specs.declared.steps.Step.TheVariants as step
use Rattle.qc_to_nnrs.specs.inner.Statements.{Renaming, renamed, Made, Lowering, after, with_step, setting, pushing}
use Rattle.qc_to_nnrs.specs.inner.Statements.{loop, choice, sides, let_with, for_with, if_with, either_with}
use Rattle.qc_to_nnrs.specs.inner.Statements.{lower_form, lower, lowered}
use Rattle.qc_to_nnrs.proofs.StatementForms.{of-Var, of-Const, of-Global, of-Unary, of-Binary, of-Let, of-LetMut}
use Rattle.qc_to_nnrs.proofs.StatementForms.{of-LetColl, of-Set, of-Push, of-For, of-If, of-Either}
use Rattle.qc_to_nnrs.proofs.StepLaws.{same_number, here, there, Same, same_itself, same_under, Ends, Binds, ends_leaf}
use Rattle.qc_to_nnrs.proofs.StepLaws.{ends_as, ends_step, ends_behind, ends_bound}

-- ---- truth values

both : (a b : Bool) → a ≡ true → b ≡ true → (a && b) ≡ true
both true b h k = k
both false b h k = absurd (cc)

first_holds : (a b : Bool) → a ≡ true → (a && b) ≡ b
first_holds true b h = refl
first_holds false b h = absurd (cc)

left_true : (a b : Bool) → IsTrue a → IsTrue (a || b)
left_true true b h = refl
left_true false b h = absurd (cc)

right_true : (a b : Bool) → IsTrue b → IsTrue (a || b)
right_true true b h = refl
right_true false b h = h

-- ---- variables

-- each variable that is free in the tree is in the program one below n that is read
pub record Covers (free : ℕ → Bool) (s : Scope) (r : Renaming) (n : ℕ) : Type 0 where
  pub reads : (y : ℕ) → IsTrue (free y) → is_read (class_of (renamed y r) s) ≡ true
  pub below : (y : ℕ) → IsTrue (free y) → renamed y r < n

module _ (a b : ℕ → Bool) (s : Scope) (r : Renaming) (n : ℕ) (c : Covers (λ y. a y || b y) s r n) where
  left_covers : Covers a s r n
  left_covers = record {
    reads = λ y h. c.reads y (left_true (a y) (b y) h);
    below = λ y h. c.below y (left_true (a y) (b y) h);
  }

  right_covers : Covers b s r n
  right_covers = record {
    reads = λ y h. c.reads y (right_true (a y) (b y) h);
    below = λ y h. c.below y (right_true (a y) (b y) h);
  }

covers_later : (free : ℕ → Bool) (s t : Scope) (r : Renaming) (n k : ℕ) → n ≤ k → Same n s t → Covers free s r n
    → Covers free t r k
covers_later free s t r n k le same c = record {
  reads = λ y h. ap is_read (same (renamed y r) (c.below y h)) ∙ c.reads y h;
  below = λ y h. omega (arith, le, c.below y h);
}

reads_under : (t b : Bool) (k j : ℕ) (s : Scope) → IsTrue b → (IsTrue (not t && b) → j < k)
    → (IsTrue (not t && b) → is_read (class_of j s) ≡ true)
    → is_read (class_of (cond t k j) ((k, read_only) ∷ s)) ≡ true
reads_under true b k j s h lt is = ap is_read (here k read_only s)
reads_under false b k j s h lt is = ap is_read (there j k read_only s (lt h)) ∙ is h

below_under : (t b : Bool) (k j n : ℕ) → IsTrue b → k < n → (IsTrue (not t && b) → j < k) → cond t k j < n
below_under true b k j n h le lt = le
below_under false b k j n h le lt = omega (arith, le, lt h)

-- a new variable at k
covers_under : (b : ℕ → Bool) (s : Scope) (r : Renaming) (y k n : ℕ) → k < n → Covers (free_under y b) s r k
    → Covers b ((k, read_only) ∷ s) ((y, k) ∷ r) n
covers_under b s r y k n lt c = record {
  reads = λ z h. reads_under (y == z) (b z) k (renamed z r) s h (c.below z) (c.reads z);
  below = λ z h. below_under (y == z) (b z) k (renamed z r) n h lt (c.below z);
}

-- ---- expressions and statements

fits_as : (p q : Scope → Bool) (s : Scope) → p ≡ q → p s ≡ q s
fits_as p q s e = ap (λ (r : Scope → Bool). r s) e

fits-Var : (x : ℕ) (s : Scope) → fits_expr (expr.Var x) s ≡ is_read (class_of x s)
fits-Var x s = fits_as _ _ s (of-Var (Scope → Bool) expr_fits x)

fits-Const : (d : Datum) (s : Scope) → fits_expr (expr.Const d) s ≡ true
fits-Const d s = fits_as _ _ s (of-Const (Scope → Bool) expr_fits d)

fits-Global : (name : List ℕ) (s : Scope) → fits_expr (expr.Global name) s ≡ true
fits-Global name s = fits_as _ _ s (of-Global (Scope → Bool) expr_fits name)

fits-Unary : (op : Unary) (a : NnrsExpr) (s : Scope) → fits_expr (expr.Unary op a) s ≡ fits_expr a s
fits-Unary op a s = fits_as _ _ s (of-Unary (Scope → Bool) expr_fits op a)

fits-Binary : (op : Binary) (a b : NnrsExpr) (s : Scope)
    → fits_expr (expr.Binary op a b) s ≡ (fits_expr a s && fits_expr b s)
fits-Binary op a b s = fits_as _ _ s (of-Binary (Scope → Bool) expr_fits op a b)

fits-Let : (n : ℕ) (x : NnrsExpr) (t : NnrsStmt) (s : Scope)
    → fits_stmt (stmt.Let n x t) s ≡ (fits_expr x s && fits_stmt t ((n, read_only) ∷ s))
fits-Let n x t s = fits_as _ _ s (of-Let (Scope → Bool) stmt_fits n x t)

fits-LetMut : (n : ℕ) (a t : NnrsStmt) (s : Scope)
    → fits_stmt (stmt.LetMut n a t) s ≡ (fits_stmt a ((n, Sets) ∷ s) && fits_stmt t ((n, read_only) ∷ s))
fits-LetMut n a t s = fits_as _ _ s (of-LetMut (Scope → Bool) stmt_fits n a t)

fits-LetColl : (n : ℕ) (a t : NnrsStmt) (s : Scope)
    → fits_stmt (stmt.LetColl n a t) s ≡ (fits_stmt a ((n, Pushes) ∷ s) && fits_stmt t ((n, read_only) ∷ s))
fits-LetColl n a t s = fits_as _ _ s (of-LetColl (Scope → Bool) stmt_fits n a t)

fits-Set : (n : ℕ) (x : NnrsExpr) (s : Scope) → fits_stmt (stmt.Set n x) s ≡ (is_set (class_of n s) && fits_expr x s)
fits-Set n x s = fits_as _ _ s (of-Set (Scope → Bool) stmt_fits n x)

fits-Push : (n : ℕ) (x : NnrsExpr) (s : Scope)
    → fits_stmt (stmt.Push n x) s ≡ (is_pushed (class_of n s) && fits_expr x s)
fits-Push n x s = fits_as _ _ s (of-Push (Scope → Bool) stmt_fits n x)

fits-For : (n : ℕ) (x : NnrsExpr) (t : NnrsStmt) (s : Scope)
    → fits_stmt (stmt.For n x t) s ≡ (fits_expr x s && fits_stmt t ((n, read_only) ∷ s))
fits-For n x t s = fits_as _ _ s (of-For (Scope → Bool) stmt_fits n x t)

fits-If : (x : NnrsExpr) (a b : NnrsStmt) (s : Scope)
    → fits_stmt (stmt.If x a b) s ≡ (fits_expr x s && (fits_stmt a s && fits_stmt b s))
fits-If x a b s = fits_as _ _ s (of-If (Scope → Bool) stmt_fits x a b)

fits-Either : (x : NnrsExpr) (n : ℕ) (a : NnrsStmt) (k : ℕ) (b : NnrsStmt) (s : Scope)
    → fits_stmt (stmt.Either x n a k b) s
    ≡ (fits_expr x s && (fits_stmt a ((n, read_only) ∷ s) && fits_stmt b ((k, read_only) ∷ s)))
fits-Either x n a k b s = fits_as _ _ s (of-Either (Scope → Bool) stmt_fits x n a k b)

-- ---- steps

abbrev Fits : NnrsExpr → Scope → Type 0
Fits x s = fits_expr x s ≡ true

abbrev Good : ℕ → Scope → Made → Type 0
Good n s t = Ends Bool fits_stmt Fits n s t

-- the step binds k as a variable that is read
abbrev Stands : ℕ → Scope → Step → Type 0
Stands k s b = Binds Bool fits_stmt k read_only s b

value_stands : (k : ℕ) (x : NnrsExpr) (s : Scope) → Fits x s → Stands k s (step.Value k x)
value_stands k x s h t = fits-Let k x t s ∙ first_holds (fits_expr x s) (fits_stmt t ((k, read_only) ∷ s)) h

assigned_stands : (k : ℕ) (a : NnrsStmt) (s : Scope) → fits_stmt a ((k, Sets) ∷ s) ≡ true
    → Stands k s (step.Assigned k a)
assigned_stands k a s h t =
    fits-LetMut k a t s ∙ first_holds (fits_stmt a ((k, Sets) ∷ s)) (fits_stmt t ((k, read_only) ∷ s)) h

collected_stands : (k : ℕ) (a : NnrsStmt) (s : Scope) → fits_stmt a ((k, Pushes) ∷ s) ≡ true
    → Stands k s (step.Collected k a)
collected_stands k a s h t =
    fits-LetColl k a t s ∙ first_holds (fits_stmt a ((k, Pushes) ∷ s)) (fits_stmt t ((k, read_only) ∷ s)) h

-- the variable that a step binds
good_step : (n k : ℕ) (s : Scope) (t : Made) (b : Step) (e : Good n s t) → k ≡ after n t.0 → Stands k e.frame b
    → Good n s (with_step t.0 b, expr.Var k)
good_step n k s t b e at stands =
    ends_step Bool fits_stmt Fits n k read_only s e.frame t.0 b (expr.Var k) at e.leads stands
    (λ i is. fits-Var k i ∙ ap is_read is)

-- k is set to the value of a tree, or it is pushed to k
set_fits : (k n : ℕ) (s : Scope) (t : Made) → k < n → class_of k s ≡ Some Sets → Good n s t
    → fits_stmt (setting k t) s ≡ true
set_fits k n s t lt is e =
    let h = e.frame in
    e.leads.runs (stmt.Set k t.1) ∙ fits-Set k t.1 h
    ∙ both (is_set (class_of k h)) (fits_expr t.1 h) (ap is_set (e.leads.same k lt ∙ is))
    (e.is h (same_itself (after n t.0) h))

push_fits : (k n : ℕ) (s : Scope) (t : Made) → k < n → class_of k s ≡ Some Pushes → Good n s t
    → fits_stmt (pushing k t) s ≡ true
push_fits k n s t lt is e =
    let h = e.frame in
    e.leads.runs (stmt.Push k t.1) ∙ fits-Push k t.1 h
    ∙ both (is_pushed (class_of k h)) (fits_expr t.1 h) (ap is_pushed (e.leads.same k lt ∙ is))
    (e.is h (same_itself (after n t.0) h))

-- ---- all trees

abbrev frees : Nnrc → ℕ → Bool
frees e y = free_in y e

abbrev Of : Nnrc → Type 0
Of e = (s : Scope) (r : Renaming) (n : ℕ) → Covers (frees e) s r n → Good n s (lower e r n)

-- a part behind the number k of a variable that is set or pushed to
beside_covers : (free : ℕ → Bool) (s : Scope) (r : Renaming) (k : ℕ) (c : Class) → Covers free s r k
    → Covers free ((k, c) ∷ s) r (k + 1)
beside_covers free s r k c covers =
    covers_later free s ((k, c) ∷ s) r k (k + 1) (omega arith) (same_under k k c s s (omega arith) (same_itself k s))
    covers

module _ (y : ℕ) (b : Nnrc) (s : Scope) (r : Renaming) (k : ℕ) (of : Of b)
    (covers : Covers (free_under y (frees b)) s r k) where
  -- and behind that of a variable of its own
  inside : (c : Class) → Good (k + 2) ((k + 1, read_only) ∷ (k, c) ∷ s) (lower b ((y, k + 1) ∷ r) (k + 2))
  inside c =
      of ((k + 1, read_only) ∷ (k, c) ∷ s) ((y, k + 1) ∷ r) (k + 2)
      (covers_under (frees b) ((k, c) ∷ s) r y (k + 1) (k + 2) (omega arith)
      (beside_covers (free_under y (frees b)) s r k c covers))

  inside_class : (c : Class) → class_of k ((k + 1, read_only) ∷ (k, c) ∷ s) ≡ Some c
  inside_class c = there k (k + 1) read_only ((k, c) ∷ s) (omega arith) ∙ here k c s

  side_fits : fits_stmt (setting k (lower b ((y, k + 1) ∷ r) (k + 2))) ((k + 1, read_only) ∷ (k, Sets) ∷ s) ≡ true
  side_fits =
      set_fits k (k + 2) ((k + 1, read_only) ∷ (k, Sets) ∷ s) (lower b ((y, k + 1) ∷ r) (k + 2)) (omega arith)
      (inside_class Sets) (inside Sets)

  member_fits : fits_stmt (pushing k (lower b ((y, k + 1) ∷ r) (k + 2))) ((k + 1, read_only) ∷ (k, Pushes) ∷ s) ≡ true
  member_fits =
      push_fits k (k + 2) ((k + 1, read_only) ∷ (k, Pushes) ∷ s) (lower b ((y, k + 1) ∷ r) (k + 2)) (omega arith)
      (inside_class Pushes) (inside Pushes)

branch_fits : (b : Nnrc) (s : Scope) (r : Renaming) (k : ℕ) → Of b → Covers (frees b) s r k
    → fits_stmt (setting k (lower b r (k + 1))) ((k, Sets) ∷ s) ≡ true
branch_fits b s r k of covers =
    set_fits k (k + 1) ((k, Sets) ∷ s) (lower b r (k + 1)) (omega arith) (here k Sets s)
    (of ((k, Sets) ∷ s) r (k + 1) (beside_covers (frees b) s r k Sets covers))

-- ---- forms with a first part

module _ (s : Scope) (r : Renaming) (n : ℕ) (a : Made) (e : Good n s a) where
  -- behind the steps of the first part
  later : (free : ℕ → Bool) → Covers free s r n → Covers free e.frame r (after n a.0)
  later free covers = covers_later free s e.frame r n (after n a.0) (omega arith) e.leads.same covers

  -- it fits beside the number that is set or pushed to
  beside : (c : Class) → Fits a.1 ((after n a.0, c) ∷ e.frame)
  beside c =
      let k : ℕ = after n a.0 in
      e.is ((k, c) ∷ e.frame) (same_under k k c e.frame e.frame (omega arith) (same_itself k e.frame))

  good_let : (y : ℕ) (b : Nnrc) → Of b → Covers (free_under y (frees b)) s r n
      → Good n s (let_with y (lower b) r (after n a.0) a)
  good_let y b of covers =
      let k : ℕ = after n a.0 in
      ends_bound Bool fits_stmt Fits n k read_only s e.frame a.0 (step.Value k a.1) (lower b ((y, k) ∷ r) (k + 1)) refl
      e.leads (value_stands k a.1 e.frame (e.is e.frame (same_itself k e.frame)))
      (of ((k, read_only) ∷ e.frame) ((y, k) ∷ r) (k + 1)
      (covers_under (frees b) e.frame r y k (k + 1) (omega arith) (later (free_under y (frees b)) covers)))

  good_for : (y : ℕ) (b : Nnrc) → Of b → Covers (free_under y (frees b)) s r n
      → Good n s (for_with y (lower b) r (after n a.0) a)
  good_for y b of covers =
      let k : ℕ = after n a.0 in
      let body : NnrsStmt = pushing k (lower b ((y, k + 1) ∷ r) (k + 2)) in
      let h : Scope = (k, Pushes) ∷ e.frame in
      good_step n k s a (step.Collected k (loop k a.1 (lower b ((y, k + 1) ∷ r) (k + 2)))) e refl
      (collected_stands k (loop k a.1 (lower b ((y, k + 1) ∷ r) (k + 2))) e.frame
      (fits-For (k + 1) a.1 body h
      ∙ both (fits_expr a.1 h) (fits_stmt body ((k + 1, read_only) ∷ h)) (beside Pushes)
      (member_fits y b e.frame r k of (later (free_under y (frees b)) covers))))

  good_if : (b c : Nnrc) → Of b → Of c → Covers (frees b) s r n → Covers (frees c) s r n
      → Good n s (if_with (lower b) (lower c) r (after n a.0) a)
  good_if b c p q left right =
      let k : ℕ = after n a.0 in
      let yes : NnrsStmt = setting k (lower b r (k + 1)) in
      let no : NnrsStmt = setting k (lower c r (k + 1)) in
      let h : Scope = (k, Sets) ∷ e.frame in
      good_step n k s a (step.Assigned k (choice k a.1 (lower b r (k + 1)) (lower c r (k + 1)))) e refl
      (assigned_stands k (choice k a.1 (lower b r (k + 1)) (lower c r (k + 1))) e.frame
      (fits-If a.1 yes no h
      ∙ both (fits_expr a.1 h) (fits_stmt yes h && fits_stmt no h) (beside Sets)
      (both (fits_stmt yes h) (fits_stmt no h) (branch_fits b e.frame r k p (later (frees b) left))
      (branch_fits c e.frame r k q (later (frees c) right)))))

  good_either : (y : ℕ) (b : Nnrc) (z : ℕ) (c : Nnrc) → Of b → Of c → Covers (free_under y (frees b)) s r n
      → Covers (free_under z (frees c)) s r n → Good n s (either_with y (lower b) z (lower c) r (after n a.0) a)
  good_either y b z c p q left right =
      let k : ℕ = after n a.0 in
      let t : Made = lower b ((y, k + 1) ∷ r) (k + 2) in
      let u : Made = lower c ((z, k + 1) ∷ r) (k + 2) in
      let h : Scope = (k, Sets) ∷ e.frame in
      let i : Scope = (k + 1, read_only) ∷ h in
      good_step n k s a (step.Assigned k (sides k a.1 t u)) e refl
      (assigned_stands k (sides k a.1 t u) e.frame
      (fits-Either a.1 (k + 1) (setting k t) (k + 1) (setting k u) h
      ∙ both (fits_expr a.1 h) (fits_stmt (setting k t) i && fits_stmt (setting k u) i) (beside Sets)
      (both (fits_stmt (setting k t) i) (fits_stmt (setting k u) i)
      (side_fits y b e.frame r k p (later (free_under y (frees b)) left))
      (side_fits z c e.frame r k q (later (free_under z (frees c)) right)))))

-- ---- all forms

layer : (x : Nnrc-F Nnrc) → Held Of x → (s : Scope) (r : Renaming) (n : ℕ)
    → Covers (free (map-Nnrc Nnrc (ℕ → Bool) frees x)) s r n
    → Good n s (lower_form (map-Nnrc Nnrc Lowering lower x) r n)
layer (Nnrc-F.Var y) h s r n covers =
    ends_leaf Bool fits_stmt Fits n s (expr.Var (renamed y r)) (λ i same.
    fits-Var (renamed y r) i ∙ ap is_read (same (renamed y r) (covers.below y (same_number y)))
    ∙ covers.reads y (same_number y))
layer (Nnrc-F.Const d) h s r n covers =
    ends_leaf Bool fits_stmt Fits n s (expr.Const d) (λ i same. fits-Const d i)
layer (Nnrc-F.Global name) h s r n covers =
    ends_leaf Bool fits_stmt Fits n s (expr.Global name) (λ i same. fits-Global name i)
layer (Nnrc-F.Unary op a) h s r n covers =
    let t : Made = lower a r n in
    ends_as Bool fits_stmt Fits Fits n s t (expr.Unary op t.1) (h s r n covers) (λ i is. fits-Unary op t.1 i ∙ is)
layer (Nnrc-F.Binary op a b) h s r n covers =
    let t : Made = lower a r n in
    let k : ℕ = after n t.0 in
    let u : Made = lower b r k in
    let left : Good n s t = h.0 s r n (left_covers (frees a) (frees b) s r n covers) in
    let right : Good k left.frame u =
    h.1 left.frame r k (later s r n t left (frees b) (right_covers (frees a) (frees b) s r n covers)) in
    ends_behind Bool fits_stmt Fits Fits n k s left.frame t.0 u (expr.Binary op t.1 u.1) refl left.leads right
    (λ i same is. fits-Binary op t.1 u.1 i ∙ both (fits_expr t.1 i) (fits_expr u.1 i) (left.is i same) is)
layer (Nnrc-F.Let y a b) h s r n covers =
    let outer = free_under y (frees b) in
    good_let s r n (lower a r n) (h.0 s r n (left_covers (frees a) outer s r n covers)) y b h.1
    (right_covers (frees a) outer s r n covers)
layer (Nnrc-F.For y a b) h s r n covers =
    let outer = free_under y (frees b) in
    good_for s r n (lower a r n) (h.0 s r n (left_covers (frees a) outer s r n covers)) y b h.1
    (right_covers (frees a) outer s r n covers)
layer (Nnrc-F.If a b c) h s r n covers =
    let branches : ℕ → Bool = λ v. frees b v || frees c v in
    let in_branches = right_covers (frees a) branches s r n covers in
    good_if s r n (lower a r n) (h.0 s r n (left_covers (frees a) branches s r n covers)) b c h.1 h.2
    (left_covers (frees b) (frees c) s r n in_branches) (right_covers (frees b) (frees c) s r n in_branches)
layer (Nnrc-F.Either a y b z c) h s r n covers =
    let left = free_under y (frees b) in
    let right = free_under z (frees c) in
    let bodies : ℕ → Bool = λ v. left v || right v in
    let in_bodies = right_covers (frees a) bodies s r n covers in
    good_either s r n (lower a r n) (h.0 s r n (left_covers (frees a) bodies s r n covers)) y b z c h.1 h.2
    (left_covers left right s r n in_bodies) (right_covers left right s r n in_bodies)

of_layer : (x : Nnrc-F Nnrc) → Held Of x → Of (roll-Nnrc x)
of_layer x h s r n covers =
    let variables : frees (roll-Nnrc x) ≡ free (map-Nnrc Nnrc (ℕ → Bool) frees x) =
    fold-roll-Nnrc (ℕ → Bool) free x in
    let trees : lower (roll-Nnrc x) ≡ lower_form (map-Nnrc Nnrc Lowering lower x) =
    fold-roll-Nnrc Lowering lower_form x in
    subst (λ (l : Lowering). Good n s (l r n)) (sym trees)
    (layer x h s r n (subst (λ (b : ℕ → Bool). Covers b s r n) variables covers))

pub good_tree : (e : Nnrc) → Of e
good_tree = nnrc_ind Of of_layer

-- ---- a whole tree

not_both : (b : Bool) → b ≡ false → IsTrue b → ⊥
not_both true h k = cc
not_both false h k = cc

closed_covers : (e : Nnrc) (s : Scope) (n : ℕ) → IsClosed e → Covers (frees e) s [] n
closed_covers e s n closed = record {
  reads = λ y h. absurd (not_both (free_in y e) (closed y) h);
  below = λ y h. absurd (not_both (free_in y e) (closed y) h);
}

pub good_whole : (e : Nnrc) → IsClosed e → IsTrue (well_formed (lowered e))
good_whole e closed =
    let s : Scope = (0, Sets) ∷ [] in
    set_fits 0 1 s (lower e [] 1) (omega arith) (here 0 Sets []) (good_tree e s [] 1 (closed_covers e s 1 closed))
