-- The size of the program for a tree of the calculus.
use Rattle.std.proofs.Common.{◌≡◌, ◌≤◌, ℕ, ◌+◌, ◌*◌, List, [], ◌∷◌, ◌++◌, refl, arith}
use Rattle.qc_data.specs.declared.data.Datum.{Datum}
use Rattle.qc_ops.specs.declared.op.Unary.{Unary}
use Rattle.qc_ops.specs.declared.op.Binary.{Binary}
use Rattle.qc_nnrc.specs.declared.tree.Nnrc.{Nnrc}
use Rattle.qc_nnrc.specs.declared.tree.Nnrc.TheOpen.{Nnrc-F}
use Rattle.qc_nnrc.specs.declared.tree.Nnrc.TheViews.{roll-Nnrc}
use Rattle.qc_nnrc.specs.declared.tree.Nnrc.TheFolds.{fold-roll-Nnrc, map-Nnrc}
use Rattle.qc_nnrc.specs.Laws.{sized}
use Rattle.qc_nnrc.specs.Sizes.{size, node}
use Rattle.qc_nnrc.specs.inner.Induction.{Held, nnrc_ind}
use Rattle.qc_nnrs.specs.declared.tree.NnrsExpr.{NnrsExpr}
use Rattle.qc_nnrs.specs.declared.tree.NnrsExpr.TheVariants as expr
use Rattle.qc_nnrs.specs.declared.tree.NnrsStmt.{NnrsStmt}
use Rattle.qc_nnrs.specs.declared.tree.NnrsStmt.TheVariants as stmt
use Rattle.qc_nnrs.specs.Sizes as statements
use Rattle.qc_nnrs.specs.Sizes.{expr_node, expr_size, stmt_node, stmt_size}
use Rattle.qc_to_nnrs.specs.declared.steps.Step.{Step}
use Rattle.qc_to_nnrs.specs.declared.steps.Step.TheVariants as step
use Rattle.qc_to_nnrs.specs.inner.Statements.{Renaming, renamed, Made, Lowering, bind, wrap, after, with_step, setting}
use Rattle.qc_to_nnrs.specs.inner.Statements.{pushing, loop, choice, sides, lower_form, lower, lowered}
use Rattle.qc_to_nnrs.proofs.StatementForms.{of-Var, of-Const, of-Global, of-Unary, of-Binary, of-Let, of-LetMut}
use Rattle.qc_to_nnrs.proofs.StatementForms.{of-LetColl, of-Set, of-Push, of-For, of-If, of-Either}

-- ---- expressions and statements

count-Var : (x : ℕ) → expr_size (expr.Var x) ≡ 1
count-Var x = of-Var ℕ expr_node x

count-Const : (d : Datum) → expr_size (expr.Const d) ≡ 1
count-Const d = of-Const ℕ expr_node d

count-Global : (name : List ℕ) → expr_size (expr.Global name) ≡ 1
count-Global name = of-Global ℕ expr_node name

count-Unary : (op : Unary) (a : NnrsExpr) → expr_size (expr.Unary op a) ≡ 1 + expr_size a
count-Unary op a = of-Unary ℕ expr_node op a

count-Binary : (op : Binary) (a b : NnrsExpr) → expr_size (expr.Binary op a b) ≡ 1 + (expr_size a + expr_size b)
count-Binary op a b = of-Binary ℕ expr_node op a b

count-Let : (n : ℕ) (x : NnrsExpr) (s : NnrsStmt) → stmt_size (stmt.Let n x s) ≡ 1 + (expr_size x + stmt_size s)
count-Let n x s = of-Let ℕ stmt_node n x s

count-LetMut : (n : ℕ) (a s : NnrsStmt) → stmt_size (stmt.LetMut n a s) ≡ 1 + (stmt_size a + stmt_size s)
count-LetMut n a s = of-LetMut ℕ stmt_node n a s

count-LetColl : (n : ℕ) (a s : NnrsStmt) → stmt_size (stmt.LetColl n a s) ≡ 1 + (stmt_size a + stmt_size s)
count-LetColl n a s = of-LetColl ℕ stmt_node n a s

count-Set : (n : ℕ) (x : NnrsExpr) → stmt_size (stmt.Set n x) ≡ 1 + expr_size x
count-Set n x = of-Set ℕ stmt_node n x

count-Push : (n : ℕ) (x : NnrsExpr) → stmt_size (stmt.Push n x) ≡ 1 + expr_size x
count-Push n x = of-Push ℕ stmt_node n x

count-For : (n : ℕ) (x : NnrsExpr) (s : NnrsStmt) → stmt_size (stmt.For n x s) ≡ 1 + (expr_size x + stmt_size s)
count-For n x s = of-For ℕ stmt_node n x s

count-If : (x : NnrsExpr) (a b : NnrsStmt)
    → stmt_size (stmt.If x a b) ≡ 1 + (expr_size x + (stmt_size a + stmt_size b))
count-If x a b = of-If ℕ stmt_node x a b

count-Either : (x : NnrsExpr) (n : ℕ) (a : NnrsStmt) (k : ℕ) (b : NnrsStmt)
    → stmt_size (stmt.Either x n a k b) ≡ 1 + (expr_size x + (stmt_size a + stmt_size b))
count-Either x n a k b = of-Either ℕ stmt_node x n a k b

-- ---- steps

-- the nodes that a step puts before a statement
abbrev step_size : Step → ℕ
step_size (step.Value n x) = 1 + expr_size x
step_size (step.Assigned n a) = 1 + stmt_size a
step_size (step.Collected n a) = 1 + stmt_size a

abbrev steps_size : List Step → ℕ
steps_size [] = 0
steps_size (b ∷ bs) = step_size b + steps_size bs

-- the nodes of what a tree gives
abbrev made_size : Made → ℕ
made_size t = steps_size t.0 + expr_size t.1

steps_append : (bs cs : List Step) → steps_size (bs ++ cs) ≡ steps_size bs + steps_size cs
steps_append [] cs = omega arith
steps_append (b ∷ bs) cs = omega (arith, steps_append bs cs)

count-bind : (b : Step) (s : NnrsStmt) → stmt_size (bind b s) ≡ step_size b + stmt_size s
count-bind (step.Value n x) s = omega (arith, count-Let n x s)
count-bind (step.Assigned n a) s = omega (arith, count-LetMut n a s)
count-bind (step.Collected n a) s = omega (arith, count-LetColl n a s)

count-wrap : (bs : List Step) (s : NnrsStmt) → stmt_size (wrap bs s) ≡ steps_size bs + stmt_size s
count-wrap [] s = omega arith
count-wrap (b ∷ bs) s = omega (arith, count-bind b (wrap bs s), count-wrap bs s)

count-setting : (k : ℕ) (t : Made) → stmt_size (setting k t) ≡ 1 + made_size t
count-setting k t = omega (arith, count-wrap t.0 (stmt.Set k t.1), count-Set k t.1)

count-pushing : (k : ℕ) (t : Made) → stmt_size (pushing k t) ≡ 1 + made_size t
count-pushing k t = omega (arith, count-wrap t.0 (stmt.Push k t.1), count-Push k t.1)

-- ---- trees

abbrev Small : Nnrc → Type 0
Small e = (r : Renaming) (n : ℕ) → made_size (lower e r n) ≤ 5 * size e

-- a last step that binds the variable that is read
count-step : (t : Made) (b : Step) (k c : ℕ) → step_size b ≡ c
    → made_size (with_step t.0 b, expr.Var k) ≡ steps_size t.0 + (c + 1)
count-step t b k c is = omega (arith, is, steps_append t.0 (b ∷ []), count-Var k)

small_layer : (x : Nnrc-F Nnrc) → Held Small x → (r : Renaming) (n : ℕ)
    → made_size (lower_form (map-Nnrc Nnrc Lowering lower x) r n) ≤ 5 * node (map-Nnrc Nnrc ℕ size x)
small_layer (Nnrc-F.Var y) h r n = omega (arith, count-Var (renamed y r))
small_layer (Nnrc-F.Const d) h r n = omega (arith, count-Const d)
small_layer (Nnrc-F.Global name) h r n = omega (arith, count-Global name)
small_layer (Nnrc-F.Unary op a) h r n = omega (arith, count-Unary op (lower a r n).1, h r n)
small_layer (Nnrc-F.Binary op a b) h r n =
    let k : ℕ = after n (lower a r n).0 in
    omega (
      arith,
      steps_append (lower a r n).0 (lower b r k).0,
      count-Binary op (lower a r n).1 (lower b r k).1,
      h.0 r n,
      h.1 r k,
    )
small_layer (Nnrc-F.Let y a b) h r n =
    let t : Made = lower a r n in
    let k : ℕ = after n t.0 in
    omega (
      arith,
      steps_append (with_step t.0 (step.Value k t.1)) (lower b ((y, k) ∷ r) (k + 1)).0,
      steps_append t.0 (step.Value k t.1 ∷ []),
      h.0 r n,
      h.1 ((y, k) ∷ r) (k + 1),
    )
small_layer (Nnrc-F.For y a b) h r n =
    let t : Made = lower a r n in
    let k : ℕ = after n t.0 in
    let u : Made = lower b ((y, k + 1) ∷ r) (k + 2) in
    let s : NnrsStmt = loop k t.1 u in
    omega (
      arith,
      count-step t (step.Collected k s) k (1 + stmt_size s) refl,
      count-For (k + 1) t.1 (pushing k u),
      count-pushing k u,
      h.0 r n,
      h.1 ((y, k + 1) ∷ r) (k + 2),
    )
small_layer (Nnrc-F.If a b c) h r n =
    let t : Made = lower a r n in
    let k : ℕ = after n t.0 in
    let s : NnrsStmt = choice k t.1 (lower b r (k + 1)) (lower c r (k + 1)) in
    omega (
      arith,
      count-step t (step.Assigned k s) k (1 + stmt_size s) refl,
      count-If t.1 (setting k (lower b r (k + 1))) (setting k (lower c r (k + 1))),
      count-setting k (lower b r (k + 1)),
      count-setting k (lower c r (k + 1)),
      h.0 r n,
      h.1 r (k + 1),
      h.2 r (k + 1),
    )
small_layer (Nnrc-F.Either a y b z c) h r n =
    let t : Made = lower a r n in
    let k : ℕ = after n t.0 in
    let u : Made = lower b ((y, k + 1) ∷ r) (k + 2) in
    let v : Made = lower c ((z, k + 1) ∷ r) (k + 2) in
    let s : NnrsStmt = sides k t.1 u v in
    omega (
      arith,
      count-step t (step.Assigned k s) k (1 + stmt_size s) refl,
      count-Either t.1 (k + 1) (setting k u) (k + 1) (setting k v),
      count-setting k u,
      count-setting k v,
      h.0 r n,
      h.1 ((y, k + 1) ∷ r) (k + 2),
      h.2 ((z, k + 1) ∷ r) (k + 2),
    )

small_rolled : (x : Nnrc-F Nnrc) → Held Small x → Small (roll-Nnrc x)
small_rolled x h r n =
    let trees : lower (roll-Nnrc x) ≡ lower_form (map-Nnrc Nnrc Lowering lower x) =
    fold-roll-Nnrc Lowering lower_form x in
    let sizes : size (roll-Nnrc x) ≡ node (map-Nnrc Nnrc ℕ size x) = fold-roll-Nnrc ℕ node x in
    rw (trees, sizes) (small_layer x h r n)

small_tree : (e : Nnrc) → Small e
small_tree = nnrc_ind Small small_rolled

pub small_whole : (e : Nnrc) → statements.size (lowered e) ≤ 32 * size e
small_whole e = omega (arith, count-setting 0 (lower e [] 1), small_tree e [] 1, sized e)
