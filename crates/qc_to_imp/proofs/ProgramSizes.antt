-- The size of the program for one of statements.
use Rattle.std.proofs.Common.{◌≡◌, ◌≤◌, ℕ, ◌+◌, ◌*◌, [], ◌∷◌, ap, ◌∙◌, arith}
use Rattle.qc_nnrs.specs.declared.tree.NnrsExpr.{NnrsExpr}
use Rattle.qc_nnrs.specs.declared.tree.NnrsExpr.TheOpen.{NnrsExpr-F}
use Rattle.qc_nnrs.specs.declared.tree.NnrsExpr.TheViews.{roll-NnrsExpr}
use Rattle.qc_nnrs.specs.declared.tree.NnrsExpr.TheFolds.{fold-roll-NnrsExpr, map-NnrsExpr}
use Rattle.qc_nnrs.specs.declared.tree.NnrsStmt.{NnrsStmt}
use Rattle.qc_nnrs.specs.declared.tree.NnrsStmt.TheOpen.{NnrsStmt-F}
use Rattle.qc_nnrs.specs.declared.tree.NnrsStmt.TheViews.{roll-NnrsStmt}
use Rattle.qc_nnrs.specs.declared.tree.NnrsStmt.TheFolds.{fold-roll-NnrsStmt, map-NnrsStmt}
use Rattle.qc_nnrs.specs.declared.tree.Nnrs.{Nnrs}
use Rattle.qc_nnrs.specs.Sizes as source
use Rattle.qc_nnrs.specs.inner.Induction.{HeldExpr, expr_ind, HeldStmt, stmt_ind}
use Rattle.qc_imp.specs.declared.tree.ImpExpr.{ImpExpr}
use Rattle.qc_imp.specs.declared.tree.ImpExpr.TheVariants as expr
use Rattle.qc_imp.specs.declared.tree.ImpStmt.{ImpStmt}
use Rattle.qc_imp.specs.declared.tree.ImpStmt.TheVariants as to
use Rattle.qc_imp.specs.Sizes as target
use Rattle.qc_to_imp.specs.inner.Numbering.{Numbers, number_of}
use Rattle.qc_to_imp.specs.inner.StatementTrees.{Renaming, expr_form, renamed, Lowering, both, assigned, collected}
use Rattle.qc_to_imp.specs.inner.StatementTrees.{with_content, by_side, lower_form, lower, lowered}
use Rattle.qc_to_imp.proofs.ProgramForms.{of-Var, of-Const, of-Global, of-Unary, of-Binary, of-IsLeft, of-Payload}
use Rattle.qc_to_imp.proofs.ProgramForms.{of-Block, of-Declared, of-Val, of-Set, of-Collect, of-Push, of-For, of-If}

-- ---- expressions

abbrev leaves : ImpExpr → ℕ
leaves e = target.expr_size e

abbrev Same : NnrsExpr → Type 0
Same e = (r : Numbers) → leaves (renamed e r) ≡ source.expr_size e

same_layer : (x : NnrsExpr-F NnrsExpr) → HeldExpr Same x → (r : Numbers)
    → leaves (expr_form (map-NnrsExpr NnrsExpr Renaming renamed x) r)
    ≡ source.expr_node (map-NnrsExpr NnrsExpr ℕ source.expr_size x)
same_layer (NnrsExpr-F.Var x) h r = of-Var ℕ target.expr_node (number_of x r)
same_layer (NnrsExpr-F.Const d) h r = of-Const ℕ target.expr_node d
same_layer (NnrsExpr-F.Global name) h r = of-Global ℕ target.expr_node name
same_layer (NnrsExpr-F.Unary op a) h r =
    of-Unary ℕ target.expr_node op (renamed a r) ∙ ap (λ (n : ℕ). 1 + n) (h r)
same_layer (NnrsExpr-F.Binary op a b) h r =
    let is : leaves (expr.Binary op (renamed a r) (renamed b r)) ≡ 1 + (leaves (renamed a r) + leaves (renamed b r)) =
    of-Binary ℕ target.expr_node op (renamed a r) (renamed b r) in
    omega (arith, is, h.0 r, h.1 r)

same_rolled : (x : NnrsExpr-F NnrsExpr) → HeldExpr Same x → Same (roll-NnrsExpr x)
same_rolled x h r =
    let trees : renamed (roll-NnrsExpr x) ≡ expr_form (map-NnrsExpr NnrsExpr Renaming renamed x) =
    fold-roll-NnrsExpr Renaming expr_form x in
    let sizes : source.expr_size (roll-NnrsExpr x) ≡ source.expr_node (map-NnrsExpr NnrsExpr ℕ source.expr_size x) =
    fold-roll-NnrsExpr ℕ source.expr_node x in
    rw (trees, sizes) (same_layer x h r)

same_size : (e : NnrsExpr) → Same e
same_size = expr_ind Same same_rolled

-- ---- statements

abbrev count : ImpStmt → ℕ
count s = target.stmt_size s

count-Var : (n : ℕ) → count (to.Var n) ≡ 1
count-Var n = of-Declared ℕ target.stmt_node n

count-Val : (n : ℕ) (e : ImpExpr) → count (to.Val n e) ≡ 1 + leaves e
count-Val n e = of-Val ℕ target.stmt_node n e

count-both : (a b : ImpStmt) → count (both a b) ≡ 1 + (0 + count a + count b)
count-both a b = of-Block ℕ target.stmt_node (a ∷ b ∷ [])

count-assigned : (n : ℕ) (a b : ImpStmt) → count (assigned n a b) ≡ 2 + (count a + count b)
count-assigned n a b =
    let is : count (assigned n a b) ≡ 1 + (0 + count (to.Var n) + count a + count b) =
    of-Block ℕ target.stmt_node (to.Var n ∷ a ∷ b ∷ []) in
    omega (arith, is, count-Var n)

count-collected : (n : ℕ) (a b : ImpStmt) → count (collected n a b) ≡ 2 + (count a + count b)
count-collected n a b =
    let is : count (to.Collect n (a ∷ [])) ≡ 1 + (0 + count a) = of-Collect ℕ target.stmt_node n (a ∷ []) in
    omega (arith, is, count-both (to.Collect n (a ∷ [])) b)

count-content : (n : ℕ) (a : ImpStmt) → count (with_content n a) ≡ 4 + count a
count-content n a =
    let content : ImpExpr = expr.Payload (expr.Var n) in
    let variable : leaves (expr.Var n) ≡ 1 = of-Var ℕ target.expr_node n in
    let is : leaves content ≡ 1 + leaves (expr.Var n) = of-Payload ℕ target.expr_node (expr.Var n) in
    omega (arith, variable, is, count-Val (n + 1) content, count-both (to.Val (n + 1) content) a)

count-side : (n : ℕ) (e : ImpExpr) (a b : ImpStmt) → count (by_side n e a b) ≡ 13 + (leaves e + (count a + count b))
count-side n e a b =
    let test : ImpExpr = expr.IsLeft (expr.Var n) in
    let choice : ImpStmt = to.If test (with_content n a) (with_content n b) in
    let variable : leaves (expr.Var n) ≡ 1 = of-Var ℕ target.expr_node n in
    let is : leaves test ≡ 1 + leaves (expr.Var n) = of-IsLeft ℕ target.expr_node (expr.Var n) in
    let chosen : count choice ≡ 1 + (leaves test + (count (with_content n a) + count (with_content n b))) =
    of-If ℕ target.stmt_node test (with_content n a) (with_content n b) in
    omega (
      arith,
      variable,
      is,
      chosen,
      count-content n a,
      count-content n b,
      count-Val n e,
      count-both (to.Val n e) choice,
    )

abbrev Small : NnrsStmt → Type 0
Small s = (r : Numbers) (n : ℕ) → count (lower s r n) ≤ 16 * source.stmt_size s

small_layer : (x : NnrsStmt-F NnrsStmt) → HeldStmt Small x → (r : Numbers) (n : ℕ)
    → count (lower_form (map-NnrsStmt NnrsStmt Lowering lower x) r n)
    ≤ 16 * source.stmt_node (map-NnrsStmt NnrsStmt ℕ source.stmt_size x)
small_layer (NnrsStmt-F.Seq a b) h r n =
    omega (arith, count-both (lower a r n) (lower b r n), h.0 r n, h.1 r n)
small_layer (NnrsStmt-F.Let x e b) h r n =
    let inner : Numbers = (x, n) ∷ r in
    omega (
      arith,
      count-Val n (renamed e r),
      count-both (to.Val n (renamed e r)) (lower b inner (n + 1)),
      same_size e r,
      h inner (n + 1),
    )
small_layer (NnrsStmt-F.LetMut x a b) h r n =
    let inner : Numbers = (x, n) ∷ r in
    omega (
      arith,
      count-assigned n (lower a inner (n + 1)) (lower b inner (n + 1)),
      h.0 inner (n + 1),
      h.1 inner (n + 1),
    )
small_layer (NnrsStmt-F.LetColl x a b) h r n =
    let inner : Numbers = (x, n) ∷ r in
    omega (
      arith,
      count-collected n (lower a inner (n + 1)) (lower b inner (n + 1)),
      h.0 inner (n + 1),
      h.1 inner (n + 1),
    )
small_layer (NnrsStmt-F.Set x e) h r n =
    let is : count (to.Set (number_of x r) (renamed e r)) ≡ 1 + leaves (renamed e r) =
    of-Set ℕ target.stmt_node (number_of x r) (renamed e r) in
    omega (arith, is, same_size e r)
small_layer (NnrsStmt-F.Push x e) h r n =
    let is : count (to.Push (number_of x r) (renamed e r)) ≡ 1 + leaves (renamed e r) =
    of-Push ℕ target.stmt_node (number_of x r) (renamed e r) in
    omega (arith, is, same_size e r)
small_layer (NnrsStmt-F.For x e b) h r n =
    let inner : Numbers = (x, n) ∷ r in
    let body : ImpStmt = lower b inner (n + 1) in
    let is : count (to.For n (renamed e r) body) ≡ 1 + (leaves (renamed e r) + count body) =
    of-For ℕ target.stmt_node n (renamed e r) body in
    omega (arith, is, same_size e r, h inner (n + 1))
small_layer (NnrsStmt-F.If e a b) h r n =
    let is : count (to.If (renamed e r) (lower a r n) (lower b r n))
    ≡ 1 + (leaves (renamed e r) + (count (lower a r n) + count (lower b r n))) =
    of-If ℕ target.stmt_node (renamed e r) (lower a r n) (lower b r n) in
    omega (arith, is, same_size e r, h.0 r n, h.1 r n)
small_layer (NnrsStmt-F.Either e x a y b) h r n =
    let left : Numbers = (x, n + 1) ∷ r in
    let right : Numbers = (y, n + 1) ∷ r in
    omega (
      arith,
      count-side n (renamed e r) (lower a left (n + 1 + 1)) (lower b right (n + 1 + 1)),
      same_size e r,
      h.0 left (n + 1 + 1),
      h.1 right (n + 1 + 1),
    )

small_rolled : (x : NnrsStmt-F NnrsStmt) → HeldStmt Small x → Small (roll-NnrsStmt x)
small_rolled x h r n =
    let programs : lower (roll-NnrsStmt x) ≡ lower_form (map-NnrsStmt NnrsStmt Lowering lower x) =
    fold-roll-NnrsStmt Lowering lower_form x in
    let sizes : source.stmt_size (roll-NnrsStmt x) ≡ source.stmt_node (map-NnrsStmt NnrsStmt ℕ source.stmt_size x) =
    fold-roll-NnrsStmt ℕ source.stmt_node x in
    rw (programs, sizes) (small_layer x h r n)

small_stmt : (s : NnrsStmt) → Small s
small_stmt = stmt_ind Small small_rolled

pub small_program : (p : Nnrs) → target.size (lowered p) ≤ 32 * source.size p
small_program p =
    let body : ImpStmt = lower p.body ((p.result, 0) ∷ []) 1 in
    omega (arith, count-Var 0, count-both (to.Var 0) body, small_stmt p.body ((p.result, 0) ∷ []) 1)
