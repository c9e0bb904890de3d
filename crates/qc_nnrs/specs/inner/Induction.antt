-- Induction over expressions and over statements: what holds of the parts. The expressions of a statement are none of
-- its parts.
use Rattle.std.proofs.Common.{subst}
use Rattle.qc_nnrs.specs.declared.tree.NnrsExpr.{NnrsExpr}
use Rattle.qc_nnrs.specs.declared.tree.NnrsExpr.TheOpen.{NnrsExpr-F}
use Rattle.qc_nnrs.specs.declared.tree.NnrsExpr.TheViews.{roll-NnrsExpr}
use Rattle.qc_nnrs.specs.declared.tree.NnrsExpr.TheFolds.{map-NnrsExpr, ind-NnrsExpr}
use Rattle.qc_nnrs.specs.declared.tree.NnrsStmt.{NnrsStmt}
use Rattle.qc_nnrs.specs.declared.tree.NnrsStmt.TheOpen.{NnrsStmt-F}
use Rattle.qc_nnrs.specs.declared.tree.NnrsStmt.TheViews.{roll-NnrsStmt}
use Rattle.qc_nnrs.specs.declared.tree.NnrsStmt.TheFolds.{map-NnrsStmt, ind-NnrsStmt}

-- ---- expressions

-- P holds of each part
abbrev pub HeldExpr : (NnrsExpr → Type 0) → NnrsExpr-F NnrsExpr → Type 0
HeldExpr P (NnrsExpr-F.Var x) = Unit {0}
HeldExpr P (NnrsExpr-F.Const d) = Unit {0}
HeldExpr P (NnrsExpr-F.Global name) = Unit {0}
HeldExpr P (NnrsExpr-F.Unary op a) = P a
HeldExpr P (NnrsExpr-F.Binary op a b) = P a × P b

held_expr : (P : NnrsExpr → Type 0) (w : NnrsExpr-F ((e : NnrsExpr) × P e))
    → HeldExpr P (map-NnrsExpr ((e : NnrsExpr) × P e) NnrsExpr (λ p. p.0) w)
held_expr P (NnrsExpr-F.Var x) = tt
held_expr P (NnrsExpr-F.Const d) = tt
held_expr P (NnrsExpr-F.Global name) = tt
held_expr P (NnrsExpr-F.Unary op a) = a.1
held_expr P (NnrsExpr-F.Binary op a b) = (a.1, b.1)

-- what holds of an expression if it holds of its parts holds of each expression
pub expr_ind : (P : NnrsExpr → Type 0) → ((x : NnrsExpr-F NnrsExpr) → HeldExpr P x → P (roll-NnrsExpr x))
    → (e : NnrsExpr) → P e
expr_ind P f = ind-NnrsExpr P (λ x w is. f x (subst (HeldExpr P) is (held_expr P w)))

-- ---- statements

-- P holds of each part
abbrev pub HeldStmt : (NnrsStmt → Type 0) → NnrsStmt-F NnrsStmt → Type 0
HeldStmt P (NnrsStmt-F.Seq a b) = P a × P b
HeldStmt P (NnrsStmt-F.Let x e b) = P b
HeldStmt P (NnrsStmt-F.LetMut x a b) = P a × P b
HeldStmt P (NnrsStmt-F.LetColl x a b) = P a × P b
HeldStmt P (NnrsStmt-F.Set x e) = Unit {0}
HeldStmt P (NnrsStmt-F.Push x e) = Unit {0}
HeldStmt P (NnrsStmt-F.For x e b) = P b
HeldStmt P (NnrsStmt-F.If e a b) = P a × P b
HeldStmt P (NnrsStmt-F.Either e x a y b) = P a × P b

held_stmt : (P : NnrsStmt → Type 0) (w : NnrsStmt-F ((s : NnrsStmt) × P s))
    → HeldStmt P (map-NnrsStmt ((s : NnrsStmt) × P s) NnrsStmt (λ p. p.0) w)
held_stmt P (NnrsStmt-F.Seq a b) = (a.1, b.1)
held_stmt P (NnrsStmt-F.Let x e b) = b.1
held_stmt P (NnrsStmt-F.LetMut x a b) = (a.1, b.1)
held_stmt P (NnrsStmt-F.LetColl x a b) = (a.1, b.1)
held_stmt P (NnrsStmt-F.Set x e) = tt
held_stmt P (NnrsStmt-F.Push x e) = tt
held_stmt P (NnrsStmt-F.For x e b) = b.1
held_stmt P (NnrsStmt-F.If e a b) = (a.1, b.1)
held_stmt P (NnrsStmt-F.Either e x a y b) = (a.1, b.1)

-- what holds of a statement if it holds of its parts holds of each statement
pub stmt_ind : (P : NnrsStmt → Type 0) → ((x : NnrsStmt-F NnrsStmt) → HeldStmt P x → P (roll-NnrsStmt x))
    → (s : NnrsStmt) → P s
stmt_ind P f = ind-NnrsStmt P (λ x w is. f x (subst (HeldStmt P) is (held_stmt P w)))
