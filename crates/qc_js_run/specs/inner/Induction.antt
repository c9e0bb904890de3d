-- Induction over expressions and statements: what holds of the parts.
use Rattle.std.specs.Prelude.{List, [], ◌∷◌, map}
use Rattle.std.specs.List.{AllByRecursion}
use Rattle.std.proofs.Common.{subst}
use Rattle.qc_js.specs.declared.tree.Expr.{Expr}
use Rattle.qc_js.specs.declared.tree.Expr.TheOpen.{Expr-F}
use Rattle.qc_js.specs.declared.tree.Expr.TheViews.{roll-Expr}
use Rattle.qc_js.specs.declared.tree.Expr.TheFolds.{map-Expr, ind-Expr}
use Rattle.qc_js.specs.declared.tree.Stmt.{Stmt}
use Rattle.qc_js.specs.declared.tree.Stmt.TheOpen.{Stmt-F}
use Rattle.qc_js.specs.declared.tree.Stmt.TheViews.{roll-Stmt}
use Rattle.qc_js.specs.declared.tree.Stmt.TheFolds.{map-Stmt, ind-Stmt}

-- P holds of each part of an expression
abbrev pub HeldExpr : (Expr → Type 0) → Expr-F Expr → Type 0
HeldExpr P (Expr-F.Array es) = AllByRecursion P es
HeldExpr P (Expr-F.Call f es) = AllByRecursion P es
HeldExpr P _ = Unit {0}

all_held : {X : Type 0} (P : X → Type 0) (ws : List ((x : X) × P x)) → AllByRecursion P (map (λ p. p.0) ws)
all_held P [] = tt
all_held P (w ∷ ws) = (w.1, all_held P ws)

held_expr : (P : Expr → Type 0) (w : Expr-F ((e : Expr) × P e))
    → HeldExpr P (map-Expr ((e : Expr) × P e) Expr (λ p. p.0) w)
held_expr P (Expr-F.Array ws) = all_held P ws
held_expr P (Expr-F.Call f ws) = all_held P ws
held_expr P w = tt

-- what holds of an expression if it holds of its parts holds of each expression
pub expr_ind : (P : Expr → Type 0) → ((x : Expr-F Expr) → HeldExpr P x → P (roll-Expr x)) → (e : Expr)
    → P e
expr_ind P f = ind-Expr P (λ x w is. f x (subst (HeldExpr P) is (held_expr P w)))

-- P holds of each part of a statement that is one
abbrev pub HeldStmt : (Stmt → Type 0) → Stmt-F Stmt → Type 0
HeldStmt P (Stmt-F.Collect x ss) = AllByRecursion P ss
HeldStmt P (Stmt-F.For x e ss) = AllByRecursion P ss
HeldStmt P (Stmt-F.If e ss us) = AllByRecursion P ss × AllByRecursion P us
HeldStmt P (Stmt-F.Block ss) = AllByRecursion P ss
HeldStmt P _ = Unit {0}

held_stmt : (P : Stmt → Type 0) (w : Stmt-F ((s : Stmt) × P s))
    → HeldStmt P (map-Stmt ((s : Stmt) × P s) Stmt (λ p. p.0) w)
held_stmt P (Stmt-F.Collect x ws) = all_held P ws
held_stmt P (Stmt-F.For x e ws) = all_held P ws
held_stmt P (Stmt-F.If e vs ws) = (all_held P vs, all_held P ws)
held_stmt P (Stmt-F.Block ws) = all_held P ws
held_stmt P w = tt

-- the same of statements
pub stmt_ind : (P : Stmt → Type 0) → ((x : Stmt-F Stmt) → HeldStmt P x → P (roll-Stmt x)) → (s : Stmt)
    → P s
stmt_ind P f = ind-Stmt P (λ x w is. f x (subst (HeldStmt P) is (held_stmt P w)))
