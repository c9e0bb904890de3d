-- Induction over expressions and statements: what holds of the parts.
use Rattle.std.specs.Prelude.{List, [], ◌∷◌, map}
use Rattle.std.specs.List.{AllByRecursion}
use Rattle.std.proofs.Common.{subst}
use Rattle.qc_imp.specs.declared.tree.ImpExpr.{ImpExpr}
use Rattle.qc_imp.specs.declared.tree.ImpExpr.TheOpen.{ImpExpr-F}
use Rattle.qc_imp.specs.declared.tree.ImpExpr.TheViews.{roll-ImpExpr}
use Rattle.qc_imp.specs.declared.tree.ImpExpr.TheFolds.{map-ImpExpr, ind-ImpExpr}
use Rattle.qc_imp.specs.declared.tree.ImpStmt.{ImpStmt}
use Rattle.qc_imp.specs.declared.tree.ImpStmt.TheOpen.{ImpStmt-F}
use Rattle.qc_imp.specs.declared.tree.ImpStmt.TheViews.{roll-ImpStmt}
use Rattle.qc_imp.specs.declared.tree.ImpStmt.TheFolds.{map-ImpStmt, ind-ImpStmt}

-- P holds of each part of an expression
abbrev pub HeldExpr : (ImpExpr → Type 0) → ImpExpr-F ImpExpr → Type 0
HeldExpr P (ImpExpr-F.Var x) = Unit {0}
HeldExpr P (ImpExpr-F.Const d) = Unit {0}
HeldExpr P (ImpExpr-F.Global name) = Unit {0}
HeldExpr P (ImpExpr-F.Unary op a) = P a
HeldExpr P (ImpExpr-F.Binary op a b) = P a × P b
HeldExpr P (ImpExpr-F.IsLeft a) = P a
HeldExpr P (ImpExpr-F.Payload a) = P a

held_expr : (P : ImpExpr → Type 0) (w : ImpExpr-F ((e : ImpExpr) × P e))
    → HeldExpr P (map-ImpExpr ((e : ImpExpr) × P e) ImpExpr (λ p. p.0) w)
held_expr P (ImpExpr-F.Var x) = tt
held_expr P (ImpExpr-F.Const d) = tt
held_expr P (ImpExpr-F.Global name) = tt
held_expr P (ImpExpr-F.Unary op a) = a.1
held_expr P (ImpExpr-F.Binary op a b) = (a.1, b.1)
held_expr P (ImpExpr-F.IsLeft a) = a.1
held_expr P (ImpExpr-F.Payload a) = a.1

-- what holds of an expression if it holds of its parts holds of each expression
pub expr_ind : (P : ImpExpr → Type 0) → ((x : ImpExpr-F ImpExpr) → HeldExpr P x → P (roll-ImpExpr x)) → (e : ImpExpr)
    → P e
expr_ind P f = ind-ImpExpr P (λ x w is. f x (subst (HeldExpr P) is (held_expr P w)))

-- P holds of each part of a statement that is one
abbrev pub HeldStmt : (ImpStmt → Type 0) → ImpStmt-F ImpStmt → Type 0
HeldStmt P (ImpStmt-F.Block ss) = AllByRecursion P ss
HeldStmt P (ImpStmt-F.Var x) = Unit {0}
HeldStmt P (ImpStmt-F.Val x e) = Unit {0}
HeldStmt P (ImpStmt-F.Set x e) = Unit {0}
HeldStmt P (ImpStmt-F.Collect x ss) = AllByRecursion P ss
HeldStmt P (ImpStmt-F.Push x e) = Unit {0}
HeldStmt P (ImpStmt-F.For x e a) = P a
HeldStmt P (ImpStmt-F.If e a b) = P a × P b

all_held : (P : ImpStmt → Type 0) (ws : List ((s : ImpStmt) × P s)) → AllByRecursion P (map (λ p. p.0) ws)
all_held P [] = tt
all_held P (w ∷ ws) = (w.1, all_held P ws)

held_stmt : (P : ImpStmt → Type 0) (w : ImpStmt-F ((s : ImpStmt) × P s))
    → HeldStmt P (map-ImpStmt ((s : ImpStmt) × P s) ImpStmt (λ p. p.0) w)
held_stmt P (ImpStmt-F.Block ws) = all_held P ws
held_stmt P (ImpStmt-F.Var x) = tt
held_stmt P (ImpStmt-F.Val x e) = tt
held_stmt P (ImpStmt-F.Set x e) = tt
held_stmt P (ImpStmt-F.Collect x ws) = all_held P ws
held_stmt P (ImpStmt-F.Push x e) = tt
held_stmt P (ImpStmt-F.For x e w) = w.1
held_stmt P (ImpStmt-F.If e v w) = (v.1, w.1)

-- the same of statements
pub stmt_ind : (P : ImpStmt → Type 0) → ((x : ImpStmt-F ImpStmt) → HeldStmt P x → P (roll-ImpStmt x)) → (s : ImpStmt)
    → P s
stmt_ind P f = ind-ImpStmt P (λ x w is. f x (subst (HeldStmt P) is (held_stmt P w)))
