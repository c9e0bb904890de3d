-- The size of a program: a node for each form of an expression or a statement, and one more. An operator with its
-- parameters is one form.
use Rattle.std.specs.Prelude.{ℕ, ◌+◌, sum}
use Rattle.qc_imp.specs.declared.tree.ImpExpr.{ImpExpr}
use Rattle.qc_imp.specs.declared.tree.ImpExpr.TheOpen.{ImpExpr-F}
use Rattle.qc_imp.specs.declared.tree.ImpExpr.TheFolds.{fold-ImpExpr}
use Rattle.qc_imp.specs.declared.tree.ImpStmt.{ImpStmt}
use Rattle.qc_imp.specs.declared.tree.ImpStmt.TheOpen.{ImpStmt-F}
use Rattle.qc_imp.specs.declared.tree.ImpStmt.TheFolds.{fold-ImpStmt}
use Rattle.qc_imp.specs.declared.tree.Imp.{Imp}

-- an expression, by the sizes of its parts
abbrev pub expr_node : ImpExpr-F ℕ → ℕ
expr_node (ImpExpr-F.Var x) = 1
expr_node (ImpExpr-F.Const d) = 1
expr_node (ImpExpr-F.Global name) = 1
expr_node (ImpExpr-F.Unary op a) = 1 + a
expr_node (ImpExpr-F.Binary op a b) = 1 + (a + b)
expr_node (ImpExpr-F.IsLeft a) = 1 + a
expr_node (ImpExpr-F.Payload a) = 1 + a

-- how many nodes an expression has
abbrev pub expr_size : ImpExpr → ℕ
expr_size e = fold-ImpExpr ℕ expr_node e

-- a statement, by the sizes of its parts
abbrev pub stmt_node : ImpStmt-F ℕ → ℕ
stmt_node (ImpStmt-F.Block ss) = 1 + sum ss
stmt_node (ImpStmt-F.Var x) = 1
stmt_node (ImpStmt-F.Val x e) = 1 + expr_size e
stmt_node (ImpStmt-F.Set x e) = 1 + expr_size e
stmt_node (ImpStmt-F.Collect x ss) = 1 + sum ss
stmt_node (ImpStmt-F.Push x e) = 1 + expr_size e
stmt_node (ImpStmt-F.For x e a) = 1 + (expr_size e + a)
stmt_node (ImpStmt-F.If e a b) = 1 + (expr_size e + (a + b))

-- how many nodes a statement has
abbrev pub stmt_size : ImpStmt → ℕ
stmt_size s = fold-ImpStmt ℕ stmt_node s

-- how many nodes a program has
abbrev pub size : Imp → ℕ
size p = 1 + stmt_size p.body
