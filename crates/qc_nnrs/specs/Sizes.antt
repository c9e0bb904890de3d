-- The size of programs: a node for each expression and each statement, where an operator with its parameters is one
-- expression, and one for the program.
use Rattle.std.specs.Prelude.{ℕ, ◌+◌}
use Rattle.qc_nnrs.specs.declared.tree.NnrsExpr.{NnrsExpr}
use Rattle.qc_nnrs.specs.declared.tree.NnrsExpr.TheOpen.{NnrsExpr-F}
use Rattle.qc_nnrs.specs.declared.tree.NnrsExpr.TheFolds.{fold-NnrsExpr}
use Rattle.qc_nnrs.specs.declared.tree.NnrsStmt.{NnrsStmt}
use Rattle.qc_nnrs.specs.declared.tree.NnrsStmt.TheOpen.{NnrsStmt-F}
use Rattle.qc_nnrs.specs.declared.tree.NnrsStmt.TheFolds.{fold-NnrsStmt}
use Rattle.qc_nnrs.specs.declared.tree.Nnrs.{Nnrs}

-- an expression, by the sizes of its parts
abbrev pub expr_node : NnrsExpr-F ℕ → ℕ
expr_node (NnrsExpr-F.Var x) = 1
expr_node (NnrsExpr-F.Const d) = 1
expr_node (NnrsExpr-F.Global name) = 1
expr_node (NnrsExpr-F.Unary op a) = 1 + a
expr_node (NnrsExpr-F.Binary op a b) = 1 + (a + b)

-- how many nodes an expression has
abbrev pub expr_size : NnrsExpr → ℕ
expr_size e = fold-NnrsExpr ℕ expr_node e

-- a statement, by the sizes of its parts
abbrev pub stmt_node : NnrsStmt-F ℕ → ℕ
stmt_node (NnrsStmt-F.Seq a b) = 1 + (a + b)
stmt_node (NnrsStmt-F.Let x e b) = 1 + (expr_size e + b)
stmt_node (NnrsStmt-F.LetMut x a b) = 1 + (a + b)
stmt_node (NnrsStmt-F.LetColl x a b) = 1 + (a + b)
stmt_node (NnrsStmt-F.Set x e) = 1 + expr_size e
stmt_node (NnrsStmt-F.Push x e) = 1 + expr_size e
stmt_node (NnrsStmt-F.For x e b) = 1 + (expr_size e + b)
stmt_node (NnrsStmt-F.If e a b) = 1 + (expr_size e + (a + b))
stmt_node (NnrsStmt-F.Either e x a y b) = 1 + (expr_size e + (a + b))

-- how many nodes a statement has
abbrev pub stmt_size : NnrsStmt → ℕ
stmt_size s = fold-NnrsStmt ℕ stmt_node s

-- how many nodes a program has
abbrev pub size : Nnrs → ℕ
size p = 1 + stmt_size p.body
