-- The programs for those of statements. A variable has the number of binders that it stands under as its number. A form
-- takes the first numbers that are free to use, and hands what comes after them to the parts under its binders. What
-- comes out is one statement, which declares nothing outside itself.
use Rattle.std.specs.Prelude.{ℕ, ◌+◌, [], ◌∷◌}
use Rattle.qc_nnrs.specs.declared.tree.NnrsExpr.{NnrsExpr}
use Rattle.qc_nnrs.specs.declared.tree.NnrsExpr.TheOpen.{NnrsExpr-F}
use Rattle.qc_nnrs.specs.declared.tree.NnrsExpr.TheFolds.{fold-NnrsExpr}
use Rattle.qc_nnrs.specs.declared.tree.NnrsStmt.{NnrsStmt}
use Rattle.qc_nnrs.specs.declared.tree.NnrsStmt.TheOpen.{NnrsStmt-F}
use Rattle.qc_nnrs.specs.declared.tree.NnrsStmt.TheFolds.{fold-NnrsStmt}
use Rattle.qc_nnrs.specs.declared.tree.Nnrs.{Nnrs}
use Rattle.qc_imp.specs.declared.tree.ImpExpr.{ImpExpr}
use Rattle.qc_imp.specs.declared.tree.ImpExpr.TheVariants as expr
use Rattle.qc_imp.specs.declared.tree.ImpStmt.{ImpStmt}
use Rattle.qc_imp.specs.declared.tree.ImpStmt.TheVariants as stmt
use Rattle.qc_imp.specs.declared.tree.Imp.{Imp}
use Rattle.qc_to_imp.specs.inner.Numbering.{Numbers, number_of}

-- ---- expressions

-- an expression, by the numbers of variables
abbrev pub Renaming : Type 0
Renaming = Numbers → ImpExpr

-- a form, by the expressions for its parts
abbrev pub expr_form : NnrsExpr-F Renaming → Renaming
expr_form (NnrsExpr-F.Var x) r = expr.Var (number_of x r)
expr_form (NnrsExpr-F.Const d) r = expr.Const d
expr_form (NnrsExpr-F.Global name) r = expr.Global name
expr_form (NnrsExpr-F.Unary op a) r = expr.Unary op (a r)
expr_form (NnrsExpr-F.Binary op a b) r = expr.Binary op (a r) (b r)

-- an expression by its parts
abbrev pub renamed : NnrsExpr → Renaming
renamed e = fold-NnrsExpr Renaming expr_form e

-- ---- statements

-- a statement, by the numbers of variables, and the first one that is free to use
abbrev pub Lowering : Type 0
Lowering = Numbers → ℕ → ImpStmt

-- two statements in order
abbrev pub both : ImpStmt → ImpStmt → ImpStmt
both a b = stmt.Block (a ∷ b ∷ [])

-- the second with what the first sets n to
abbrev pub assigned : ℕ → ImpStmt → ImpStmt → ImpStmt
assigned n a b = stmt.Block (stmt.Var n ∷ a ∷ b ∷ [])

-- the second with all that the first pushes to n
abbrev pub collected : ℕ → ImpStmt → ImpStmt → ImpStmt
collected n a b = both (stmt.Collect n (a ∷ [])) b

-- the statement with the content of the value at n as n + 1
abbrev pub with_content : ℕ → ImpStmt → ImpStmt
with_content n a = both (stmt.Val (n + 1) (expr.Payload (expr.Var n))) a

-- by the side of the value, which n stands for, one statement or the other, with the content as n + 1
abbrev pub by_side : ℕ → ImpExpr → ImpStmt → ImpStmt → ImpStmt
by_side n e a b = both (stmt.Val n e) (stmt.If (expr.IsLeft (expr.Var n)) (with_content n a) (with_content n b))

-- a form, by the statements for its parts
abbrev pub lower_form : NnrsStmt-F Lowering → Lowering
lower_form (NnrsStmt-F.Seq a b) r n = both (a r n) (b r n)
lower_form (NnrsStmt-F.Let x e b) r n = both (stmt.Val n (renamed e r)) (b ((x, n) ∷ r) (n + 1))
lower_form (NnrsStmt-F.LetMut x a b) r n = assigned n (a ((x, n) ∷ r) (n + 1)) (b ((x, n) ∷ r) (n + 1))
lower_form (NnrsStmt-F.LetColl x a b) r n = collected n (a ((x, n) ∷ r) (n + 1)) (b ((x, n) ∷ r) (n + 1))
lower_form (NnrsStmt-F.Set x e) r n = stmt.Set (number_of x r) (renamed e r)
lower_form (NnrsStmt-F.Push x e) r n = stmt.Push (number_of x r) (renamed e r)
lower_form (NnrsStmt-F.For x e b) r n = stmt.For n (renamed e r) (b ((x, n) ∷ r) (n + 1))
lower_form (NnrsStmt-F.If e a b) r n = stmt.If (renamed e r) (a r n) (b r n)
lower_form (NnrsStmt-F.Either e x a y b) r n =
    by_side n (renamed e r) (a ((x, n + 1) ∷ r) (n + 1 + 1)) (b ((y, n + 1) ∷ r) (n + 1 + 1))

-- a statement by its parts
abbrev pub lower : NnrsStmt → Lowering
lower s = fold-NnrsStmt Lowering lower_form s

-- a program: its variable is 0
abbrev pub lowered : Nnrs → Imp
lowered p =
    record { body = both (stmt.Var 0) (lower p.body ((p.result, 0) ∷ []) 1); result = 0 }
