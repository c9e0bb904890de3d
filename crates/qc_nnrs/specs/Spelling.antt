-- The written form of programs. Parts stand one space apart, in parentheses.
use Rattle.std.specs.Prelude.{ℕ, List, ◌++◌, codes}
use Rattle.qc_data.specs.Encoding.{enc}
use Rattle.qc_schema.specs.Writing.{text_of}
use Rattle.qc_trees.specs.OperatorTexts.{name_text, unary_text, binary_text, opened, next, with_one, with_two}
use Rattle.qc_trees.specs.OperatorTexts.{variable_text, with_three}
use Rattle.qc_nnrs.specs.declared.tree.NnrsExpr.{NnrsExpr}
use Rattle.qc_nnrs.specs.declared.tree.NnrsExpr.TheOpen.{NnrsExpr-F}
use Rattle.qc_nnrs.specs.declared.tree.NnrsExpr.TheFolds.{fold-NnrsExpr}
use Rattle.qc_nnrs.specs.declared.tree.NnrsStmt.{NnrsStmt}
use Rattle.qc_nnrs.specs.declared.tree.NnrsStmt.TheOpen.{NnrsStmt-F}
use Rattle.qc_nnrs.specs.declared.tree.NnrsStmt.TheFolds.{fold-NnrsStmt}
use Rattle.qc_nnrs.specs.declared.tree.Nnrs.{Nnrs}

-- an expression, by the texts of its parts
abbrev pub expr_text : NnrsExpr-F (List ℕ) → List ℕ
expr_text (NnrsExpr-F.Var x) = variable_text x
expr_text (NnrsExpr-F.Const d) = with_one (codes "const") (text_of (enc d))
expr_text (NnrsExpr-F.Global name) = with_one (codes "global") (name_text name)
expr_text (NnrsExpr-F.Unary op a) = with_one (unary_text op) a
expr_text (NnrsExpr-F.Binary op a b) = with_two (binary_text op) a b

-- the written form of an expression
abbrev pub expr_spelling : NnrsExpr → List ℕ
expr_spelling e = fold-NnrsExpr (List ℕ) expr_text e

-- a statement, by the texts of its parts
abbrev pub stmt_text : NnrsStmt-F (List ℕ) → List ℕ
stmt_text (NnrsStmt-F.Seq a b) = with_two (codes "seq") a b
stmt_text (NnrsStmt-F.Let x e b) = with_three (codes "let") (variable_text x) (expr_spelling e) b
stmt_text (NnrsStmt-F.LetMut x a b) = with_three (codes "letmut") (variable_text x) a b
stmt_text (NnrsStmt-F.LetColl x a b) = with_three (codes "letcoll") (variable_text x) a b
stmt_text (NnrsStmt-F.Set x e) = with_two (codes "set") (variable_text x) (expr_spelling e)
stmt_text (NnrsStmt-F.Push x e) = with_two (codes "push") (variable_text x) (expr_spelling e)
stmt_text (NnrsStmt-F.For x e b) = with_three (codes "for") (variable_text x) (expr_spelling e) b
stmt_text (NnrsStmt-F.If e a b) = with_three (codes "if") (expr_spelling e) a b
stmt_text (NnrsStmt-F.Either e x a y b) =
    opened (codes "either") (expr_spelling e)
    ++ (next (variable_text x) ++ (next a ++ (next (variable_text y) ++ (next b ++ codes ")"))))

-- the written form of a statement
abbrev pub stmt_spelling : NnrsStmt → List ℕ
stmt_spelling s = fold-NnrsStmt (List ℕ) stmt_text s

-- the written form of a program: its statement, and the variable that it returns
abbrev pub spelling : Nnrs → List ℕ
spelling p = with_two (codes "prog") (stmt_spelling p.body) (variable_text p.result)
