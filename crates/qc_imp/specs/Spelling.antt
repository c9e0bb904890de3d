-- The written form of programs. Parts stand one space apart, in parentheses.
use Rattle.std.specs.Prelude.{ℕ, List, [], ◌∷◌, ◌++◌, codes}
use Rattle.qc_data.specs.Encoding.{enc}
use Rattle.qc_schema.specs.Writing.{text_of}
use Rattle.qc_trees.specs.OperatorTexts.{name_text, unary_text, binary_text, opened, next, with_one, with_two}
use Rattle.qc_trees.specs.OperatorTexts.{variable_text, with_three}
use Rattle.qc_imp.specs.declared.tree.ImpExpr.{ImpExpr}
use Rattle.qc_imp.specs.declared.tree.ImpExpr.TheOpen.{ImpExpr-F}
use Rattle.qc_imp.specs.declared.tree.ImpExpr.TheFolds.{fold-ImpExpr}
use Rattle.qc_imp.specs.declared.tree.ImpStmt.{ImpStmt}
use Rattle.qc_imp.specs.declared.tree.ImpStmt.TheOpen.{ImpStmt-F}
use Rattle.qc_imp.specs.declared.tree.ImpStmt.TheFolds.{fold-ImpStmt}
use Rattle.qc_imp.specs.declared.tree.Imp.{Imp}

-- an expression, by the texts of its parts
abbrev pub expr_text : ImpExpr-F (List ℕ) → List ℕ
expr_text (ImpExpr-F.Var x) = variable_text x
expr_text (ImpExpr-F.Const d) = with_one (codes "const") (text_of (enc d))
expr_text (ImpExpr-F.Global name) = with_one (codes "global") (name_text name)
expr_text (ImpExpr-F.Unary op a) = with_one (unary_text op) a
expr_text (ImpExpr-F.Binary op a b) = with_two (binary_text op) a b
expr_text (ImpExpr-F.IsLeft a) = with_one (codes "isleft") a
expr_text (ImpExpr-F.Payload a) = with_one (codes "payload") a

-- the written form of an expression
abbrev pub expr_spelling : ImpExpr → List ℕ
expr_spelling e = fold-ImpExpr (List ℕ) expr_text e

-- further parts, and the end of their form
abbrev pub after_parts : List (List ℕ) → List ℕ
after_parts [] = codes ")"
after_parts (a ∷ ss) = next a ++ after_parts ss

-- a statement, by the texts of its parts
abbrev pub stmt_text : ImpStmt-F (List ℕ) → List ℕ
stmt_text (ImpStmt-F.Block ss) = codes "(block" ++ after_parts ss
stmt_text (ImpStmt-F.Var x) = with_one (codes "var") (variable_text x)
stmt_text (ImpStmt-F.Val x e) = with_two (codes "val") (variable_text x) (expr_spelling e)
stmt_text (ImpStmt-F.Set x e) = with_two (codes "set") (variable_text x) (expr_spelling e)
stmt_text (ImpStmt-F.Collect x ss) = opened (codes "collect") (variable_text x) ++ after_parts ss
stmt_text (ImpStmt-F.Push x e) = with_two (codes "push") (variable_text x) (expr_spelling e)
stmt_text (ImpStmt-F.For x e a) = with_three (codes "for") (variable_text x) (expr_spelling e) a
stmt_text (ImpStmt-F.If e a b) = with_three (codes "if") (expr_spelling e) a b

-- the written form of a statement
abbrev pub stmt_spelling : ImpStmt → List ℕ
stmt_spelling s = fold-ImpStmt (List ℕ) stmt_text s

-- the written form of a program
abbrev pub spelling : Imp → List ℕ
spelling p = with_two (codes "prog") (stmt_spelling p.body) (variable_text p.result)
