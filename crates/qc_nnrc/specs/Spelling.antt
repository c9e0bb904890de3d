-- The written form of trees. Parts stand one space apart, in parentheses.
use Rattle.std.specs.Prelude.{ℕ, List, ◌++◌, codes}
use Rattle.qc_data.specs.Encoding.{enc}
use Rattle.qc_schema.specs.Writing.{text_of}
use Rattle.qc_trees.specs.OperatorTexts.{name_text, unary_text, binary_text, opened, next, with_one, with_two}
use Rattle.qc_trees.specs.OperatorTexts.{variable_text, with_three}
use Rattle.qc_nnrc.specs.declared.tree.Nnrc.{Nnrc}
use Rattle.qc_nnrc.specs.declared.tree.Nnrc.TheOpen.{Nnrc-F}
use Rattle.qc_nnrc.specs.declared.tree.Nnrc.TheFolds.{fold-Nnrc}

-- a form, by the texts of its parts
abbrev pub form_text : Nnrc-F (List ℕ) → List ℕ
form_text (Nnrc-F.Var x) = variable_text x
form_text (Nnrc-F.Const d) = with_one (codes "const") (text_of (enc d))
form_text (Nnrc-F.Global name) = with_one (codes "global") (name_text name)
form_text (Nnrc-F.Unary op a) = with_one (unary_text op) a
form_text (Nnrc-F.Binary op a b) = with_two (binary_text op) a b
form_text (Nnrc-F.Let x a b) = with_three (codes "let") (variable_text x) a b
form_text (Nnrc-F.For x a b) = with_three (codes "for") (variable_text x) a b
form_text (Nnrc-F.If a b c) = with_three (codes "if") a b c
form_text (Nnrc-F.Either a x b y c) =
    opened (codes "either") a
    ++ (next (variable_text x) ++ (next b ++ (next (variable_text y) ++ (next c ++ codes ")"))))

-- the written form of a tree
abbrev pub spelling : Nnrc → List ℕ
spelling e = fold-Nnrc (List ℕ) form_text e
