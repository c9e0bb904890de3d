-- The written form of trees. Parts stand one space apart, in parentheses.
use Rattle.std.specs.Prelude.{ℕ, List, codes}
use Rattle.qc_data.specs.Encoding.{enc}
use Rattle.qc_schema.specs.Writing.{text_of}
use Rattle.qc_trees.specs.OperatorTexts.{name_text, unary_text, binary_text, with_one, with_two, with_three}
use Rattle.qc_nra.specs.declared.tree.Nra.{Nra}
use Rattle.qc_nra.specs.declared.tree.Nra.TheOpen.{Nra-F}
use Rattle.qc_nra.specs.declared.tree.Nra.TheFolds.{fold-Nra}

-- a form, by the texts of its parts
abbrev pub form_text : Nra-F (List ℕ) → List ℕ
form_text (Nra-F.Const d) = with_one (codes "const") (text_of (enc d))
form_text Nra-F.Input = codes "in"
form_text Nra-F.Env = codes "env"
form_text (Nra-F.Global name) = with_one (codes "global") (name_text name)
form_text (Nra-F.Unary op a) = with_one (unary_text op) a
form_text (Nra-F.Binary op a b) = with_two (binary_text op) a b
form_text (Nra-F.Comp a b) = with_two (codes "comp") a b
form_text (Nra-F.Map a b) = with_two (codes "map") a b
form_text (Nra-F.Select a b) = with_two (codes "select") a b
form_text (Nra-F.Product a b) = with_two (codes "product") a b
form_text (Nra-F.DepJoin a b) = with_two (codes "djoin") a b
form_text (Nra-F.Default a b) = with_two (codes "default") a b
form_text (Nra-F.EnvComp a b) = with_two (codes "compenv") a b
form_text (Nra-F.MapEnv a) = with_one (codes "mapenv") a
form_text (Nra-F.Either a b) = with_two (codes "either") a b
form_text (Nra-F.If a b c) = with_three (codes "if") a b c

-- the written form of a tree
abbrev pub spelling : Nra → List ℕ
spelling q = fold-Nra (List ℕ) form_text q
