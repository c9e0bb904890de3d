-- The size of a tree: a node for each form, where an operator with its parameters is one form.
use Rattle.std.specs.Prelude.{ℕ, ◌+◌}
use Rattle.qc_nnrc.specs.declared.tree.Nnrc.{Nnrc}
use Rattle.qc_nnrc.specs.declared.tree.Nnrc.TheOpen.{Nnrc-F}
use Rattle.qc_nnrc.specs.declared.tree.Nnrc.TheFolds.{fold-Nnrc}

-- a form, by the sizes of its parts
abbrev pub node : Nnrc-F ℕ → ℕ
node (Nnrc-F.Var x) = 1
node (Nnrc-F.Const d) = 1
node (Nnrc-F.Global name) = 1
node (Nnrc-F.Unary op a) = 1 + a
node (Nnrc-F.Binary op a b) = 1 + (a + b)
node (Nnrc-F.Let x a b) = 1 + (a + b)
node (Nnrc-F.For x a b) = 1 + (a + b)
node (Nnrc-F.If a b c) = 1 + (a + (b + c))
node (Nnrc-F.Either a x b y c) = 1 + (a + (b + c))

-- how many nodes a tree has
abbrev pub size : Nnrc → ℕ
size e = fold-Nnrc ℕ node e
