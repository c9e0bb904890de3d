-- The size of a tree: a node for each form, where an operator with its parameters is one form.
use Rattle.std.specs.Prelude.{ℕ, ◌+◌}
use Rattle.qc_nra.specs.declared.tree.Nra.{Nra}
use Rattle.qc_nra.specs.declared.tree.Nra.TheOpen.{Nra-F}
use Rattle.qc_nra.specs.declared.tree.Nra.TheFolds.{fold-Nra}

-- a form, by the sizes of its parts
abbrev pub node : Nra-F ℕ → ℕ
node (Nra-F.Const d) = 1
node Nra-F.Input = 1
node Nra-F.Env = 1
node (Nra-F.Global name) = 1
node (Nra-F.Unary op a) = 1 + a
node (Nra-F.Binary op a b) = 1 + (a + b)
node (Nra-F.Comp a b) = 1 + (a + b)
node (Nra-F.Map a b) = 1 + (a + b)
node (Nra-F.Select a b) = 1 + (a + b)
node (Nra-F.Product a b) = 1 + (a + b)
node (Nra-F.DepJoin a b) = 1 + (a + b)
node (Nra-F.Default a b) = 1 + (a + b)
node (Nra-F.EnvComp a b) = 1 + (a + b)
node (Nra-F.MapEnv a) = 1 + a
node (Nra-F.Either a b) = 1 + (a + b)
node (Nra-F.If a b c) = 1 + (a + (b + c))

-- how many nodes a tree has
abbrev pub size : Nra → ℕ
size q = fold-Nra ℕ node q
