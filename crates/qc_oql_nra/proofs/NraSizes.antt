-- The size of each form of the algebra, by its parts.
use Rattle.std.proofs.Common.{◌≡◌, ℕ, ◌+◌, List, rules, sym, ap, ◌∙◌}
use Rattle.qc_data.specs.declared.data.Datum.{Datum}
use Rattle.qc_ops.specs.declared.op.Binary.{Binary}
use Rattle.qc_ops.specs.declared.op.Unary.{Unary}
use Rattle.qc_nra.specs.declared.tree.Nra.{Nra}
use Rattle.qc_nra.specs.declared.tree.Nra.TheVariants as tree
use Rattle.qc_nra.specs.declared.tree.Nra.TheOpen.{Nra-F}
use Rattle.qc_nra.specs.declared.tree.Nra.TheViews.{roll-Nra, the_lemmas}
use Rattle.qc_nra.specs.declared.tree.Nra.TheFolds.{fold-roll-Nra, map-Nra}
use Rattle.qc_nra.specs.Sizes.{node, size}

layer : (x : Nra-F Nra) (t : Nra) → roll-Nra x ≡ t → size t ≡ node (map-Nra Nra ℕ size x)
layer x t is = ap size (sym is) ∙ fold-roll-Nra ℕ node x

pub size-Const : (d : Datum) → size (tree.Const d) ≡ 1
size-Const d = layer (Nra-F.Const d) (tree.Const d) (search (rules, the_lemmas))

pub size-Input : size tree.Input ≡ 1
size-Input = layer Nra-F.Input tree.Input (search (rules, the_lemmas))

pub size-Env : size tree.Env ≡ 1
size-Env = layer Nra-F.Env tree.Env (search (rules, the_lemmas))

pub size-Global : (name : List ℕ) → size (tree.Global name) ≡ 1
size-Global name = layer (Nra-F.Global name) (tree.Global name) (search (rules, the_lemmas))

pub size-Unary : (op : Unary) (a : Nra) → size (tree.Unary op a) ≡ 1 + size a
size-Unary op a = layer (Nra-F.Unary op a) (tree.Unary op a) (search (rules, the_lemmas))

pub size-Binary : (op : Binary) (a b : Nra) → size (tree.Binary op a b) ≡ 1 + (size a + size b)
size-Binary op a b = layer (Nra-F.Binary op a b) (tree.Binary op a b) (search (rules, the_lemmas))

pub size-Comp : (a b : Nra) → size (tree.Comp a b) ≡ 1 + (size a + size b)
size-Comp a b = layer (Nra-F.Comp a b) (tree.Comp a b) (search (rules, the_lemmas))

pub size-Map : (a b : Nra) → size (tree.Map a b) ≡ 1 + (size a + size b)
size-Map a b = layer (Nra-F.Map a b) (tree.Map a b) (search (rules, the_lemmas))

pub size-Select : (a b : Nra) → size (tree.Select a b) ≡ 1 + (size a + size b)
size-Select a b = layer (Nra-F.Select a b) (tree.Select a b) (search (rules, the_lemmas))

pub size-DepJoin : (a b : Nra) → size (tree.DepJoin a b) ≡ 1 + (size a + size b)
size-DepJoin a b = layer (Nra-F.DepJoin a b) (tree.DepJoin a b) (search (rules, the_lemmas))

pub size-EnvComp : (a b : Nra) → size (tree.EnvComp a b) ≡ 1 + (size a + size b)
size-EnvComp a b = layer (Nra-F.EnvComp a b) (tree.EnvComp a b) (search (rules, the_lemmas))

pub size-Either : (a b : Nra) → size (tree.Either a b) ≡ 1 + (size a + size b)
size-Either a b = layer (Nra-F.Either a b) (tree.Either a b) (search (rules, the_lemmas))

pub size-If : (a b c : Nra) → size (tree.If a b c) ≡ 1 + (size a + (size b + size c))
size-If a b c = layer (Nra-F.If a b c) (tree.If a b c) (search (rules, the_lemmas))
