-- Induction over trees: what holds of the parts.
use Rattle.std.proofs.Common.{subst}
use Rattle.qc_nra.specs.declared.tree.Nra.{Nra}
use Rattle.qc_nra.specs.declared.tree.Nra.TheOpen.{Nra-F}
use Rattle.qc_nra.specs.declared.tree.Nra.TheViews.{roll-Nra}
use Rattle.qc_nra.specs.declared.tree.Nra.TheFolds.{map-Nra, ind-Nra}

-- P holds of each part
abbrev pub Held : (Nra → Type 0) → Nra-F Nra → Type 0
Held P (Nra-F.Const d) = Unit {0}
Held P Nra-F.Input = Unit {0}
Held P Nra-F.Env = Unit {0}
Held P (Nra-F.Global name) = Unit {0}
Held P (Nra-F.Unary op a) = P a
Held P (Nra-F.Binary op a b) = P a × P b
Held P (Nra-F.Comp a b) = P a × P b
Held P (Nra-F.Map a b) = P a × P b
Held P (Nra-F.Select a b) = P a × P b
Held P (Nra-F.Product a b) = P a × P b
Held P (Nra-F.DepJoin a b) = P a × P b
Held P (Nra-F.Default a b) = P a × P b
Held P (Nra-F.EnvComp a b) = P a × P b
Held P (Nra-F.MapEnv a) = P a
Held P (Nra-F.Either a b) = P a × P b
Held P (Nra-F.If a b c) = P a × P b × P c

held : (P : Nra → Type 0) (w : Nra-F ((q : Nra) × P q)) → Held P (map-Nra ((q : Nra) × P q) Nra (λ e. e.0) w)
held P (Nra-F.Const d) = tt
held P Nra-F.Input = tt
held P Nra-F.Env = tt
held P (Nra-F.Global name) = tt
held P (Nra-F.Unary op a) = a.1
held P (Nra-F.Binary op a b) = (a.1, b.1)
held P (Nra-F.Comp a b) = (a.1, b.1)
held P (Nra-F.Map a b) = (a.1, b.1)
held P (Nra-F.Select a b) = (a.1, b.1)
held P (Nra-F.Product a b) = (a.1, b.1)
held P (Nra-F.DepJoin a b) = (a.1, b.1)
held P (Nra-F.Default a b) = (a.1, b.1)
held P (Nra-F.EnvComp a b) = (a.1, b.1)
held P (Nra-F.MapEnv a) = a.1
held P (Nra-F.Either a b) = (a.1, b.1)
held P (Nra-F.If a b c) = (a.1, b.1, c.1)

-- what holds of a tree if it holds of its parts holds of each tree
pub nra_ind : (P : Nra → Type 0) → ((x : Nra-F Nra) → Held P x → P (roll-Nra x)) → (q : Nra) → P q
nra_ind P f = ind-Nra P (λ x w is. f x (subst (Held P) is (held P w)))
