-- Induction over trees: what holds of the parts.
use Rattle.std.specs.Prelude.{ℕ}
use Rattle.std.proofs.Common.{subst}
use Rattle.qc_nnrc.specs.declared.tree.Nnrc.{Nnrc}
use Rattle.qc_nnrc.specs.declared.tree.Nnrc.TheOpen.{Nnrc-F}
use Rattle.qc_nnrc.specs.declared.tree.Nnrc.TheViews.{roll-Nnrc}
use Rattle.qc_nnrc.specs.declared.tree.Nnrc.TheFolds.{map-Nnrc, ind-Nnrc}

-- P holds of each part
abbrev pub Held : (Nnrc → Type 0) → Nnrc-F Nnrc → Type 0
Held P (Nnrc-F.Var x) = Unit {0}
Held P (Nnrc-F.Const d) = Unit {0}
Held P (Nnrc-F.Global name) = Unit {0}
Held P (Nnrc-F.Unary op a) = P a
Held P (Nnrc-F.Binary op a b) = P a × P b
Held P (Nnrc-F.Let x a b) = P a × P b
Held P (Nnrc-F.For x a b) = P a × P b
Held P (Nnrc-F.If a b c) = P a × P b × P c
Held P (Nnrc-F.Either a x b y c) = P a × P b × P c

held : (P : Nnrc → Type 0) (w : Nnrc-F ((e : Nnrc) × P e)) → Held P (map-Nnrc ((e : Nnrc) × P e) Nnrc (λ p. p.0) w)
held P (Nnrc-F.Var x) = tt
held P (Nnrc-F.Const d) = tt
held P (Nnrc-F.Global name) = tt
held P (Nnrc-F.Unary op a) = a.1
held P (Nnrc-F.Binary op a b) = (a.1, b.1)
held P (Nnrc-F.Let x a b) = (a.1, b.1)
held P (Nnrc-F.For x a b) = (a.1, b.1)
held P (Nnrc-F.If a b c) = (a.1, b.1, c.1)
held P (Nnrc-F.Either a x b y c) = (a.1, b.1, c.1)

-- what holds of a tree if it holds of its parts holds of each tree
pub nnrc_ind : (P : Nnrc → Type 0) → ((x : Nnrc-F Nnrc) → Held P x → P (roll-Nnrc x)) → (e : Nnrc) → P e
nnrc_ind P f = ind-Nnrc P (λ x w is. f x (subst (Held P) is (held P w)))
