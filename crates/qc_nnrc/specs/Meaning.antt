-- What trees of the calculus mean, by mode and world, and by what variables stand for. The first outcome that is no
-- value decides.
use Rattle.std.specs.Prelude.{ℕ, cond, List, ◌∷◌}
use Rattle.qc_data.specs.Kinds.{as_coll}
use Rattle.qc_data.specs.Outcome.{Mode, Outcome, Value, and_then, each}
use Rattle.qc_data.specs.declared.data.Datum.{Datum}
use Rattle.qc_ops.specs.Operands.{bag, found}
use Rattle.qc_ops.specs.Operators.{unary, binary}
use Rattle.qc_types.specs.Schemas.{WorldOf, global}
use Rattle.qc_trees.specs.Branches.{truth}
use Rattle.qc_ops.specs.Sides.{by_side}
use Rattle.qc_nnrc.specs.declared.tree.Nnrc.{Nnrc}
use Rattle.qc_nnrc.specs.declared.tree.Nnrc.TheOpen.{Nnrc-F}
use Rattle.qc_nnrc.specs.declared.tree.Nnrc.TheFolds.{fold-Nnrc}
use Rattle.qc_nnrc.specs.Variables.{look}

-- the values of variables
abbrev pub Values : Type 0
Values = List (ℕ × Datum)

-- the outcome of a tree, by the values of variables
abbrev pub Meaning : Type 0
Meaning = Values → Outcome Datum

-- let: the body with the value as the variable
unfoldable pub bound_to : ℕ → Meaning → Values → Datum → Outcome Datum
bound_to x b f v = b ((x, v) ∷ f)

-- for: the body with each member as the variable
unfoldable pub for_of : ℕ → Meaning → Values → Datum → Outcome Datum
for_of x b f v = and_then (as_coll v) (λ ds. bag (each (bound_to x b f) ds))

-- a tree by the meanings of its parts, and the values f of variables
abbrev pub form : Mode → WorldOf → Nnrc-F Meaning → Meaning
form m w (Nnrc-F.Var x) f = found (look x f)
form m w (Nnrc-F.Const d) f = Value d
form m w (Nnrc-F.Global name) f = found (global name w.datum)
form m w (Nnrc-F.Unary op a) f = and_then (a f) (unary m w.classes op)
form m w (Nnrc-F.Binary op a b) f = and_then (a f) (λ u. and_then (b f) (λ v. binary m op u v))
form m w (Nnrc-F.Let x a b) f = and_then (a f) (bound_to x b f)
form m w (Nnrc-F.For x a b) f = and_then (a f) (for_of x b f)
form m w (Nnrc-F.If a b c) f = and_then (truth (a f)) (λ holds. cond holds (b f) (c f))
form m w (Nnrc-F.Either a x b y c) f = and_then (a f) (by_side (bound_to x b f) (bound_to y c f))

-- the outcome of a tree in a mode and a world, by the values of variables
abbrev pub nnrc : Mode → WorldOf → Nnrc → Meaning
nnrc m w e = fold-Nnrc Meaning (form m w) e
