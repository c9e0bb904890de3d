-- What programs mean, by mode and world. A statement takes the variables that are declared to those after it. The
-- first outcome that is no value decides.
use Rattle.std.specs.Prelude.{ℕ, ◌==◌, ◌-◌, cond, List, [], ◌∷◌, ◌++◌, length, drop, map}
use Rattle.std.specs.Prelude.{true, false, Option, Some, None}
use Rattle.qc_data.specs.Kinds.{as_coll}
use Rattle.qc_data.specs.Outcome.{Mode, Outcome, Value, Halts, Stuck, and_then}
use Rattle.qc_data.specs.declared.data.Datum.{Datum}
use Rattle.qc_data.specs.declared.data.Datum.TheVariants.{Bool as Truth, Coll}
use Rattle.qc_ops.specs.Operands.{found}
use Rattle.qc_ops.specs.Operators.{unary, binary}
use Rattle.qc_ops.specs.Sides.{by_side}
use Rattle.qc_trees.specs.Branches.{truth}
use Rattle.qc_types.specs.Schemas.{WorldOf, global}
use Rattle.qc_imp.specs.declared.tree.ImpExpr.{ImpExpr}
use Rattle.qc_imp.specs.declared.tree.ImpExpr.TheOpen.{ImpExpr-F}
use Rattle.qc_imp.specs.declared.tree.ImpExpr.TheFolds.{fold-ImpExpr}
use Rattle.qc_imp.specs.declared.tree.ImpStmt.{ImpStmt}
use Rattle.qc_imp.specs.declared.tree.ImpStmt.TheOpen.{ImpStmt-F}
use Rattle.qc_imp.specs.declared.tree.ImpStmt.TheFolds.{fold-ImpStmt}
use Rattle.qc_imp.specs.declared.tree.ImpStmt.TheViews.{out-ImpStmt}
use Rattle.qc_imp.specs.declared.tree.Imp.{Imp}

-- ---- variables

-- what a declared variable holds: it may be set, and has a value where it was; it has a value for good; or it is pushed
-- to, and has what was pushed
pub data Cell : Type 0 where
  Settable : (value : Option Datum) → Cell
  Constant : (value : Datum) → Cell
  Collecting : (items : List Datum) → Cell

-- the variables that are declared, the newest first
abbrev pub Store : Type 0
Store = List (ℕ × Cell)

-- the cell of a variable
abbrev pub cell_of : ℕ → Store → Option Cell
cell_of x [] = None
cell_of x (c ∷ st) = cond (c.0 == x) (Some c.1) (cell_of x st)

-- the value of a variable that may be read
abbrev pub value_in : Option Cell → Option Datum
value_in (Some (Settable o)) = o
value_in (Some (Constant d)) = Some d
value_in _ = None

-- a cell that is set to a value, or has it pushed to it
abbrev pub set_to : Datum → Cell → Outcome Cell
set_to d (Settable o) = Value (Settable (Some d))
set_to d _ = Halts Stuck

abbrev pub pushed_to : Datum → Cell → Outcome Cell
pushed_to d (Collecting ds) = Value (Collecting (ds ++ d ∷ []))
pushed_to d _ = Halts Stuck

-- the cell of a variable changed, where it is declared
abbrev pub changed : (Cell → Outcome Cell) → ℕ → Store → Outcome Store
changed h x [] = Halts Stuck
changed h x (c ∷ st) =
    cond (c.0 == x) (and_then (h c.1) (λ d. Value ((c.0, d) ∷ st))) (and_then (changed h x st) (λ t. Value (c ∷ t)))

-- what was declared before, where the second store has it and more
abbrev pub outer : Store → Store → Store
outer st t = drop (length t - length st) t

-- a collector that is done is a constant
abbrev pub done : Cell → Cell
done (Collecting ds) = Constant (Coll ds)
done c = c

abbrev pub newest_done : Store → Store
newest_done [] = []
newest_done (c ∷ st) = (c.0, done c.1) ∷ st

-- ---- expressions

-- the outcome of an expression, by what is declared
abbrev pub Reading : Type 0
Reading = Store → Outcome Datum

-- an expression by the outcomes of its parts
abbrev pub expr_form : Mode → WorldOf → ImpExpr-F Reading → Reading
expr_form m w (ImpExpr-F.Var x) st = found (value_in (cell_of x st))
expr_form m w (ImpExpr-F.Const d) st = Value d
expr_form m w (ImpExpr-F.Global name) st = found (global name w.datum)
expr_form m w (ImpExpr-F.Unary op a) st = and_then (a st) (unary m w.classes op)
expr_form m w (ImpExpr-F.Binary op a b) st = and_then (a st) (λ u. and_then (b st) (λ v. binary m op u v))
expr_form m w (ImpExpr-F.IsLeft a) st = and_then (a st) (by_side (λ d. Value (Truth true)) (λ d. Value (Truth false)))
expr_form m w (ImpExpr-F.Payload a) st = and_then (a st) (by_side (λ d. Value d) (λ d. Value d))

abbrev pub expr : Mode → WorldOf → ImpExpr → Reading
expr m w e = fold-ImpExpr Reading (expr_form m w) e

-- ---- statements

-- what is declared after a statement, by what was before it
abbrev pub Meaning : Type 0
Meaning = Store → Outcome Store

-- statements in order
abbrev pub all_of : List Meaning → Meaning
all_of [] st = Value st
all_of (a ∷ ss) st = and_then (a st) (all_of ss)

-- a part of which the declarations end with it
unfoldable pub scoped : Meaning → Meaning
scoped a st = and_then (a st) (λ t. Value (outer st t))

-- a part with one more variable, which ends with it
unfoldable pub with_constant : ℕ → Meaning → Datum → Meaning
with_constant x a d st = and_then (a ((x, Constant d) ∷ st)) (λ t. Value (outer st t))

-- for: the part for each member in order
abbrev pub for_each : (Datum → Meaning) → List Datum → Meaning
for_each a [] st = Value st
for_each a (d ∷ ds) st = and_then (a d st) (for_each a ds)

-- collect: the block pushes to the variable, which stands for what was pushed once it is done
unfoldable pub collected : ℕ → Meaning → Meaning
collected x a st = and_then (scoped a ((x, Collecting []) ∷ st)) (λ t. Value (newest_done t))

-- a statement by the meanings of its parts
abbrev pub form : Mode → WorldOf → ImpStmt-F Meaning → Meaning
form m w (ImpStmt-F.Block ss) st = scoped (all_of ss) st
form m w (ImpStmt-F.Var x) st = Value ((x, Settable None) ∷ st)
form m w (ImpStmt-F.Val x e) st = and_then (expr m w e st) (λ d. Value ((x, Constant d) ∷ st))
form m w (ImpStmt-F.Set x e) st = and_then (expr m w e st) (λ d. changed (set_to d) x st)
form m w (ImpStmt-F.Collect x ss) st = collected x (all_of ss) st
form m w (ImpStmt-F.Push x e) st = and_then (expr m w e st) (λ d. changed (pushed_to d) x st)
form m w (ImpStmt-F.For x e a) st =
    and_then (expr m w e st) (λ v. and_then (as_coll v) (λ ds. for_each (with_constant x a) ds st))
form m w (ImpStmt-F.If e a b) st = and_then (truth (expr m w e st)) (λ holds. cond holds (scoped a st) (scoped b st))

-- what is declared after a statement, in a mode and a world
abbrev pub stmt : Mode → WorldOf → ImpStmt → Meaning
stmt m w s = fold-ImpStmt Meaning (form m w) s

-- the statements of a block, so that what they declare is still there
abbrev pub statements : ImpStmt-F ImpStmt → List ImpStmt
statements (ImpStmt-F.Block ss) = ss
statements _ = []

-- a program: the value of its variable behind its statements
abbrev pub imp : Mode → WorldOf → Imp → Outcome Datum
imp m w p =
    and_then (all_of (map (stmt m w) (statements (out-ImpStmt p.body))) [])
    (λ st. found (value_in (cell_of p.result st)))
