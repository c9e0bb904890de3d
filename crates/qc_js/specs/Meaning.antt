-- What programs answer on the JSON of the world, by mode. A statement takes the variables that are declared to those
-- after it. The first outcome that is no value decides.
use Rattle.std.specs.Prelude.{ℕ, ◌==◌, ◌-◌, cond, List, [], ◌∷◌, ◌++◌, length, drop, map}
use Rattle.std.specs.Prelude.{Bool, true, false, Option, Some, None}
use Rattle.qc_data.specs.Kinds.{json_array}
use Rattle.qc_data.specs.Outcome.{Mode, Outcome, Value, Halts, Stuck, and_then}
use Rattle.qc_data.specs.declared.data.Json.{Json}
use Rattle.qc_data.specs.declared.data.Json.TheOpen.{Json-F}
use Rattle.qc_data.specs.declared.data.Json.TheViews.{out-Json}
use Rattle.qc_data.specs.declared.data.Json.TheVariants as json
use Rattle.qc_rt.specs.Runtime.{runtime}
use Rattle.qc_js.specs.declared.tree.Expr.{Expr}
use Rattle.qc_js.specs.declared.tree.Expr.TheOpen.{Expr-F}
use Rattle.qc_js.specs.declared.tree.Expr.TheFolds.{fold-Expr}
use Rattle.qc_js.specs.declared.tree.Stmt.{Stmt}
use Rattle.qc_js.specs.declared.tree.Stmt.TheOpen.{Stmt-F}
use Rattle.qc_js.specs.declared.tree.Stmt.TheFolds.{fold-Stmt}
use Rattle.qc_js.specs.declared.tree.Program.{Program}

-- ---- variables

-- what a declared variable holds: it may be set, and has a value where it was; it has a value for good; or it is pushed
-- to, and has what was pushed
pub data Cell : Type 0 where
  Settable : (value : Option Json) → Cell
  Constant : (value : Json) → Cell
  Collecting : (items : List Json) → Cell

-- the variables that are declared, the newest first
abbrev pub Store : Type 0
Store = List (ℕ × Cell)

-- the cell of a variable
abbrev pub cell_of : ℕ → Store → Option Cell
cell_of x [] = None
cell_of x (c ∷ st) = cond (c.0 == x) (Some c.1) (cell_of x st)

-- the value of a variable that may be read
abbrev pub value_in : Option Cell → Option Json
value_in (Some (Settable o)) = o
value_in (Some (Constant j)) = Some j
value_in _ = None

-- what was found, or Stuck
abbrev pub found : Option Json → Outcome Json
found (Some j) = Value j
found None = Halts Stuck

-- a cell that is set to a value, or has it pushed to it
abbrev pub set_to : Json → Cell → Outcome Cell
set_to j (Settable o) = Value (Settable (Some j))
set_to j _ = Halts Stuck

abbrev pub pushed_to : Json → Cell → Outcome Cell
pushed_to j (Collecting js) = Value (Collecting (js ++ j ∷ []))
pushed_to j _ = Halts Stuck

-- the cell of a variable changed, where it is declared
abbrev pub changed : (Cell → Outcome Cell) → ℕ → Store → Outcome Store
changed h x [] = Halts Stuck
changed h x (c ∷ st) =
    cond (c.0 == x) (and_then (h c.1) (λ d. Value ((c.0, d) ∷ st))) (and_then (changed h x st) (λ t. Value (c ∷ t)))

-- what was declared before, where the second store has it and more
abbrev pub outer : Store → Store → Store
outer st t = drop (length t - length st) t

-- a collector that is done is a constant
abbrev pub done : Cell → Cell
done (Collecting js) = Constant (json.Array js)
done c = c

abbrev pub newest_done : Store → Store
newest_done [] = []
newest_done (c ∷ st) = (c.0, done c.1) ∷ st

-- ---- expressions

-- the outcome of an expression, by what is declared
abbrev pub Reading : Type 0
Reading = Store → Outcome Json

-- expressions in order
abbrev pub values_of : List Reading → Store → Outcome (List Json)
values_of [] st = Value []
values_of (a ∷ xs) st = and_then (a st) (λ j. and_then (values_of xs st) (λ js. Value (j ∷ js)))

-- an expression by the outcomes of its parts; a written integer is bounded in no mode
abbrev pub expr_form : Mode → Json → Expr-F Reading → Reading
expr_form m w (Expr-F.Var x) st = found (value_in (cell_of x st))
expr_form m w Expr-F.World st = Value w
expr_form m w Expr-F.True st = Value (json.Bool true)
expr_form m w Expr-F.False st = Value (json.Bool false)
expr_form m w Expr-F.Null st = Value json.Null
expr_form m w (Expr-F.Int n) st = Value (json.Int n)
expr_form m w (Expr-F.Text t) st = Value (json.Text t)
expr_form m w (Expr-F.Array xs) st = and_then (values_of xs st) (λ js. Value (json.Array js))
expr_form m w (Expr-F.Call f xs) st = and_then (values_of xs st) (runtime m f)

abbrev pub expr : Mode → Json → Expr → Reading
expr m w e = fold-Expr Reading (expr_form m w) e

-- ---- statements

-- what is declared after a statement, by what was before it
abbrev pub Meaning : Type 0
Meaning = Store → Outcome Store

-- statements in order
abbrev pub all_of : List Meaning → Meaning
all_of [] st = Value st
all_of (a ∷ ss) st = and_then (a st) (all_of ss)

-- a block: its declarations end with it
unfoldable pub scoped : List Meaning → Meaning
scoped ss st = and_then (all_of ss st) (λ t. Value (outer st t))

-- a block with one more variable, which ends with it
unfoldable pub with_constant : ℕ → List Meaning → Json → Meaning
with_constant x ss j st = and_then (all_of ss ((x, Constant j) ∷ st)) (λ t. Value (outer st t))

-- for: the part for each member in order
abbrev pub for_each : (Json → Meaning) → List Json → Meaning
for_each a [] st = Value st
for_each a (j ∷ js) st = and_then (a j st) (for_each a js)

-- a collector: the block pushes to the variable, which stands for what was pushed once it is done
unfoldable pub collected : ℕ → List Meaning → Meaning
collected x ss st = and_then (scoped ss ((x, Collecting []) ∷ st)) (λ t. Value (newest_done t))

-- the truth value that a condition is
abbrev pub truth_at : Json-F Json → Outcome Bool
truth_at (Json-F.Bool b) = Value b
truth_at _ = Halts Stuck

abbrev pub truth : Json → Outcome Bool
truth j = truth_at (out-Json j)

-- a statement by the meanings of its parts
abbrev pub form : Mode → Json → Stmt-F Meaning → Meaning
form m w (Stmt-F.Let x) st = Value ((x, Settable None) ∷ st)
form m w (Stmt-F.Set x e) st = and_then (expr m w e st) (λ j. changed (set_to j) x st)
form m w (Stmt-F.Const x e) st = and_then (expr m w e st) (λ j. Value ((x, Constant j) ∷ st))
form m w (Stmt-F.Collect x ss) st = collected x ss st
form m w (Stmt-F.Push x e) st = and_then (expr m w e st) (λ j. changed (pushed_to j) x st)
form m w (Stmt-F.For x e ss) st =
    and_then (expr m w e st) (λ j. and_then (json_array j) (λ js. for_each (with_constant x ss) js st))
form m w (Stmt-F.If e ss us) st =
    and_then (and_then (expr m w e st) truth) (λ holds. cond holds (scoped ss st) (scoped us st))
form m w (Stmt-F.Block ss) st = scoped ss st

-- what is declared after a statement, in a mode and on the JSON of the world
abbrev pub stmt : Mode → Json → Stmt → Meaning
stmt m w s = fold-Stmt Meaning (form m w) s

-- a program: the outcome of its expression behind its statements
abbrev pub js : Mode → Program → Json → Outcome Json
js m p w = and_then (all_of (map (stmt m w) p.body) []) (expr m w p.result)
