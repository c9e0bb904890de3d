-- The rules: each variable is declared once where it is in scope, and used as its class says; each call has as many
-- arguments as its function takes; and the bare [] is written for a collector alone.
use Rattle.std.specs.Prelude.{ℕ, ◌==◌, ◌&&◌, not, Bool, true, false, if◌then◌else◌, List, [], ◌∷◌, ◌++◌, map, length}
use Rattle.std.specs.Prelude.{Option, Some, None, is_some, option_and_then}
use Rattle.qc_rt.specs.Table.{arguments_of}
use Rattle.qc_js.specs.declared.scope.Class.{Class}
use Rattle.qc_js.specs.declared.scope.Class.TheVariants.{Settable, Readable, Pushable}
use Rattle.qc_js.specs.declared.tree.Expr.{Expr}
use Rattle.qc_js.specs.declared.tree.Expr.TheOpen.{Expr-F}
use Rattle.qc_js.specs.declared.tree.Expr.TheFolds.{fold-Expr}
use Rattle.qc_js.specs.declared.tree.Stmt.{Stmt}
use Rattle.qc_js.specs.declared.tree.Stmt.TheOpen.{Stmt-F}
use Rattle.qc_js.specs.declared.tree.Stmt.TheFolds.{fold-Stmt}
use Rattle.qc_js.specs.declared.tree.Program.{Program}
use Rattle.qc_js.specs.Held.{all_true}

-- the variables in scope with their classes, the newest last
abbrev pub Scope : Type 0
Scope = List (ℕ × Class)

abbrev pub class_of : ℕ → Scope → Option Class
class_of x [] = None
class_of x (b ∷ s) = if b.0 == x then Some b.1 else class_of x s

-- ---- expressions

-- all but a collector in its block may be read
abbrev pub may_read : Option Class → Bool
may_read (Some Settable) = true
may_read (Some Readable) = true
may_read _ = false

abbrev pub may_set : Option Class → Bool
may_set (Some Settable) = true
may_set _ = false

abbrev pub may_push : Option Class → Bool
may_push (Some Pushable) = true
may_push _ = false

-- an expression reads what may be read, and its calls have the arguments that their functions take
abbrev pub expr_layer : Scope → Expr-F Bool → Bool
expr_layer s (Expr-F.Var x) = may_read (class_of x s)
expr_layer s (Expr-F.Array xs) = all_true xs
expr_layer s (Expr-F.Call f xs) = (length xs == arguments_of f) && all_true xs
expr_layer s _ = true

abbrev pub expr_fits : Scope → Expr → Bool
expr_fits s = fold-Expr Bool (expr_layer s)

-- whether an expression is [] and no more
abbrev pub bare_layer : Expr-F Bool → Bool
bare_layer (Expr-F.Array []) = true
bare_layer _ = false

abbrev pub is_bare : Expr → Bool
is_bare = fold-Expr Bool bare_layer

-- ---- statements

-- the scope behind a statement, where it meets the rules
abbrev pub Rule : Type 0
Rule = Scope → Option Scope

-- a variable that is declared, where none of its number is in scope
abbrev pub declared : ℕ → Class → Rule
declared x class s = if is_some (class_of x s) then None else Some (s ++ (x, class) ∷ [])

-- statements in order
abbrev pub all_rules : List Rule → Rule
all_rules [] s = Some s
all_rules (f ∷ fs) s = option_and_then (λ t. all_rules fs t) (f s)

-- a block, whose declarations end with it
abbrev pub block_rule : List Rule → Rule
block_rule fs s = option_and_then (λ t. Some s) (all_rules fs s)

-- each statement by those of its parts
abbrev pub set_rule : ℕ → Expr → Rule
set_rule x e s = if expr_fits s e && may_set (class_of x s) then Some s else None

abbrev pub const_rule : ℕ → Expr → Rule
const_rule x e s = if expr_fits s e && not (is_bare e) then declared x Readable s else None

abbrev pub collect_rule : ℕ → List Rule → Rule
collect_rule x fs s =
    option_and_then (λ t. option_and_then (λ u. Some (s ++ (x, Readable) ∷ [])) (all_rules fs t))
    (declared x Pushable s)

abbrev pub push_rule : ℕ → Expr → Rule
push_rule x e s = if expr_fits s e && may_push (class_of x s) then Some s else None

abbrev pub for_rule : ℕ → Expr → List Rule → Rule
for_rule x e fs s =
    if expr_fits s e
    then option_and_then (λ t. option_and_then (λ u. Some s) (all_rules fs t)) (declared x Readable s)
    else None

abbrev pub then_rule : Expr → List Rule → Rule
then_rule e fs s = if expr_fits s e then block_rule fs s else None

abbrev pub if_rule : Expr → List Rule → List Rule → Rule
if_rule e fs gs s = option_and_then (λ t. block_rule gs t) (then_rule e fs s)

abbrev pub rule_layer : Stmt-F Rule → Rule
rule_layer (Stmt-F.Let x) = declared x Settable
rule_layer (Stmt-F.Set x e) = set_rule x e
rule_layer (Stmt-F.Const x e) = const_rule x e
rule_layer (Stmt-F.Collect x fs) = collect_rule x fs
rule_layer (Stmt-F.Push x e) = push_rule x e
rule_layer (Stmt-F.For x e fs) = for_rule x e fs
rule_layer (Stmt-F.If e fs gs) = if_rule e fs gs
rule_layer (Stmt-F.Block fs) = block_rule fs

abbrev pub rule : Stmt → Rule
rule = fold-Stmt Rule rule_layer

-- whether an expression fits in a scope that is there
abbrev pub fits_in : Expr → Option Scope → Bool
fits_in e None = false
fits_in e (Some s) = expr_fits s e

-- a program: its statements, and behind them its expression
abbrev pub well_formed : Program → Bool
well_formed p = fits_in p.result (all_rules (map rule p.body) [])
