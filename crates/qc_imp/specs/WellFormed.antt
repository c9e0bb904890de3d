-- Which programs are well formed: each variable is declared once where it is in scope, and used as its class says.
use Rattle.std.specs.Prelude.{ℕ, ◌==◌, ◌&&◌, not, Bool, true, false, cond, List, [], ◌∷◌, map}
use Rattle.std.specs.Prelude.{Option, Some, None, is_some, option_and_then}
use Rattle.qc_imp.specs.declared.tree.ImpExpr.{ImpExpr}
use Rattle.qc_imp.specs.declared.tree.ImpExpr.TheOpen.{ImpExpr-F}
use Rattle.qc_imp.specs.declared.tree.ImpExpr.TheFolds.{fold-ImpExpr}
use Rattle.qc_imp.specs.declared.tree.ImpStmt.{ImpStmt}
use Rattle.qc_imp.specs.declared.tree.ImpStmt.TheOpen.{ImpStmt-F}
use Rattle.qc_imp.specs.declared.tree.ImpStmt.TheViews.{out-ImpStmt}
use Rattle.qc_imp.specs.declared.tree.ImpStmt.TheFolds.{fold-ImpStmt}
use Rattle.qc_imp.specs.declared.tree.Imp.{Imp}

-- how a variable may be used: read and set, read alone, or pushed to alone
pub data Class : Type 0 where
  Settable : Class
  Readable : Class
  Pushable : Class

-- the variables in scope, the newest first
abbrev pub Scope : Type 0
Scope = List (ℕ × Class)

abbrev pub class_of : ℕ → Scope → Option Class
class_of x [] = None
class_of x (b ∷ s) = cond (b.0 == x) (Some b.1) (class_of x s)

abbrev pub may_read : Option Class → Bool
may_read (Some Settable) = true
may_read (Some Readable) = true
may_read _ = false

abbrev pub may_set : Option Class → Bool
may_set (Some Settable) = true
may_set _ = false

abbrev pub may_push : Option Class → Bool
may_push (Some Pushable) = true
may_push _ = false

-- an expression reads what may be read
abbrev pub expr_fits : ImpExpr-F (Scope → Bool) → Scope → Bool
expr_fits (ImpExpr-F.Var x) s = may_read (class_of x s)
expr_fits (ImpExpr-F.Const d) s = true
expr_fits (ImpExpr-F.Global name) s = true
expr_fits (ImpExpr-F.Unary op a) s = a s
expr_fits (ImpExpr-F.Binary op a b) s = a s && b s
expr_fits (ImpExpr-F.IsLeft a) s = a s
expr_fits (ImpExpr-F.Payload a) s = a s

abbrev pub fits_expr : ImpExpr → Scope → Bool
fits_expr e = fold-ImpExpr (Scope → Bool) expr_fits e

-- the scope behind a statement, where it is well formed
abbrev pub Scoping : Type 0
Scoping = Scope → Option Scope

-- the scope, where the test is true
abbrev pub only : Bool → Scope → Option Scope
only test s = cond test (Some s) None

-- a variable that is declared, where none of its number is in scope
abbrev pub declared : ℕ → Class → Scope → Option Scope
declared x class s = only (not (is_some (class_of x s))) ((x, class) ∷ s)

-- statements in order
abbrev pub all_fit : List Scoping → Scoping
all_fit [] s = Some s
all_fit (a ∷ ss) s = option_and_then (all_fit ss) (a s)

-- a part of which the declarations end with it
abbrev pub part_fits : Scoping → Scope → Bool
part_fits a s = is_some (a s)

-- a statement by its parts
abbrev pub stmt_fits : ImpStmt-F Scoping → Scoping
stmt_fits (ImpStmt-F.Block ss) s = only (is_some (all_fit ss s)) s
stmt_fits (ImpStmt-F.Var x) s = declared x Settable s
stmt_fits (ImpStmt-F.Val x e) s = cond (fits_expr e s) (declared x Readable s) None
stmt_fits (ImpStmt-F.Set x e) s = only (may_set (class_of x s) && fits_expr e s) s
stmt_fits (ImpStmt-F.Collect x ss) s =
    cond (is_some (option_and_then (all_fit ss) (declared x Pushable s))) (declared x Readable s) None
stmt_fits (ImpStmt-F.Push x e) s = only (may_push (class_of x s) && fits_expr e s) s
stmt_fits (ImpStmt-F.For x e a) s = only (fits_expr e s && is_some (option_and_then a (declared x Readable s))) s
stmt_fits (ImpStmt-F.If e a b) s = only (fits_expr e s && (part_fits a s && part_fits b s)) s

abbrev pub fits_stmt : ImpStmt → Scoping
fits_stmt t = fold-ImpStmt Scoping stmt_fits t

-- the scope behind the statements of a block
abbrev pub scope_at : ImpStmt-F ImpStmt → Option Scope
scope_at (ImpStmt-F.Block ss) = all_fit (map fits_stmt ss) []
scope_at _ = None

-- whether a variable may be read in a scope that is there
abbrev pub result_fits : ℕ → Option Scope → Bool
result_fits x None = false
result_fits x (Some s) = may_read (class_of x s)

-- a program: its statement is a block, which declares its variable itself
abbrev pub well_formed : Imp → Bool
well_formed p = result_fits p.result (scope_at (out-ImpStmt p.body))
