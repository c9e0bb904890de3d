-- Scopes as code holds them, and which statements fit by their parts.
use Rattle.std.specs.Prelude.{ℕ, Bool, not, ◌&&◌, [], ◌∷◌, Option, Some, None, is_some}
use Rattle.qc_imp_rules.specs.declared.scope.Chain.{Chain}
use Rattle.qc_imp_rules.specs.declared.scope.Chain.TheVariants as chain
use Rattle.qc_imp_rules.specs.declared.scope.Class as code
use Rattle.qc_imp_rules.specs.declared.scope.Class.TheVariants as variant
use Rattle.qc_imp.specs.declared.tree.ImpStmt.{ImpStmt}
use Rattle.qc_imp.specs.declared.tree.ImpStmt.TheOpen.{ImpStmt-F}
use Rattle.qc_imp.specs.declared.tree.ImpStmt.TheFolds.{map-ImpStmt}
use Rattle.qc_imp.specs.declared.tree.ImpStmt.TheViews.{out-ImpStmt}
use Rattle.qc_imp.specs.WellFormed.{Class, Settable, Readable, Pushable, Scope, Scoping, all_fit, class_of, fits_expr}
use Rattle.qc_imp.specs.WellFormed.{fits_stmt, may_push, may_set, part_fits, result_fits}

-- the class that code names
abbrev pub seen : code.Class → Class
seen variant.Settable = Settable
seen variant.Readable = Readable
seen variant.Pushable = Pushable

-- the scope of a chain
abbrev pub scope_of : Chain → Scope
scope_of chain.Empty = []
scope_of (chain.Declare' x class p outer) = (x, seen class) ∷ scope_of outer

-- none of the number is in scope
abbrev pub is_new : ℕ → Scope → Bool
is_new x s = not (is_some (class_of x s))

-- the variable that a statement declares, as what stands behind it sees it
abbrev pub declared_by : ImpStmt-F ImpStmt → Option (ℕ × code.Class)
declared_by (ImpStmt-F.Var x) = Some (x, variant.Settable)
declared_by (ImpStmt-F.Val x e) = Some (x, variant.Readable)
declared_by (ImpStmt-F.Collect x ss) = Some (x, variant.Readable)
declared_by _ = None

-- the scope with a variable that may be declared
abbrev pub with_declared : Option (ℕ × code.Class) → Scope → Scope
with_declared None s = s
with_declared (Some d) s = (d.0, seen d.1) ∷ s

-- whether there is a scope behind statements, in which a variable may be read if one is asked for
abbrev pub ends : Option ℕ → Option Scope → Bool
ends None o = is_some o
ends (Some x) o = result_fits x o

-- whether a form fits, by its parts
abbrev pub form_fits : ImpStmt-F Scoping → Scope → Bool
form_fits (ImpStmt-F.Block ss) s = is_some (all_fit ss s)
form_fits (ImpStmt-F.Var x) s = is_new x s
form_fits (ImpStmt-F.Val x e) s = fits_expr e s && is_new x s
form_fits (ImpStmt-F.Set x e) s = may_set (class_of x s) && fits_expr e s
form_fits (ImpStmt-F.Collect x ss) s = is_new x s && is_some (all_fit ss ((x, Pushable) ∷ s))
form_fits (ImpStmt-F.Push x e) s = may_push (class_of x s) && fits_expr e s
form_fits (ImpStmt-F.For x e a) s = fits_expr e s && (is_new x s && is_some (a ((x, Readable) ∷ s)))
form_fits (ImpStmt-F.If e a b) s = fits_expr e s && (part_fits a s && part_fits b s)

-- whether a statement fits
abbrev pub fits : ImpStmt → Scope → Bool
fits t s = form_fits (map-ImpStmt ImpStmt Scoping fits_stmt (out-ImpStmt t)) s
